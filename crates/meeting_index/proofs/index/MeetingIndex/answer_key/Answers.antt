-- The carrier of the key is one of the name.
use Rattle.std.proofs.Common.{◌≤◌, false, arith, ◌≡◌, ◌∙◌, ap, sym, subst, refl, ℕ, List, [], ◌∷◌, true, map, length, nat_eq, nat_lt, get_or, option_map}
use Rattle.std.specs.List.{flat_map, slice_get}
use Rattle.std.proofs.lemmas.Bool.{ltb-false}
use Rattle.lists.specs.Sets.{has}
use Rattle.lists.proofs.Sets.{has-first}
use Rattle.dep_fields.specs.Relationships.{bound_of, meaning}
use Rattle.universe_model.specs.Meeting.{is_plain, meets}
use Rattle.universe_model.specs.Lists.{numbers_of}
use Rattle.meeting_index.specs.Carriers.{carriers, is_named, met_under}
use Rattle.meeting_index.proofs.CarrierLists.{found-carried, has-carried, has-found, has-none}
use Rattle.meeting_index.proofs.Fewness.{found-few, none-few, rising-fits}
use Rattle.meeting_index.proofs.Numbers.{numbers_from-rising}
use Rattle.universe_parts.specs.Listed.{version_listed}
use Rattle.meeting_index.specs.Crowds.{crowds_have, is_crowd}
use Rattle.meeting_index.specs.Indexes.{Indexed}
use Rattle.meeting_index.specs.Keys.{IsKeyOf}
use Rattle.meeting_index.specs.NameTables.{numbers_at}
use Rattle.meeting_index.specs.Spans.{span_of}
use Rattle.meeting_index.specs.declared.keys.Span.{Span}
use Rattle.meeting_index.specs.declared.keys.Span.TheVariants as span
use Rattle.meeting_index.specs.declared.named.Name.{Name}
use Rattle.meeting_index.proofs.AnswerKeys.{asked, key-of-all, key-of-bound}
use Rattle.meeting_index.proofs.index.MeetingIndex.answer_key.Goals as goal

first-of : (numbers : List ℕ) → nat_lt 16 (length numbers) ≡ true → has numbers (get_or numbers 0 0) ≡ true
first-of [] many = absurd (cc)
first-of (number ∷ numbers) many = has-first number numbers

pub returns-in-None-clause-key : goal.returns-in-None-clause-key
returns-in-None-clause-key c =
    let index = c.self.inside in
    let native = index.native.now in
    let vs = map version_listed index.versions.now in
    let item = meaning c.args.item.now in
    let name : Name = record { bytes = c.args.item.now.name } in
    let number = get_or c.at-numbers.result.now 0 0 in
    let plain : is_plain native item.arch ≡ true = sym c.is_plain-plain.ensures ∙ c.if-not-plain.false in
    let many : is_crowd (numbers_at index.named name.bytes.now) ≡ true = sym (c.is_crowd.ensures ∙ ap is_crowd c.at-numbers.ensures) ∙ c.if-not-is_crowd.false in
    subst (λ (i : Indexed). IsKeyOf i item (record { span = span.All; carrier = number })) c.self.view_is
    (key-of-all native vs index.crowds name.bytes.now (c.self.invariant.crowds name many) item number plain refl (ap (option_map bound_of) c.in-None.is)
    (sym (c.self.invariant.named name (λ m. nat_eq m number))
    ∙ ap (λ (ns : List ℕ). has ns number) (sym c.at-numbers.ensures)
    ∙ first-of c.at-numbers.result.now (sym c.is_crowd.ensures ∙ c.if-not-is_crowd.false)))

pub returns-in_ok-carrier-in-Some-clause-key : goal.returns-in_ok-carrier-in-Some-clause-key
returns-in_ok-carrier-in-Some-clause-key c =
    let index = c.self.inside in
    let native = index.native.now in
    let vs = map version_listed index.versions.now in
    let item = meaning c.args.item.now in
    let name : Name = record { bytes = c.args.item.now.name } in
    let bound = bound_of (c.in-Some.op, c.in-Some.version) in
    let carrier = c.in_ok-carrier-in-Some.carrier in
    let edge = c.in_ok-carrier-in-Some.ensures in
    let plain : is_plain native item.arch ≡ true = sym c.is_plain-plain.ensures ∙ c.if-not-plain.false in
    let many : is_crowd (numbers_at index.named name.bytes.now) ≡ true = sym (c.is_crowd.ensures ∙ ap is_crowd c.at-numbers.ensures) ∙ c.if-not-is_crowd.false in
    subst (λ (s : Span). IsKeyOf c.args.self.now item (record { span = s; carrier = carrier })) (sym c.span_of-span.ensures)
    (subst (λ (i : Indexed). IsKeyOf i item (record { span = span_of bound.op; carrier = carrier })) c.self.view_is
    (key-of-bound native vs index.crowds name.bytes.now (c.self.invariant.crowds name many) item bound carrier (numbers_at index.named name.bytes.now) edge
    (c.self.invariant.real name many edge.crowd edge.is) (λ n. c.self.invariant.named name (λ m. nat_eq m n)) plain refl
    (ap (option_map bound_of) c.in-Some.is)))

pub returns-then-not-plain-clause-few : goal.returns-then-not-plain-clause-few
returns-then-not-plain-clause-few c = λ none.
    let index = c.self.inside in
    let native = index.native.now in
    let vs = map version_listed index.versions.now in
    let item = meaning c.args.item.now in
    let other : is_plain native item.arch ≡ false = sym c.is_plain-plain.ensures ∙ c.if-not-plain.true in
    subst (λ (i : Indexed). length (numbers_of (meets i.native item) i.versions) ≤ 16) c.self.view_is
    (none-few (numbers_of (meets native item) vs) (λ n. sym (has-carried native vs item n) ∙ has-none native vs item n other))

pub returns-then-not-is_crowd-clause-few : goal.returns-then-not-is_crowd-clause-few
returns-then-not-is_crowd-clause-few c = λ none.
    let index = c.self.inside in
    let native = index.native.now in
    let vs = map version_listed index.versions.now in
    let item = meaning c.args.item.now in
    let name : Name = record { bytes = c.args.item.now.name } in
    let plain : is_plain native item.arch ≡ true = sym c.is_plain-plain.ensures ∙ c.if-not-plain.false in
    let all = carriers native vs in
    let find = λ (number : ℕ). met_under item.rel (slice_get all number) in
    let at = numbers_at index.named name.bytes.now in
    let named = numbers_of (is_named item.name) all in
    let few : nat_lt 16 (length at) ≡ false = ap (λ (ns : List ℕ). nat_lt 16 (length ns)) (sym c.at-numbers.ensures) ∙ sym c.is_crowd.ensures ∙ c.if-not-is_crowd.true in
    let inside : (n : ℕ) → has (numbers_of (meets native item) vs) n ≡ has (flat_map find at) n =
    λ n.
    sym (has-carried native vs item n)
    ∙ ap (λ ns. has ns n) (sym (found-carried native vs item all named plain refl refl))
    ∙ has-found find named n
    ∙ sym (c.self.invariant.named name (λ m. has (find m) n))
    ∙ sym (has-found find at n) in
    let most : length (numbers_of (meets native item) vs) ≤ length (flat_map find at) =
    rising-fits (numbers_of (meets native item) vs) (flat_map find at) (numbers_from-rising 0 (meets native item) vs) (λ n h. sym (inside n) ∙ h) in
    let less : length (flat_map find at) ≤ length at = found-few item.rel (slice_get all) at in
    let small : length at ≤ 16 = ltb-false 16 (length at) few in
    subst (λ (i : Indexed). length (numbers_of (meets i.native item) i.versions) ≤ 16) c.self.view_is (omega (arith, most, less, small))

pub returns-in_err-carrier-in-Some-clause-few : goal.returns-in_err-carrier-in-Some-clause-few
returns-in_err-carrier-in-Some-clause-few c = λ none.
    let index = c.self.inside in
    let native = index.native.now in
    let vs = map version_listed index.versions.now in
    let item = meaning c.args.item.now in
    let name : Name = record { bytes = c.args.item.now.name } in
    let plain : is_plain native item.arch ≡ true = sym c.is_plain-plain.ensures ∙ c.if-not-plain.false in
    let many : is_crowd (numbers_at index.named name.bytes.now) ≡ true = sym (c.is_crowd.ensures ∙ ap is_crowd c.at-numbers.ensures) ∙ c.if-not-is_crowd.false in
    subst (λ (i : Indexed). length (numbers_of (meets i.native item) i.versions) ≤ 16) c.self.view_is
    (none-few (numbers_of (meets native item) vs)
    (λ n.
    sym (asked native vs index.crowds name.bytes.now (c.self.invariant.crowds name many) item plain refl n)
    ∙ ap (λ rel. crowds_have index.crowds name.bytes.now rel n) (ap (option_map bound_of) c.in-Some.is)
    ∙ c.in_err-carrier-in-Some.ensures n))
