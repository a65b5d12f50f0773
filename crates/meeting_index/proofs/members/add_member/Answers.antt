-- The carrier that is found, if it has a version.
use Rattle.std.proofs.Common.{List, subst, inl, inr, ◌≡◌, ◌∙◌, ap, sym, ℕ, [], ◌∷◌, Bool, true, false, ◌||◌, ◌&&◌, if◌then◌else◌, nat_eq, Option, Some, None, refl}
use Rattle.std.specs.List.{Contains, slice_get}
use Rattle.std.proofs.lemmas.List.Elements.{Contains-push_cases}
use Rattle.lists.specs.Sets.{has}
use Rattle.dep_fields.specs.Relationships.{VersionBound}
use Rattle.meeting_index.specs.Carriers.{Carrier, met_under}
use Rattle.meeting_index.specs.Fitting.{fits, fits_as, has_fitting}
use Rattle.meeting_index.specs.Members.{IsFound, IsReal}
use Rattle.meeting_index.specs.Provided.{carriers_listed}
use Rattle.meeting_index.specs.declared.carried.Carried.{Carried}
use Rattle.meeting_index.proofs.CrowdLaws.{or-none}
use Rattle.meeting_index.proofs.SideLaws.{fitting-end}
use Rattle.meeting_index.proofs.members.add_member.Goals as goal

-- a carrier without a version finds nothing
finds-none : (found : Option Carrier) → IsFound found None → (bound : VersionBound) (c : ℕ) → has (met_under (Some bound) found) c ≡ false
finds-none None is bound c = refl
finds-none (Some carrier) is bound c = ap (λ b. has (if b then carrier.version ∷ [] else []) c) (is bound)

one-cases : (b : Bool) (n c : ℕ) → has (if b then n ∷ [] else []) c ≡ (b && nat_eq n c)
one-cases true n c = or-none (nat_eq n c)
one-cases false n c = refl

finds-one : (found : Option Carrier) (y : Carried) → IsFound found (Some y) → (bound : VersionBound) (c : ℕ) → has (met_under (Some bound) found) c ≡ fits_as bound c y
finds-one None y is bound c = absurd is
finds-one (Some carrier) y is bound c =
    one-cases (carrier.passes (Some bound)) carrier.version c ∙ ap (λ b. b && nat_eq carrier.version c) (is.passes bound) ∙ ap (λ n. fits bound y && nat_eq n c) is.number

is-real : (carriers : List Carrier) (numbers : List ℕ) (y : Carried) (number : ℕ) (found : Option Carrier) → slice_get carriers number ≡ found → IsFound found (Some y)
    → y.carrier ≡ number → has numbers number ≡ true → IsReal carriers numbers y
is-real carriers numbers y number None e is at among = absurd is
is-real carriers numbers y number (Some carrier) e is at among = record {
  among = ap (has numbers) at ∙ among;
  carrier = carrier;
  is = ap (slice_get carriers) at ∙ e;
  stands = is;
}

pub returns-in-None-clause-fitting : goal.returns-in-None-clause-fitting
returns-in-None-clause-fitting c = λ bound n.
    let old = has_fitting c.args.list.now.items bound n in
    sym (or-none old) ∙ ap (λ b. old || b) (sym (finds-none (slice_get (carriers_listed c.args.carriers.now) c.args.number) c.in-None.ensures.found bound n))

pub returns-in_ok-push-in-Some : goal.returns-in_ok-push-in-Some
returns-in_ok-push-in-Some c =
    let carriers = carriers_listed c.args.carriers.now in
    let old = c.args.list.now.items in
    let carried = c.in-Some.carried in
    record {
      real = λ numbers among real y there.
          elim (Contains-push_cases old carried y (subst (λ (ys : List Carried). Contains ys y) c.in_ok-push-in-Some.ensures.items there)) as (λ _. IsReal carriers numbers y) [
            | inl before ↦ real y before
            | inr same ↦ subst (λ (x : Carried). IsReal carriers numbers x) same
                (is-real carriers numbers carried c.args.number (slice_get carriers c.args.number) refl c.in-Some.ensures.found c.in-Some.ensures.number among)
          ];
      fitting = λ bound n.
          ap (λ ys. has_fitting ys bound n) c.in_ok-push-in-Some.ensures.items
          ∙ fitting-end old carried bound n
          ∙ ap (λ b. has_fitting old bound n || b) (sym (finds-one (slice_get carriers c.args.number) carried c.in-Some.ensures.found bound n));
    }
