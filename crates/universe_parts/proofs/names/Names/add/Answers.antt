-- A name is found, or goes to the end of the list.
use Rattle.std.proofs.Common.{◌≡◌, ◌∙◌, ap, sym, List, [], ◌∷◌, ◌++◌, ℕ, length}
use Rattle.universe_parts.specs.Names.{with_name}
use Rattle.universe_parts.proofs.Texts.{position_or_len-none, with_name-found, with_name-new}
use Rattle.universe_parts.proofs.Distinct.{with_name-distinct}
use Rattle.universe_parts.proofs.names.Names.add.Goals as goal

pub returns-in-Some-clause-added : goal.returns-in-Some-clause-added
returns-in-Some-clause-added c = with_name-found c.args.self.now c.args.name.now c.in-Some.number (sym c.number_of.ensures ∙ c.in-Some.is)

pub returns-in-Some-clause-read : goal.returns-in-Some-clause-read
returns-in-Some-clause-read c =
    λ read are.
    with_name-found c.args.self.now c.args.name.now c.in-Some.number (sym c.number_of.ensures ∙ c.in-Some.is)
    ∙ ap (λ (names : List (List ℕ)). with_name names c.args.name.now) are
    ∙ with_name-distinct read c.args.name.now

pub returns-in-Ok-clause-number : goal.returns-in-Ok-clause-number
returns-in-Ok-clause-number c =
    c.len-number.ensures
    ∙ ap (λ (names : List (List ℕ)). length names) c.self.view_is
    ∙ position_or_len-none c.args.self.now c.args.name.now (sym c.in_default.ensures)

-- the kept names are those with the name
added : (c : goal.After-self-in-Ok-1) → c.push.new.self ≡ with_name c.args.self.now c.args.name.now
added c =
    c.in_ok-push.ensures
    ∙ ap (λ (names : List (List ℕ)). names ++ c.args.name.now ∷ []) c.self.view_is
    ∙ with_name-new c.args.self.now c.args.name.now (sym c.in_default.ensures)

pub returns-in-Ok-clause-added : goal.returns-in-Ok-clause-added
returns-in-Ok-clause-added c = added c

pub returns-in-Ok-clause-read : goal.returns-in-Ok-clause-read
returns-in-Ok-clause-read c =
    λ read are. added c ∙ ap (λ (names : List (List ℕ)). with_name names c.args.name.now) are ∙ with_name-distinct read c.args.name.now
