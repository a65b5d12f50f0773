-- The cell is closed with the hands of all actors in one view.
use Rattle.std.proofs.Common.{◌≡◌, ◌<◌, ℕ, List, ◌∷◌, true, ap, sym, subst, ◌∙◌}
use mathlib.Core.Option.{Option, some, some-injective}
use lib.ListN.{get_elem?}
use Rattle.atomic_table.specs.Table.{Final, Seen}
use Rattle.search_core.specs.Sessions.{Session}
use Rattle.cell_rule.specs.declared.view.Hand.{Hand}
use Rattle.cell_rule.specs.declared.view.View.{View}
use Rattle.cell_rule.specs.Views.{gathered, stands, Each}
use Rattle.cell_rule.specs.Turns.{IsKept}
use Rattle.session_cell.specs.Passes.{Holds}
use Rattle.cell_rule.proofs.Keeps.{closes}

pub closed : (start : Session) (id : ℕ) (m : View) (h : Hand) (js all : List Hand) (ws : List ℕ) (xs : List Session) (session : Session)
    → m ≡ gathered h js → all ≡ h ∷ js → Final (Seen (IsKept start) id m) ws xs → ((actor : ℕ) → actor < start.setting.actors → stands actor all ≡ true) → get_elem? xs 0 ≡ some session
    → (session.setting ≡ start.setting) × Each (Holds session.history) all
closed start id m h js all ws xs session view hands final stand first =
    let s = final.0 in
    let seen = subst (λ (v : View). Seen (IsKept start) id v s) view final.1 in
    let end = closes start id h js s seen (λ actor below. subst (λ (l : List Hand). stands actor l ≡ true) hands (stand actor below)) in
    let y : Session = end.0 in
    let home : get_elem? s.homes 0 ≡ some (some y) = ap (λ (l : List (Option Session)). get_elem? l 0) end.1 in
    let same : y ≡ session = some-injective y session (sym (final.4 0 y home) ∙ first) in
    subst (λ (z : Session). (z.setting ≡ start.setting) × Each (Holds z.history) all) same (end.2, subst (Each (Holds y.history)) (sym hands) end.3)
