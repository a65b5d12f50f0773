use Rattle.std.proofs.Common.{rules, ◌≡◌, ◌+◌, ◌*◌, [], ◌∷◌, ℕ, List, length, sym, subst, ap}
use Rattle.atomic_table.specs.Table.{opening}
use Rattle.search_core.specs.Sessions.{Session}
use Rattle.cell_rule.specs.Views.{first_view}
use Rattle.cell_rule.specs.Turns.{IsKept}
use Rattle.cell_rule.proofs.Keeps.{begins}
use Rattle.session_cell.proofs.pass.lay.Goals as goal

pub new-requires : goal.new-requires
new-requires c =
    let session : Session = c.args.session in
    let items : c.push_reserved.new.self.items ≡ session ∷ [] = search rules in
    let count : 2 * c.count_entries-count.result + 1 ≡ 2 * length session.history + 1 = ap (λ n. 2 * n + 1) c.count_entries-count.ensures.count in
    let about : c.of-about.result.value ≡ session = c.of-about.ensures in
    let Q : Session × ℕ × List Session → Type 0 = λ q. IsKept q.0 (opening (q.1 ∷ []) q.2 (first_view q.0)) in
    subst Q (λ k. (sym about k, sym count k, sym items k)) (begins session c.count_entries-count.ensures.setting.actors)
