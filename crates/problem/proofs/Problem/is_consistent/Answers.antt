use Rattle.std.proofs.Common.{◌+◌, ℕ, List, IsTrue, sym, subst}
use Rattle.lists.specs.Sets.{is_rising}
use Rattle.lists.proofs.Sets.{is_rising-drop}
use Rattle.problem.proofs.Problem.is_consistent.Goals as goal

-- whether numbers rise
abbrev IsRising : List ℕ → Type 0
IsRising xs = IsTrue (is_rising xs)

pub any_installs-requires : goal.any_installs-requires
any_installs-requires c =
    let all : IsRising c.as_slice-items.result.now = subst IsRising (sym c.as_slice-items.ensures.items) c.as_slice-items.ensures.rising in
    subst IsRising (sym c.split_at.ensures.back) (is_rising-drop c.as_slice-items.result.now (c.loop-place.place + 1) all)
