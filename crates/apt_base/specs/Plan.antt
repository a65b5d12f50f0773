-- How the calls of an object in memory go: some fail, and the others move at most so many bytes.
use Rattle.std.specs.Prelude.{ℕ, ◌+◌, ◌-◌, ◌^◌, min, Bool, length, ◌==◌, Result, Ok, Err, if◌then◌else◌}
use Rattle.std.specs.List.{list_any}
use Rattle.std.specs.Prelude.{◌≡◌, ◌&&◌, true, false, IsTrue}
use Rattle.std.proofs.lemmas.Bool.{eqb-true}
use Rattle.apt_base.specs.declared.calls.Failed.{Failed}
use Rattle.apt_base.specs.declared.plan.Plan.{Plan}

-- whether no call is to fail
abbrev pub fails_never : Plan → Bool
fails_never plan = length plan.failing.items == 0

-- the call that comes next is one of those that fail
abbrev pub fails_now : Plan → Bool
fails_now plan = list_any (λ call. call == plan.calls) plan.failing.items

-- what it answers, where so many bytes could be moved
abbrev pub planned : Plan → ℕ → Result ℕ Failed
planned plan most = if fails_now plan then Err (record {}) else Ok (min plan.piece most)

-- one call more was made
abbrev pub one_call_more : Plan → Plan
one_call_more plan = record plan { calls = min (plan.calls + 1) (2 ^ 64 - 1) }

-- an object that is sure by its plan and its count has a count of 0
pub sure_has_none : (never : Bool) (faults : ℕ) → IsTrue (never && (faults == 0)) → faults ≡ 0
sure_has_none true faults sure = eqb-true faults 0 sure
sure_has_none false faults sure = cc
