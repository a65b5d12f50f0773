use Rattle.std.proofs.Common.{◌≡◌, ◌++◌, drop}
use Rattle.std.specs.List.{flat_map, slice_get}
use Rattle.std.specs.Option.{option_map}
use Rattle.dep_fields.specs.Relationships.{bound_of}
use Rattle.meeting_index.specs.Carriers.{met_under}
use Rattle.meeting_index.specs.Provided.{carriers_listed}
use Rattle.meeting_index.proofs.found.add_met.Given as goal

-- what is found so far, and by what is left, is all
abbrev pub invariant-loop-number : goal.invariant-loop-number
invariant-loop-number l =
    l.met.items ++ flat_map (λ number. met_under (option_map bound_of l.bound) (slice_get (carriers_listed l.carriers) number)) (drop l.number-index l.numbers)
    ≡ l.initial.met.items ++ flat_map (λ number. met_under (option_map bound_of l.bound) (slice_get (carriers_listed l.carriers) number)) l.numbers
