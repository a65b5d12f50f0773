use Rattle.std.proofs.Common.{◌≡◌, drop}
use Rattle.std.specs.List.{flat_map, slice_get}
use Rattle.std.specs.Option.{option_map}
use Rattle.dep_fields.specs.Relationships.{bound_of}
use Rattle.meeting_index.specs.Carriers.{met_under}
use Rattle.meeting_index.specs.Provided.{carriers_listed}
use Rattle.meeting_index.proofs.found.first_met.Given as goal

-- those so far find nothing
abbrev pub invariant-loop-number : goal.invariant-loop-number
invariant-loop-number l =
    flat_map (λ number. met_under (option_map bound_of l.bound) (slice_get (carriers_listed l.carriers) number)) (drop l.number-index l.numbers)
    ≡ flat_map (λ number. met_under (option_map bound_of l.bound) (slice_get (carriers_listed l.carriers) number)) l.numbers
