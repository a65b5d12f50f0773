-- The carrier with a number is the version with it, or what is provided at the place behind all versions.
use Rattle.std.proofs.Common.{◌≡◌, ◌∙◌, sym, ap, zero-add, map, length, ◌-◌, None, Some, get_or}
use Rattle.std.specs.List.{slice_get}
use Rattle.std.specs.Option.{option_map}
use Rattle.std.proofs.lemmas.Option.{slice_get-map, slice_get-get_or, slice_get_past}
use Rattle.dep_fields.specs.Relationships.{bound_of}
use Rattle.meeting_index.specs.Carriers.{met_under, own}
use Rattle.meeting_index.specs.Provided.{carrier_of}
use Rattle.meeting_index.proofs.CarrierLists.{carrier-behind, slice_get-own}
use Rattle.universe_parts.specs.Listed.{version_listed}
use Rattle.meeting_index.proofs.found.version_found.Goals as goal

pub returns-then-place-own : goal.returns-then-place-own
returns-then-place-own c =
    let versions = c.args.carriers.now.versions.now in
    let place = c.args.number in
    let version = get_or versions place c.index-carriers-place.result in
    let there : slice_get (map version_listed versions) place ≡ Some (version_listed version) =
    slice_get-map version_listed versions place
    ∙ ap (option_map version_listed) (slice_get-get_or versions place c.index-carriers-place.result c.if-place-own.true) in
    c.own_found.ensures
    ∙ ap (met_under (option_map bound_of c.args.bound))
    (sym (slice_get-own 0 (map version_listed versions) (map carrier_of c.args.carriers.now.provided.now) place (version_listed version) there
    ∙ ap (λ m. Some (own m (version_listed version))) (zero-add place)))

pub returns-then-place-own-2 : goal.returns-then-place-own-2
returns-then-place-own-2 c =
    let provided = c.args.carriers.now.provided.now in
    let place = c.args.number - length c.args.carriers.now.versions.now in
    let item = get_or provided place c.index-carriers-place-then-place-own-2.result in
    let there : slice_get (map carrier_of provided) place ≡ Some (carrier_of item) =
    slice_get-map carrier_of provided place
    ∙ ap (option_map carrier_of) (slice_get-get_or provided place c.index-carriers-place-then-place-own-2.result c.if-place-own-2.true) in
    c.provided_found.ensures ∙ ap (met_under (option_map bound_of c.args.bound)) (sym (carrier-behind c.args.carriers.now c.args.number c.if-place-own.false ∙ there))

pub returns-else-place-own-2 : goal.returns-else-place-own-2
returns-else-place-own-2 c =
    let provided = c.args.carriers.now.provided.now in
    let place = c.args.number - length c.args.carriers.now.versions.now in
    let none : slice_get (map carrier_of provided) place ≡ None =
    slice_get-map carrier_of provided place ∙ ap (option_map carrier_of) (slice_get_past provided place c.if-place-own-2.false) in
    ap (met_under (option_map bound_of c.args.bound)) (sym (carrier-behind c.args.carriers.now c.args.number c.if-place-own.false ∙ none))
