-- The numbers of the versions with a name, and then those of what is provided.
use Rattle.std.proofs.Common.{◌≡◌, ◌∙◌, sym, ap, map, length, ◌++◌, ℕ, List, [], replicate}
use Rattle.std.specs.List.{list_any}
use Rattle.std.proofs.lemmas.List.{length-map}
use Rattle.meeting_index.specs.Carriers.{is_named, own}
use Rattle.meeting_index.specs.Named.{numbers_in}
use Rattle.meeting_index.specs.Numbers.{numbers_from}
use Rattle.meeting_index.specs.Provided.{carrier_of}
use Rattle.meeting_index.specs.Rows.{numbers_by}
use Rattle.meeting_index.specs.declared.named.Named.{Named}
use Rattle.meeting_index.proofs.CarrierLists.{named-carriers}
use Rattle.meeting_index.proofs.NumberRows.{numbers-none, rows-empty}
use Rattle.universe_model.specs.Lists.{map_from, numbers_of}
use Rattle.universe_parts.specs.Listed.{version_listed}
use Rattle.meeting_index.proofs.naming.name_carriers.Goals as goal

pub name_versions-requires-clause-rows : goal.name_versions-requires-clause-rows
name_versions-requires-clause-rows c =
    rows-empty c.args.names.now c.in_ok-rows.rows.items (c.in_ok-rows.ensures ∙ ap (λ (n : ℕ). replicate {A = List ℕ} n []) c.len.ensures)

pub returns : goal.returns
returns c =
    let versions = c.args.versions.now in
    let provided = map carrier_of c.args.provided.now in
    let names = c.args.names.now in
    let rows = c.in_ok-rows.rows.items in
    λ name test.
    let bytes = name.bytes.now in
    let none : numbers_by names rows (numbers_in c.new-others.result.items bytes) bytes ≡ [] =
    ap (λ (others : List Named). numbers_by names rows (numbers_in others bytes) bytes) c.new-others.ensures.items
    ∙ numbers-none names rows (c.in_ok-rows.ensures ∙ ap (λ (n : ℕ). replicate {A = List ℕ} n []) c.len.ensures) bytes in
    c.in_ok-named.ensures bytes test
    ∙ ap (list_any test)
    (c.in_ok-name_provided.ensures.named name
    ∙ ap (λ (numbers : List ℕ). numbers ++ numbers_from (length versions) (is_named bytes) provided)
    (c.in_ok-name_versions.ensures.named name
    ∙ ap (λ (numbers : List ℕ). numbers ++ numbers_of (is_named bytes) (map_from own 0 (map version_listed versions))) none)
    ∙ named-carriers bytes (map version_listed versions) provided (length versions) (sym (length-map versions version_listed)))
