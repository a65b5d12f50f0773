use Rattle.std.proofs.Common.{◌≡◌, ◌∙◌, ap}
use Rattle.std.specs.List.{slice_range}
use Rattle.resolver_model.specs.Problems.{Problem, version_count}
use Rattle.dep_fields.specs.Relationships.{meaning}
use Rattle.requirement_list.specs.Settings.{setting_in, setting_of}
use Rattle.requirement_list.specs.Answers.{row_of}
use Rattle.requirement_list.proofs.Concerned.{version_size}
use Rattle.requirement_list.proofs.FlatLeft.{range_whole}
use Rattle.requirement_list.proofs.Rows.{listed_sound, row_adds}
use Rattle.requirement_list.proofs.conflicts.add_anew.Goals as goal

pub add_row-requires-clause-sound : goal.add_row-requires-clause-sound
add_row-requires-clause-sound c =
    let old = c.args.collected.now in
    let index = c.args.index.now in
    let item = meaning c.args.item.now in
    let extent = c.extent_for-extent.result in
    let listed = c.list_row.new.walk.listed in
    let is : slice_range listed 0 c.len.result ≡ row_of (setting_of index old) item extent =
    ap (slice_range listed 0) c.len.ensures ∙ range_whole listed ∙ c.in_ok-list_row.ensures
    ∙ ap (λ (p : Problem). row_of (setting_in index p) item extent) c.parts-problem.ensures in
    listed_sound (setting_of index old) item extent (version_count old.builder) listed 0 c.len.result (version_size old.builder index.versions c.requires.owners) is

pub returns-clause-adds : goal.returns-clause-adds
returns-clause-adds c =
    let old = c.args.collected.now in
    let index = c.args.index.now in
    let item = meaning c.args.item.now in
    let extent = c.extent_for-extent.result in
    let listed = c.list_row.new.walk.listed in
    let is : slice_range listed 0 c.len.result ≡ row_of (setting_of index old) item extent =
    ap (slice_range listed 0) c.len.ensures ∙ range_whole listed ∙ c.in_ok-list_row.ensures
    ∙ ap (λ (p : Problem). row_of (setting_in index p) item extent) c.parts-problem.ensures in
    row_adds (setting_of index old) c.args.source c.args.own item extent (slice_range listed 0 c.len.result) old c.add_row.result c.add_row.new.collected old.past is c.extent_for-extent.ensures c.add_row.ensures
