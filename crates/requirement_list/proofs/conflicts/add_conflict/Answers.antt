use Rattle.std.specs.List.{slice_range}
use Rattle.resolver_model.specs.Problems.{version_count}
use Rattle.dep_fields.specs.Relationships.{meaning}
use Rattle.requirement_list.specs.Settings.{setting_of}
use Rattle.requirement_list.proofs.Concerned.{version_size}
use Rattle.requirement_list.proofs.Rows.{kept_row, kept_is, listed_sound, row_adds}
use Rattle.requirement_list.proofs.conflicts.add_conflict.Goals as goal

pub add_row-requires-clause-order : goal.add_row-requires-clause-order
add_row-requires-clause-order c =
    (kept_row (setting_of c.args.index.now c.args.collected.now) c.args.room.now.answers c.answer_key-key.result c.in-Some.row c.requires.kept (c.in-Some.ensures).0).order

pub add_row-requires-clause-within : goal.add_row-requires-clause-within
add_row-requires-clause-within c =
    (kept_row (setting_of c.args.index.now c.args.collected.now) c.args.room.now.answers c.answer_key-key.result c.in-Some.row c.requires.kept (c.in-Some.ensures).0).within

pub add_row-requires-clause-sound : goal.add_row-requires-clause-sound
add_row-requires-clause-sound c =
    let old = c.args.collected.now in
    let index = c.args.index.now in
    let answers = c.args.room.now.answers in
    let row = c.in-Some.row in
    let item = meaning c.args.item.now in
    let is = kept_is (setting_of index old) answers c.answer_key-key.result row item c.requires.kept (c.in-Some.ensures).0 c.answer_key-key.ensures.key in
    listed_sound (setting_of index old) item row.extent (version_count old.builder) answers.table row.first row.end (version_size old.builder index.versions c.requires.owners) is

pub returns-in-Some-clause-adds : goal.returns-in-Some-clause-adds
returns-in-Some-clause-adds c =
    let old = c.args.collected.now in
    let index = c.args.index.now in
    let answers = c.args.room.now.answers in
    let row = c.in-Some.row in
    let item = meaning c.args.item.now in
    let is = kept_is (setting_of index old) answers c.answer_key-key.result row item c.requires.kept (c.in-Some.ensures).0 c.answer_key-key.ensures.key in
    row_adds (setting_of index old) c.args.source c.args.own item row.extent (slice_range answers.table row.first row.end) old c.add_row.result c.add_row.new.collected old.past is (c.in-Some.ensures).1 c.add_row.ensures
