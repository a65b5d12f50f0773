-- Where no versions are listed, the packages alone.
use Rattle.std.proofs.Common.{◌≡◌, ◌∙◌, ap, refl, sym, map, false}
use Rattle.std.specs.List.{list_any}
use Rattle.dep_fields.specs.Relationships.{meaning}
use Rattle.requirement_list.specs.Answers.{bare, left_by, met_packages}
use Rattle.requirement_list.specs.Extents.{lists}
use Rattle.requirement_list.specs.Settings.{setting_in}
use Rattle.requirement_list.proofs.Bare.{bare-left, packages-are}
use Rattle.requirement_list.proofs.walk.list_row.Goals as goal

pub returns : goal.returns
returns c =
    let p = c.args.problem.now in
    let s = setting_in c.args.index.now p in
    let item = meaning c.args.item.now in
    let qs = c.packages.new.packages.items in
    let are : qs ≡ met_packages s item = packages-are s item p c.versions-versions.ensures.formed c.requires refl qs c.in_ok-packages.ensures.rising c.in_ok-packages.ensures.packages in
    let none : list_any (lists c.args.extent) qs ≡ false = ap (list_any (lists c.args.extent)) (sym c.as_slice.ensures.value) ∙ sym c.lists_one.ensures ∙ c.if-lists_one.false in
    c.in_ok-list_owners.ensures
    ∙ ap (map bare) c.as_slice-2.ensures.value
    ∙ bare-left s item c.args.extent qs none
    ∙ ap (map (left_by s item c.args.extent)) are
