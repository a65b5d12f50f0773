use Rattle.std.proofs.Common.{sym, ◌∙◌}
use Rattle.lists.specs.Sets.{has}
use Rattle.resolver_model.specs.Rules.{Rules}
use Rattle.user_rules.proofs.Searches.{first_from, none_from, match_from, outside, least_against-both, least_against-missing, least_against-there}
use Rattle.user_rules.proofs.rules.Rules.first_against.Goals as goal

pub returns-in-Some-Some : goal.returns-in-Some-Some
returns-in-Some-Some c =
    let rules : Rules = record { approved = c.self.inside.approved; rejected = c.self.inside.rejected; caps = c.self.inside.caps.items } in
    let missing = first_from (outside rules c.args.set.now) c.self.inside.approved c.in-Some-Some.missing c.first_outside.ensures.rising (sym c.in-Some-Some.is-0 ∙ c.first_outside.ensures.value) in
    let there = first_from (has c.args.set.now) c.self.inside.rejected c.in-Some-Some.there c.first_inside.ensures.rising (sym c.in-Some-Some.is-1 ∙ c.first_inside.ensures.value) in
    rw (← c.self.view_is, c.min.ensures) (least_against-both rules c.args.set.now c.in-Some-Some.missing c.in-Some-Some.there missing there)

pub returns-in-Some-None : goal.returns-in-Some-None
returns-in-Some-None c =
    let rules : Rules = record { approved = c.self.inside.approved; rejected = c.self.inside.rejected; caps = c.self.inside.caps.items } in
    let missing = first_from (outside rules c.args.set.now) c.self.inside.approved c.in-Some-None.missing c.first_outside.ensures.rising (sym c.in-Some-None.is-0 ∙ c.first_outside.ensures.value) in
    let none = none_from (has c.args.set.now) c.self.inside.rejected c.first_inside.ensures.rising (sym c.in-Some-None.is-1 ∙ c.first_inside.ensures.value) in
    rw (← c.self.view_is) (least_against-missing rules c.args.set.now c.in-Some-None.missing missing none)

pub returns-in-None-default : goal.returns-in-None-default
returns-in-None-default c =
    let rules : Rules = record { approved = c.self.inside.approved; rejected = c.self.inside.rejected; caps = c.self.inside.caps.items } in
    let none = none_from (outside rules c.args.set.now) c.self.inside.approved c.first_outside.ensures.rising (sym c.in-None-default.is-0 ∙ c.first_outside.ensures.value) in
    let there = match_from (has c.args.set.now) c.self.inside.rejected c.first_inside.result c.first_inside.ensures.rising c.first_inside.ensures.value in
    rw (← c.self.view_is) (least_against-there rules c.args.set.now c.first_inside.result none there)
