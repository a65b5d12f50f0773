use Rattle.std.proofs.Common.{rules, tests}
use Rattle.std.proofs.lemmas.Iterator.Consumers.{YieldsList-from_first}
use Rattle.std.proofs.lemmas.Iterator.Search.{all_from_yields_List}
use Rattle.dep_fields.specs.Relationships.{meaning}
use Rattle.dep_fields.specs.Views.{group_items, items_left}
use Rattle.dep_fields.specs.Provides.{is_exact}
use Rattle.dep_fields.proofs.checks.is_exact_group.Goals as goal

pub returns : goal.returns
returns c = all_from_yields_List is_exact c.all.new.self _ c.all.result c.all.ensures.ran (YieldsList-from_first meaning items_left (group_items c.args.group.now) c.items.ensures) (λ x b q k. search (rules, tests))
