use Rattle.dep_fields.proofs.Laws.{reads-items, sees-restrictions, reads-fields}
use Rattle.dep_fields.proofs.grammar.Goals as goal

pub returns-clause-items : goal.returns-clause-items
returns-clause-items c = reads-items

pub returns-clause-restrictions : goal.returns-clause-restrictions
returns-clause-restrictions c = sees-restrictions

pub returns-clause-fields : goal.returns-clause-fields
returns-clause-fields c = reads-fields
