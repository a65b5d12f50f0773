use Rattle.frontier.specs.declared.slots.Class.TheVariants as class
use Rattle.frontier.proofs.ladder.best_where.Goals as goal

pub best_unless-requires-clause-right : goal.best_unless-requires-clause-right
best_unless-requires-clause-right c = c.requires.right class.Free

pub best_unless-requires-2-clause-right : goal.best_unless-requires-2-clause-right
best_unless-requires-2-clause-right c = c.requires.right class.Held

pub best_unless-requires-3-clause-right : goal.best_unless-requires-3-clause-right
best_unless-requires-3-clause-right c = c.requires.right class.Finished
