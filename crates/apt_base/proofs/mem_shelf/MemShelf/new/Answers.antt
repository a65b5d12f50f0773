use Rattle.apt_base.proofs.Shelves.{new_state}
use Rattle.apt_base.proofs.mem_shelf.MemShelf.new.Goals as goal

pub returns-clause-state : goal.returns-clause-state
returns-clause-state c = new_state _ _ _ c.new.ensures
