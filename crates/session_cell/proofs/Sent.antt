-- A pass may go to another thread, and threads may share a cell.
use denote.RattleType.{RattleType}
use denote.Param.Send.{IsSend, IsSync, sendable, view_send, view_sync, owning_send}
use denote.Param.SendFields.{FieldsHave, declared_send, declared_sync}
use Rattle.std.proofs.vec.Vec.TheSendSync as vec
use Rattle.std.proofs.option.Option.TheSendSync as option
use Rattle.std.proofs.alloc.Global.TheSendSync as global
use Rattle.std.below.std_heap.proofs.GlobalAllocator.TheSendSync as allocator
use Rattle.std.specs.contracts.snapshot.Snapshot as snapshot
use Rattle.atomic_table.proofs.shared.Seat.TheSendSync as seat
use Rattle.atomic_table.proofs.owned.Table.TheSendSync as table
use Rattle.choice_set.proofs.ChoiceSet.TheSendSync as choice_set
use Rattle.resolver_model.proofs.costs.Cost.TheSendSync as cost
use Rattle.resolver_model.proofs.history.By.TheSendSync as by
use Rattle.resolver_model.proofs.lines.Line.TheSendSync as line
use Rattle.user_rules.proofs.rules.Rules.TheSendSync as rules
use Rattle.promotions.proofs.learned.Learned.TheSendSync as learned
use Rattle.problem.specs.contracts.Problem as problem
use Rattle.cost_vector.specs.contracts.table.CostTable as cost_table
use Rattle.basis.specs.contracts.Basis as basis
use Rattle.frontier.proofs.slots.Slot.TheSendSync as slot
use Rattle.frontier.proofs.ladder.Best.TheSendSync as best
use Rattle.frontier.specs.contracts.store.Frontier as frontier
use Rattle.frontier.specs.contracts.store.Frontier.TheInside as frontier_inside
use Rattle.search_core.proofs.log.Log.TheSendSync as log
use Rattle.search_core.specs.contracts.ledger.Ledger as ledger
use Rattle.search_core.specs.contracts.ledger.Ledger.TheInside as ledger_inside
use Rattle.search_core.specs.contracts.session.Session as session
use Rattle.search_core.specs.contracts.session.Session.TheInside as session_inside
use Rattle.session_cell.specs.contracts.pass.Pass as pass
use Rattle.session_cell.specs.contracts.pass.Pass.TheInside as pass_inside
use Rattle.session_cell.specs.contracts.cell.SessionCell as cell
use Rattle.session_cell.specs.contracts.cell.SessionCell.TheInside as cell_inside

snapshot_send : (T : RattleType) → IsSend (snapshot.the_row T)
snapshot_send T = owning_send (snapshot.the_type T) (search sendable, tt) (λ d. tt) (λ k x w. tt)

ledger_fields : FieldsHave IsSend ledger_inside.the_type.parts
ledger_fields = (snapshot_send basis.the_row, (rules.the_send, (search sendable, (search sendable, (search (sendable, vec.the_send, global.the_send, allocator.the_frees) depth 20, (search (sendable, vec.the_send, option.the_send, global.the_send, allocator.the_frees) depth 20, (search sendable, (search (sendable, vec.the_send, global.the_send, allocator.the_frees) depth 20, (search (sendable, vec.the_send, cost.the_send, global.the_send, allocator.the_frees) depth 20, (search (sendable, vec.the_send, option.the_send, by.the_send, global.the_send, allocator.the_frees) depth 20, (log.the_send, tt)))))))))))

pub ledger_send : IsSend ledger.the_row
ledger_send = view_send _ _ _ _ _ (declared_send ledger_inside.the_type ledger_fields)

frontier_fields : FieldsHave IsSend frontier_inside.the_type.parts
frontier_fields = (snapshot_send cost_table.the_row, (snapshot_send problem.the_row, (rules.the_send, (search (sendable, vec.the_send, choice_set.the_send, global.the_send, allocator.the_frees) depth 20, (search (sendable, vec.the_send, line.the_send, global.the_send, allocator.the_frees) depth 20, (search (sendable, vec.the_send, slot.the_send, global.the_send, allocator.the_frees) depth 20, (search (sendable, vec.the_send, best.the_send, global.the_send, allocator.the_frees) depth 20, (search sendable, tt))))))))

pub frontier_send : IsSend frontier.the_row
frontier_send = view_send _ _ _ _ _ (declared_send frontier_inside.the_type frontier_fields)

session_fields : FieldsHave IsSend session_inside.the_type.parts
session_fields = (ledger_send, (frontier_send, (rules.the_send, (search (sendable, vec.the_send, choice_set.the_send, global.the_send, allocator.the_frees) depth 20, (learned.the_send, tt)))))

pub session_send : IsSend session.the_row
session_send = view_send _ _ _ _ _ (declared_send session_inside.the_type session_fields)

pass_fields : FieldsHave IsSend pass_inside.the_type.parts
pass_fields = (search sendable, (search (seat.the_send, session_send), (search (sendable, seat.the_send) depth 20, tt)))

pub pass_send : IsSend pass.the_row
pass_send = view_send _ _ _ _ _ (declared_send pass_inside.the_type pass_fields)

cell_fields : FieldsHave IsSync cell_inside.the_type.parts
cell_fields = (search (sendable, table.the_sync, session_send, global.the_send, global.the_sync, allocator.the_frees) depth 20, (search (sendable, table.the_sync, global.the_send, global.the_sync, allocator.the_frees) depth 20, tt))

pub cell_sync : IsSync cell.the_row
cell_sync = view_sync _ _ _ _ _ (declared_sync cell_inside.the_type cell_fields)
