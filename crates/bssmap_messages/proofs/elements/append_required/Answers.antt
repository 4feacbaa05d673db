use Rattle.std.proofs.Common.{◌+◌, ◌*◌, length, arith}
use Rattle.bssmap_messages.specs.Messages.{handover_required}
use Rattle.bssmap_messages.proofs.Lengths.{required_appended, required_length}
use Rattle.bssmap_messages.proofs.elements.append_required.Goals as goal

pub append_cells-requires : goal.append_cells-requires
unfolding handover_required
append_cells-requires g c = let long = required_length c.args.cause c.args.response c.args.cells.now in omega arith

pub returns-clause-items : goal.returns-clause-items
unfolding handover_required
returns-clause-items g c = required_appended _ _ _ _ _ c.args.cause (1 + 4 * length c.args.cells.now) c.args.response c.args.cells.now c.append_octet.ensures.items c.append_presence.ensures.items c.append_octets.ensures.items c.append_cells.ensures.items (omega arith)

pub overflow_cast-len : goal.overflow_cast-len
unfolding handover_required
overflow_cast-len g c = let long = required_length c.args.cause c.args.response c.args.cells.now in omega arith
