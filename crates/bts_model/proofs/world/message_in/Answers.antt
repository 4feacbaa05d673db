use Rattle.std.proofs.Common.{◌≡◌, true, false}
use Rattle.rsl_messages.proofs.Unique.{no_fault}
use Rattle.bts_model.proofs.world.message_in.Goals as goal

-- octets with another fault are a text of no message
pub returns-else-is_memory-clause-said : goal.returns-else-is_memory-clause-said
returns-else-is_memory-clause-said g c = λ message text.
    let is : c.is_memory.result ≡ true = c.is_memory.ensures.1 (no_fault message c.args.octets.now c.in-Err.fault text c.in-Err.ensures.decodes.fault) in
    let other : c.is_memory.result ≡ false = c.if-is_memory.false in
    cc
