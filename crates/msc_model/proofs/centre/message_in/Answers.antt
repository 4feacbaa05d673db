use Rattle.std.proofs.Common.{◌≡◌, true, false}
use Rattle.octet_elements.proofs.Texts.{reading_is_unique}
use Rattle.bssmap_messages.specs.Texts.{codec}
use Rattle.bssmap_messages.proofs.Unique.{heads}
use Rattle.msc_model.proofs.centre.message_in.Goals as goal

-- octets with another fault are a text of no message
pub returns-else-is_memory-clause-said : goal.returns-else-is_memory-clause-said
returns-else-is_memory-clause-said g c = λ message text.
    let memory = (reading_is_unique (codec _) (heads _)).text message c.args.octets.now c.in-Err.fault text c.in-Err.ensures.decodes.fault in
    let is : c.is_memory.result ≡ true = c.is_memory.ensures.1 memory in
    let other : c.is_memory.result ≡ false = c.if-is_memory.false in
    cc
