use Rattle.std.proofs.Common.{rules}
use Rattle.rsl_messages.proofs.Written.{writable_of}
use Rattle.rsl_messages.proofs.elements.append_elements.Goals as goal

pub append_activation-requires-clause-mode : goal.append_activation-requires-clause-mode
append_activation-requires-clause-mode g c = let fits = writable_of c.args.message.now c.requires.canonical in search rules

pub append_measurement-requires-clause-uplink : goal.append_measurement-requires-clause-uplink
append_measurement-requires-clause-uplink g c = let fits = writable_of c.args.message.now c.requires.canonical in search rules
