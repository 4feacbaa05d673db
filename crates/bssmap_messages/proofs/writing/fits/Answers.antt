use Rattle.std.proofs.Common.{◌<◌, length, arith}
use Rattle.std.proofs.lemmas.Bool.Decides.{nat_tests}
use Rattle.octet_elements.specs.Elements.{all_octets}
use Rattle.bssmap_messages.specs.Forms.{interface_a}
use Rattle.bssmap_messages.specs.Heads.{limit}
use Rattle.bssmap_messages.specs.Messages.{elements_of}
use Rattle.bssmap_messages.proofs.Written.{canonical_of, short_of, own_said}
use Rattle.bssmap_messages.proofs.writing.fits.Goals as goal

pub returns-then-can_be_said : goal.returns-then-can_be_said
returns-then-can_be_said g c =
    let message = c.args.message.now in
    let len = c.elements_len.ensures in record {
      canonical = (
        λ less. let short : length (all_octets interface_a (elements_of message)) < limit = grind (arith, nat_tests) in
            canonical_of message (c.can_be_said.ensures.0 c.if-can_be_said.true) short,
        λ h. let short = short_of message h in grind (arith, nat_tests),
      );
    }

pub returns-else-can_be_said : goal.returns-else-can_be_said
returns-else-can_be_said g c = record { canonical = (λ yes. absurd cc, λ h. c.can_be_said.ensures.1 (own_said c.args.message.now h)) }
