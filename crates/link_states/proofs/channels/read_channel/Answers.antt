use Rattle.octet_elements.proofs.Texts.{decoded}
use Rattle.link_states.specs.Notes.{channel_said, channel_codec}
use Rattle.link_states.proofs.Noted.{heads, not_torn, not_by_value}
use Rattle.link_states.proofs.channels.read_channel.Goals as goal

pub returns : goal.returns
returns c = record {
  decodes = decoded channel_codec (heads channel_said) c.args.octets.now c.read.result (λ h. h) not_torn not_by_value c.read.ensures.text c.read.ensures.fault;
}
