use Rattle.octet_elements.proofs.Texts.{decoded}
use Rattle.link_states.specs.Notes.{call_said, call_codec}
use Rattle.link_states.proofs.Noted.{heads, not_torn, not_by_value}
use Rattle.link_states.proofs.calls.read_call.Goals as goal

pub returns : goal.returns
returns c = record {
  decodes = decoded call_codec (heads call_said) c.args.octets.now c.read.result (λ h. h) not_torn not_by_value c.read.ensures.text c.read.ensures.fault;
}
