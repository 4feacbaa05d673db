use Rattle.octet_elements.proofs.Texts.{reading_is_unique}
use Rattle.link_states.specs.Notes.{channel_said, channel_codec, call_said, call_codec}
use Rattle.link_states.proofs.Noted.{heads}
use Rattle.link_states.proofs.laws.reading_is_unique.Goals as goal

pub returns : goal.returns
returns c = record { channels = reading_is_unique channel_codec (heads channel_said); calls = reading_is_unique call_codec (heads call_said) }
