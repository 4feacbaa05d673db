use Rattle.radio_book.proofs.SoundSteps.{sound_step}
use Rattle.radio_book.proofs.laws.steps_keep_sound.Goals as goal

pub returns : goal.returns
returns c = record { sound = sound_step }
