use Rattle.radio_book.proofs.SoundSteps.{sound_runs}
use Rattle.radio_book.proofs.laws.runs_are_sound.Goals as goal

pub returns : goal.returns
returns c = record { sound = sound_runs }
