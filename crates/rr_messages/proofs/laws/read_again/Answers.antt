use Rattle.rr_messages.proofs.Texts.{one_value, text-is, fitting-part}
use Rattle.rr_messages.proofs.laws.read_again.Goals as goal

pub returns : goal.returns
returns c = record {
  text = λ v fits. text-is v (fitting-part v fits);
  again = λ v w fits text. one_value w v _ text (text-is v (fitting-part v fits));
}
