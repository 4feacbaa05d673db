use Rattle.std.proofs.Common.{subst}
use Rattle.rr_messages.specs.Rr.{IsRrText, rr_text}
use Rattle.rr_messages.proofs.Texts.{one_value, text-is, fitting-part}
use Rattle.rr_messages.proofs.laws.one_value.Goals as goal

pub returns : goal.returns
returns c = record {
  texts = one_value;
  written = λ v w p q e. one_value v w (rr_text w) (subst (IsRrText v) e (text-is v (fitting-part v p))) (text-is w (fitting-part w q));
}
