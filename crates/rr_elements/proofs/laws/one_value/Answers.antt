use Rattle.std.proofs.Common.{◌≡◌, Ok, Result}
use Rattle.rr_elements.specs.declared.fault.ElementFault.{ElementFault}
use Rattle.rr_elements.proofs.ElementLemmas.{cell-said, chan-said, power-said, cause-said}
use Rattle.rr_elements.proofs.ResultsLemmas.{text-said}
use Rattle.rr_elements.proofs.laws.one_value.Goals as goal

same : {A : Type 0} (v w : A) (r : Result A ElementFault) → r ≡ Ok v → r ≡ Ok w → v ≡ w
same v w r p q = cc

pub returns : goal.returns
returns c = record {
  cell = λ v w octets p q. same v w _ (cell-said v octets p) (cell-said w octets q);
  channel = λ v w octets p q. same v w _ (chan-said v octets p) (chan-said w octets q);
  power = λ v w octets p q. same v w _ (power-said v octets p) (power-said w octets q);
  cause = λ v w octets p q. same v w _ (cause-said v octets p) (cause-said w octets q);
  results = λ v w octets p q. same v w _ (text-said v octets p) (text-said w octets q);
}
