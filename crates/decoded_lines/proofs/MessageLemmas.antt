-- Facts of what is answered of octets.
use Rattle.std.proofs.Common.{Result, Ok, Err, IfOk}

-- what holds of whatever is answered
pub answered : {X E : Type 0} (P : X → Type 0) (r : Result X E) → ((x : X) → P x) → IfOk r P
answered P (Ok x) h = h x
answered P (Err e) h = tt
