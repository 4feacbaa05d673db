use Rattle.std.proofs.Common.{◌≡◌, Result, Ok, Err, MatchResult, IfOk, is_ok, true, false}
use Rattle.lab_runs.proofs.run.shared.Goals as goal

-- what is made keeps its value where the fault alone is made another
kept : {X T E D : Type 0} (value : T → X) (v : X) (P : E → Type 0) (r : Result T E) (r' : Result T D) → MatchResult r (λ x. r' ≡ Ok x) P → is_ok r' ≡ is_ok r → IfOk r (λ x. value x ≡ v) → IfOk r' (λ x. value x ≡ v)
kept value v P (Ok x) r' same variant held = rw same held
kept value v P (Err e) (Ok y) same variant held =
    let bad : true ≡ false = variant in
    cc
kept value v P (Err e) (Err f) same variant held = tt

pub returns : goal.returns
returns g c = kept (λ shared. shared.value) c.args.site _ c.new.result c.map_err.result c.map_err.ensures.cases c.map_err.ensures.variant c.new.ensures.ok
