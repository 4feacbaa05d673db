-- A hold that has kept something is seen in what all have kept.
use Rattle.std.proofs.Common.{◌≡◌, ℕ, zero, suc, ◌<◌, true, false, List, [], ◌∷◌, length, get_or, Option, Some, None, IsSome, arith}
use Rattle.std.specs.List.{cons_option}
use Rattle.bts_model.specs.declared.place.Place.{Place}
use Rattle.bts_model.specs.declared.answer.Answer.{Answer}
use Rattle.bts_model.specs.declared.hold.Hold.{Hold}
use Rattle.bts_model.specs.Holds.{kept_by, kept_of}

some_first : (o : Option Answer) (rest : List Answer) → IsSome o → cons_option o rest ≡ [] → ⊥
some_first None rest some none = let is : false ≡ true = some in cc
some_first (Some answer) rest some none = cc

rest_empty : (o : Option Answer) (rest : List Answer) → cons_option o rest ≡ [] → rest ≡ []
rest_empty None rest e = e
rest_empty (Some answer) rest e = cc

pub some_kept : (x : Place) (holds : List Hold) (i : ℕ) (d : Hold) → i < length holds → IsSome (kept_by x (get_or holds i d)) → kept_of x holds ≡ [] → ⊥
some_kept x [] i d within some none = absurd (omega arith)
some_kept x (h ∷ holds) zero d within some none = some_first (kept_by x h) (kept_of x holds) some none
some_kept x (h ∷ holds) (suc i) d within some none = some_kept x holds i d (omega arith) some (rest_empty (kept_by x h) (kept_of x holds) none)
