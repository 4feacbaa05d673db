-- Once the holds of a channel have ended, none keeps an answer about it.
use Rattle.std.proofs.Common.{◌≡◌, ℕ, Bool, true, false, not, ◌&&◌, is_some, option_and_then, cond, List, [], ◌∷◌, length, nat_lt, Option, Some, None, refl, ap, arith}
use Rattle.std.specs.List.{position, position_or_len}
use Rattle.bts_model.specs.declared.place.Place.{Place}
use Rattle.bts_model.specs.declared.answer.Answer.{Answer}
use Rattle.bts_model.specs.declared.hold.Hold.{Hold}
use Rattle.bts_model.specs.Keys.{is_same_place}
use Rattle.bts_model.specs.declared.setting.Held.{Held}
use Rattle.bts_model.specs.Holds.{kind_of, is_kind, awaits, hold_of, others}
use Rattle.bts_model.proofs.DepartureFacts.{Unheld}

none_awaits : (x : Place) (held : Held) (holds : List Hold) → position_or_len (awaits x held) (others x holds) ≡ length (others x holds)
none_awaits x held [] = refl
none_awaits x held (h ∷ holds) = by_test (is_same_place x h.place) refl (none_awaits x held holds)
  where
    by_test : (b : Bool) → is_same_place x h.place ≡ b → position_or_len (awaits x held) (others x holds) ≡ length (others x holds)
        → position_or_len (awaits x held) (others x (h ∷ holds)) ≡ length (others x (h ∷ holds))
    by_test true e rest = rw e rest
    by_test false e rest =
        let waits : awaits x held h ≡ false = ap (λ b. b && (is_kind h.held held && not (is_some h.kept))) e in
        rw (e, waits) (omega (arith, rest))

not_below : (n m : ℕ) → n ≡ m → nat_lt n m ≡ false
not_below n m e = grind (arith, e)

none_found : (x : Place) (held : Held) (holds : List Hold) → position (awaits x held) (others x holds) ≡ None
none_found x held holds =
    let short = not_below (position_or_len (awaits x held) (others x holds)) (length (others x holds)) (none_awaits x held holds) in
    ap (λ b. cond b (Some (position_or_len (awaits x held) (others x holds))) None) short

none_then : {X Y : Type 0} (f : X → Option Y) (o : Option X) → ((x : X) → f x ≡ None) → option_and_then f o ≡ None
none_then f None h = refl
none_then f (Some x) h = h x

none_keeps : (x : Place) (holds : List Hold) (answer : Answer) → hold_of (others x holds) x answer ≡ None
none_keeps x holds answer = none_then (λ held. position (awaits x held) (others x holds)) (kind_of answer) (λ held. none_found x held holds)

pub ended : (x : Place) (holds : List Hold) (answers : List Answer) → Unheld (others x holds) x answers
ended x holds [] = tt
ended x holds (answer ∷ answers) = (none_keeps x holds answer, ended x holds answers)
