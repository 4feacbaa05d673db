-- The channel types of traffic channels of one timeslot, five bits: bits 8 to 4 of the octet in which bits 3 to 1 are the timeslot, alike
-- in a channel description (TS 44.018 clauses 10.5.2.5 and 10.5.2.5a) and in a channel number (TS 48.058 clause 9.3.1).
use Rattle.std.specs.Prelude.{◌≡◌, ◌↔◌, ℕ, ◌==◌, List, [], ◌∷◌, find, Option, Some}
use Rattle.timeslots.specs.declared.Sub.{Sub}
use Rattle.timeslots.specs.declared.Sub.TheVariants.{Full, Half0, Half1}

-- 00001 is TCH/F with its associated channels (Bm); 0001T is TCH/H with its associated channels (Lm), T its subchannel.
abbrev pub type_of : Sub → ℕ
type_of Full = 1
type_of Half0 = 2
type_of Half1 = 3

unfoldable pub subs : List Sub
subs = Full ∷ Half0 ∷ Half1 ∷ []

-- the traffic channel with a type, where one has it
unfoldable pub sub_of : ℕ → Option Sub
sub_of number = find (λ sub. number == type_of sub) subs

-- each type is that of one traffic channel, which is the one that is read of it
abbrev pub TypesAreUnique : Type 0
TypesAreUnique = (sub : Sub) (number : ℕ) → (number ≡ type_of sub) ↔ (sub_of number ≡ Some sub)
