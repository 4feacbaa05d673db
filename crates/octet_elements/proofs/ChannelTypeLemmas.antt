-- Channel types that are written and read again.
use Rattle.std.proofs.Common.{◌≡◌, ◌≢◌, ◌∙◌, ap, refl, arith, ℕ, ◌<◌, ◌^◌, ◌==◌, cond, Bool, true, false, Option, Some, None}
use Rattle.std.proofs.lemmas.Bool.Decides.{nat_tests}
use Rattle.octet_elements.specs.ChannelTypes.{type_of, subs, sub_of, TypesAreUnique}
use Rattle.timeslots.specs.declared.Sub.{Sub}
use Rattle.timeslots.specs.declared.Sub.TheVariants.{Full, Half0, Half1}

-- a traffic channel is read of its type
pub sub_again : (sub : Sub) → sub_of (type_of sub) ≡ Some sub
unfolding sub_of subs
sub_again Full = refl
sub_again Half0 = refl
sub_again Half1 = refl

-- and of no other
pub type_again : (sub : Sub) (number : ℕ) → sub_of number ≡ Some sub → number ≡ type_of sub
unfolding sub_of subs
type_again sub number h = by (number == 1) (number == 2) (number == 3) refl refl refl h
  where
    by : (a b c : Bool) → (number == 1) ≡ a → (number == 2) ≡ b → (number == 3) ≡ c → cond a (Some Full) (cond b (Some Half0) (cond c (Some Half1) None)) ≡ Some sub → number ≡ type_of sub
    by true b c p q r h =
        let is : number ≡ 1 = grind (arith, nat_tests) in
        let same : Full ≡ sub = cc in
        is ∙ ap type_of same
    by false true c p q r h =
        let is : number ≡ 2 = grind (arith, nat_tests) in
        let same : Half0 ≡ sub = cc in
        is ∙ ap type_of same
    by false false true p q r h =
        let is : number ≡ 3 = grind (arith, nat_tests) in
        let same : Half1 ≡ sub = cc in
        is ∙ ap type_of same
    by false false false p q r h = absurd cc

-- a type that no traffic channel has is none's
pub no_sub : (number : ℕ) → ((sub : Sub) → number ≢ type_of sub) → sub_of number ≡ None
no_sub number none = by (sub_of number) refl
  where
    by : (found : Option Sub) → sub_of number ≡ found → sub_of number ≡ None
    by None h = h
    by (Some sub) h = absurd (none sub (type_again sub number h))

-- a type has five bits
pub type_below : (sub : Sub) → type_of sub < 2 ^ 5
type_below Full = omega arith
type_below Half0 = omega arith
type_below Half1 = omega arith

pub types_are_unique : TypesAreUnique
types_are_unique sub number = ((λ is. ap sub_of is ∙ sub_again sub), type_again sub number)
