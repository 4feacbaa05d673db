use Rattle.std.proofs.Common.{◌≡◌, Bool, Option, Some, None, refl, ap}
use Rattle.std.specs.Bool.{Decides}
use Rattle.std.specs.Option.{option_eq}
use Rattle.std.proofs.lemmas.Bool.Decides.{Decides-eqb}
use Rattle.std.proofs.lemmas.Option.{same_Some}
use Rattle.std.proofs.lemmas.Slice.Eq.{slice_eq-Decides}
use Rattle.dense_tables.proofs.references.same_users.Goals as goal

option_eq-Decides : {A : Type 0} {E : A → A → Bool} → ((x y : A) → Decides (E x y) (x ≡ y)) → (o p : Option A) → Decides (option_eq E o p) (o ≡ p)
option_eq-Decides each None None = (λ _. refl, λ _. refl)
option_eq-Decides each None (Some y) = (λ e. cc, λ e. cc)
option_eq-Decides each (Some x) None = (λ e. cc, λ e. cc)
option_eq-Decides each (Some x) (Some y) = (λ e. ap Some ((each x y).0 e), λ e. (each x y).1 (same_Some x y e))

pub returns : goal.returns
returns c = slice_eq-Decides (option_eq-Decides Decides-eqb) c.args.one.now c.args.other.now _ c.eq.ensures
