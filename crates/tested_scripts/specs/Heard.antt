-- Who is told what comes of a script, part by part. Ours, of no standard.
use Rattle.std.specs.Prelude.{◌≡◌, ℕ, Bool, List, [], ◌∷◌, length}

-- told these things, one after another, a listener is another each time
abbrev pub Hears : {L X : Type 0} → (L → X → L → Type 0) → L → List X → L → Type 0
Hears hears l [] m = m ≡ l
Hears {L} hears l (came ∷ more) m = (next : L) × (hears l came next × Hears hears next more m)

-- it was told so many things
pub record HasHeard {L X : Type 0} (hears : L → X → L → Type 0) (l : L) (count : ℕ) (m : L) : Type 0 where
  pub all : List X
  pub each : length all ≡ count
  pub heard : Hears hears l all m

-- it was told so many things, and then what came last, without the trace's end and with it: it answers whether all is well
pub record IsTold {L X : Type 0} (hears : L → X → L → Type 0) (hears_end : L → X → X → Bool → Type 0) (l : L) (count : ℕ) (well : Bool) : Type 0 where
  pub last : L
  pub before : HasHeard hears l count last
  pub came : X
  pub ended : X
  pub end : hears_end last came ended well
