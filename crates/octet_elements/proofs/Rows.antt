-- What rows read, and what it tells of each row.
use Rattle.std.proofs.Common.{◌≡◌, Result, Ok, Err, refl}
use Rattle.octet_elements.specs.Lookup.{Lookup}
use Rattle.octet_elements.specs.Rows.{◌>>=◌}
use Rattle.octet_elements.specs.Rows.{Row, ◌▸◌}

-- what goes on has read something
pub went_on : {X Y F : Type 0} (r : Result X F) (go : X → Result Y F) (y : Y) → r >>= go ≡ Ok y → (x : X) × (r ≡ Ok x) × (go x ≡ Ok y)
went_on (Ok x) go y h = (x, refl, h)
went_on (Err f) go y h = absurd cc

-- a row and others read what each of them does
pub both_read : {X Y : Type 0} (a : Row X) (b : Row Y) (found : Lookup) (x : X) (y : Y) → a.read found ≡ Ok x → b.read found ≡ Ok y → (a ▸ b).read found ≡ Ok (x, y)
both_read a b found x y p q = λ i. p i >>= λ x. q i >>= λ y. Ok (x, y)

pub each_read : {X Y : Type 0} (a : Row X) (b : Row Y) (found : Lookup) (xy : X × Y) → (a ▸ b).read found ≡ Ok xy → ((x : X) × (a.read found ≡ Ok x)) × ((y : Y) × (b.read found ≡ Ok y))
each_read a b found xy h =
    let first = went_on (a.read found) (λ x. b.read found >>= λ y. Ok (x, y)) xy h in
    let second = went_on (b.read found) (λ y. Ok (first.0, y)) xy first.2 in
    ((first.0, first.1), (second.0, second.1))
