-- The timeslots of a TRX as they are read: the entries of `tch` name those that are read from them, and the first nine are
-- kept.
use Rattle.std.proofs.Common.{◌≡◌, ◌==◌, ◌||◌, ℕ, suc, Bool, List, [], ◌∷◌, map, take, Ok, Err, refl, sym, ap, ◌∙◌}
use Rattle.std.specs.List.{list_any}
use Rattle.toml.specs.Data.{Data, get}
use Rattle.cell_table.specs.declared.fault.Key.{Key}
use Rattle.cell_table.specs.declared.fault.Key.TheVariants as key
use Rattle.cell_table.specs.declared.fault.SiteFault.{SiteFault}
use Rattle.cell_table.specs.declared.fault.SiteFault.TheVariants.{Range}
use Rattle.cell_table.specs.declared.ranges.Allowed.{Allowed}
use Rattle.cell_table.specs.SiteFile.{Read, ◌>>=◌, each, number_of, allowed_number, half_of, halves_by, key_name}
use Rattle.cell_table.specs.Kept.{first_nine, is_number, is_that, names, trx_by}
use Rattle.cell_table.proofs.Chains.{bind_parts, ok_or_parts}

pub any_map : {X Y : Type 0} (p : Y → Bool) (f : X → Y) (xs : List X) → list_any p (map f xs) ≡ list_any (λ x. p (f x)) xs
any_map p f [] = refl
any_map p f (x ∷ xs) = ap (λ b. p (f x) || b) (any_map p f xs)

-- what is read is named
pub names_same : (k : Key) (range : Allowed) (place : ℕ) (ds : List Data) (xs : List ℕ) → each (λ n. number_of k range) place ds ≡ Ok xs → (n : ℕ)
    → names range ds n ≡ list_any (λ m. m == n) xs
names_same k range place [] xs e n = let is : [] ≡ xs = cc in rw (← is) refl
names_same k range place (d ∷ ds) xs e n =
    bind_parts (names range (d ∷ ds) n ≡ list_any (λ m. m == n) xs) (number_of k range d) (λ y. each (λ m. number_of k range) (suc place) ds >>= (λ ys. Ok (y ∷ ys))) xs e
    (λ y read rest. bind_parts (names range (d ∷ ds) n ≡ list_any (λ m. m == n) xs) (each (λ m. number_of k range) (suc place) ds) (λ ys. Ok (y ∷ ys)) xs rest
    (λ ys told same.
    let is : y ∷ ys ≡ xs = cc in
    let here : is_number range n d ≡ (y == n) = ap (is_that n) (ok_or_parts (allowed_number range d) (Range k) y read) in
    let further = names_same k range (suc place) ds ys told n in
    rw (← is) (λ i. here i || further i)))

-- the first nine of what is read
told_nine : (r : Read (List ℕ)) (ys : List ℕ) → first_nine r ≡ Ok ys → (xs : List ℕ) × (r ≡ Ok xs) × (take 9 xs ≡ ys)
told_nine (Ok xs) ys e = (xs, refl, cc)
told_nine (Err fault) ys e = absurd cc

refused_nine : (r : Read (List ℕ)) (fault : SiteFault) → first_nine r ≡ Err fault → r ≡ Err fault
refused_nine (Ok xs) fault e = absurd cc
refused_nine (Err other) fault e = e

pub slots_refused : (arfcn : ℕ) (range : Allowed) (ds : List Data) (d : Data) (fault : SiteFault)
    → first_nine (each (λ place. number_of key.Tch range) 0 ds) ≡ Err fault → trx_by arfcn range ds d ≡ Err fault
unfolding trx_by
slots_refused arfcn range ds d fault e = rw (refused_nine (each (λ place. number_of key.Tch range) 0 ds) fault e) refl

slots_read : (arfcn : ℕ) (range : Allowed) (ds : List Data) (d : Data) (ys : List ℕ) → first_nine (each (λ place. number_of key.Tch range) 0 ds) ≡ Ok ys
    → trx_by arfcn range ds d ≡ (first_nine (halves_by (names range ds) (get (key_name key.Half) d)) >>= (λ half. Ok (record { arfcn = arfcn; tch = ys; half = half })))
unfolding trx_by
slots_read arfcn range ds d ys e =
    let (xs, read, kept) = told_nine (each (λ place. number_of key.Tch range) 0 ds) ys e in
    ap (λ r. r >>= (λ tch. first_nine (half_of tch d) >>= (λ half. Ok (record { arfcn = arfcn; tch = take 9 tch; half = half })))) read
    ∙ (λ i. first_nine (halves_by (λ n. sym (names_same key.Tch range 0 ds xs read n) i) (get (key_name key.Half) d)) >>= (λ half. Ok (record { arfcn = arfcn; tch = kept i; half = half })))

pub halves_refused : (arfcn : ℕ) (range : Allowed) (ds : List Data) (d : Data) (ys : List ℕ) (fault : SiteFault) → first_nine (each (λ place. number_of key.Tch range) 0 ds) ≡ Ok ys
    → first_nine (halves_by (names range ds) (get (key_name key.Half) d)) ≡ Err fault → trx_by arfcn range ds d ≡ Err fault
halves_refused arfcn range ds d ys fault e refused =
    slots_read arfcn range ds d ys e ∙ ap (λ r. r >>= (λ half. Ok (record { arfcn = arfcn; tch = ys; half = half }))) refused

pub both_read : (arfcn : ℕ) (range : Allowed) (ds : List Data) (d : Data) (ys zs : List ℕ) → first_nine (each (λ place. number_of key.Tch range) 0 ds) ≡ Ok ys
    → first_nine (halves_by (names range ds) (get (key_name key.Half) d)) ≡ Ok zs → trx_by arfcn range ds d ≡ Ok (record { arfcn = arfcn; tch = ys; half = zs })
both_read arfcn range ds d ys zs e told =
    slots_read arfcn range ds d ys e ∙ ap (λ r. r >>= (λ half. Ok (record { arfcn = arfcn; tch = ys; half = half }))) told
