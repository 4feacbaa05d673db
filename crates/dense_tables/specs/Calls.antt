-- What is kept of calls: a slot for each, which is found by a key under the call's number. A key counts where the slot under
-- it has that number, so keys of calls that are gone may stand. Ours, of no standard.
use Rattle.std.specs.Prelude.{⊤, ◌≡◌, ◌==◌, ℕ, zero, suc, true, is_some, cond, List, [], ◌∷◌, length, Option, Some, None, slice_get, slice_index_or, option_and_then}
use Rattle.std.specs.Ordering.{nat_cmp}
use Rattle.std.specs.FinMap as map
use Rattle.dense_tables.specs.declared.calls.Slot.{Slot}
use Rattle.dense_tables.specs.Maps.{listed}

-- the numbers below one
unfoldable pub below : ℕ → List ℕ
below zero = []
below (suc n) = n ∷ below n

-- what a slot keeps of a call: nothing where it is another call's
abbrev pub kept_in : {E : Type 0} → ℕ → Option (Slot E) → Option E
kept_in c None = None
kept_in c (Some s) = cond (s.number == c) (Some s.entry) None

unfoldable pub entry_at : {E : Type 0} → List ℕ → List (Option (Slot E)) → ℕ → Option E
entry_at keys slots c = option_and_then (λ key. kept_in c (slice_index_or slots key None)) (slice_get keys c)

abbrev pub entries_of : {E : Type 0} → List ℕ → List (Option (Slot E)) → map.FinMap nat_cmp E
entries_of keys slots = listed nat_cmp (below (length keys)) (entry_at keys slots)

-- what holds of a table of calls: each number has a key, and the calls are counted
pub record IsTable {E : Type 0} (keys : List ℕ) (slots : List (Option (Slot E))) (count : ℕ) : Type 0 where
  pub keys_long : length keys ≡ 65536
  pub counted : count ≡ map.len (entries_of keys slots)

-- of a slot's call the same is kept in both tables, where the first keeps anything of it
abbrev pub AgreesAt : {E : Type 0} → map.FinMap nat_cmp E → map.FinMap nat_cmp E → Option (Slot E) → Type 0
AgreesAt one other None = ⊤
AgreesAt one other (Some s) = is_some (map.get one s.number) ≡ true → map.get one s.number ≡ map.get other s.number
