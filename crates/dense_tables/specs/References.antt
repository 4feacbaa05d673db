-- Which call has a handover reference of a cell (TS 44.018 clause 10.5.2.15): a row of 256 places for each cell.
use Rattle.std.specs.Prelude.{◌≡◌, ◌+◌, ◌*◌, ◌/◌, ◌%◌, ℕ, nat_lt, if◌then◌else◌, List, length, map as map_list, Option, None, slice_index_or, refl}
use Rattle.std.specs.Coded.{Coded, code_by, coded×, coded_ℕ}
use Rattle.std.specs.FinMap as map
use Rattle.dense_tables.specs.declared.references.Reference.{Reference}
use Rattle.dense_tables.specs.Keys.{reference_cmp, coded_reference}
use Rattle.dense_tables.specs.Maps.{put, listed}
use Rattle.dense_tables.specs.Calls.{below}

-- how many cells there are, and the call of each reference of theirs that is in use
pub record Rows : Type 0 where
  pub cells : ℕ
  pub users : map.FinMap reference_cmp ℕ

abbrev pub rows_code : Coded Rows
rows_code =
    code_by (ℕ × map.FinMap reference_cmp ℕ) (coded× coded_ℕ (map.code coded_reference coded_ℕ)) (λ r. (r.cells, r.users))
    (λ p. record { cells = p.0; users = p.1 }) (λ _. refl)

abbrev pub all_unused : ℕ → Rows
all_unused cells = record { cells = cells; users = map.empty }

-- the reference is this call's from now on, or no longer in use
abbrev pub with_user : Rows → Reference → Option ℕ → Rows
with_user rows r user = record rows { users = put rows.users r user }

-- the place of a reference among those of all cells, and the reference of a place
abbrev pub place_of : Reference → ℕ
place_of r = r.cell * 256 + r.number

abbrev pub reference_at : ℕ → Reference
reference_at place = record { cell = place / 256; number = place % 256 }

-- the call of a reference; a number from 256 on is none of the cell's row, and its place is one of the next
abbrev pub user_at : List (Option ℕ) → Reference → Option ℕ
user_at users r = if nat_lt r.number 256 then slice_index_or users (place_of r) None else None

abbrev pub users_of : List (Option ℕ) → map.FinMap reference_cmp ℕ
users_of users = listed reference_cmp (map_list reference_at (below (length users))) (user_at users)

-- what holds of a table of references: each cell has a row, and the references in use are counted
pub record IsTable (cells : ℕ) (users : List (Option ℕ)) (used : ℕ) : Type 0 where
  pub users_long : length users ≡ cells * 256
  pub counted : used ≡ map.len (users_of users)
