-- What a writer leaves that appends to a list.
use Rattle.std.specs.Prelude.{◌≡◌, ℕ, ◌+◌, ◌≤◌, List, ◌++◌, length, Result, IsOk, OnOk, OnErr, Vec, vec_len, vec_capacity}

-- The text is appended, or memory is refused and the list stays as it was, octets and capacity. To a list with room for
-- the text nothing is refused, and its capacity stays what it was; none gives up room.
pub record Appends {A E : Type 0} (text : List ℕ) (old new : Vec ℕ A) (result : Result (Unit {0}) E) : Type 0 where
  pub ok : OnOk result (new.items ≡ old.items ++ text)
  pub err : OnErr result (new.items ≡ old.items)
  pub err_capacity : OnErr result (vec_capacity new ≡ vec_capacity old)
  pub room : vec_len old + length text ≤ vec_capacity old → IsOk result
  pub kept : vec_len old + length text ≤ vec_capacity old → vec_capacity new ≡ vec_capacity old
  pub len : OnOk result (vec_len new ≡ vec_len old + length text)
  pub capacity : vec_capacity old ≤ vec_capacity new

-- there is room for the text behind what the list has
abbrev pub HasRoom : {A : Type 0} → List ℕ → Vec ℕ A → Type 0
HasRoom text out = vec_len out + length text ≤ vec_capacity out

-- The text is added to a list that has room for it, and whose capacity stays what it was.
pub record Adds {A : Type 0} (text : List ℕ) (old new : Vec ℕ A) : Type 0 where
  pub items : new.items ≡ old.items ++ text
  pub len : vec_len new ≡ vec_len old + length text
  pub capacity : vec_capacity new ≡ vec_capacity old
