-- Which calls are joined for a handover, and which number a call gets that is made for one. Ours, of no standard.
use Rattle.std.specs.Prelude.{◌≡◌, ◌<◌, ◌≤◌, ℕ, Bool, true, false, ◌==◌, ◌&&◌, ◌||◌, not, List, filter, find, Option, Some, None}
use Rattle.std.specs.List.{list_any}
use Rattle.msc_model.specs.declared.connection.Connection.{Connection}
use Rattle.msc_model.specs.declared.connection.Join.{Join}

abbrev pub is_same : Connection → Connection → Bool
is_same c d = (c.controller == d.controller) && (c.call == d.call)

-- the call is the one that asked, or the one that was made for it
abbrev pub is_in : Connection → Join → Bool
is_in c j = is_same c j.asker || is_same c j.target

-- the join that the call stands in
abbrev pub join_of : List Join → Connection → Option Join
join_of joins c = find (is_in c) joins

-- the joins once that of the call has ended
abbrev pub parted : List Join → Connection → List Join
parted joins c = filter (λ j. not (is_in c j)) joins

-- the call is one of those that have stood in a join
abbrev pub has_stood : List Connection → Connection → Bool
has_stood stood c = list_any (λ d. is_same c d) stood

-- the number of a call of controller k has stood in a join
abbrev pub is_used : List Connection → ℕ → ℕ → Bool
is_used stood k n = has_stood stood (record { controller = k; call = n })

-- the first number of calls that are made for a handover, and one above the last
abbrev pub first_number : ℕ
first_number = 40000

abbrev pub numbers : ℕ
numbers = 65536

-- the lowest number from 40000 that has stood in no join at controller k
pub record IsLowestUnused (stood : List Connection) (k n : ℕ) : Type 0 where
  pub above : first_number ≤ n
  pub within : n < numbers
  pub unused : is_used stood k n ≡ false
  pub lowest : (m : ℕ) → first_number ≤ m → m < n → is_used stood k m ≡ true

-- every number from 40000 has stood in a join there
abbrev pub NoneIsUnused : List Connection → ℕ → Type 0
NoneIsUnused stood k = (m : ℕ) → first_number ≤ m → m < numbers → is_used stood k m ≡ true

abbrev pub IsLowest : List Connection → ℕ → Option ℕ → Type 0
IsLowest stood k (Some n) = IsLowestUnused stood k n
IsLowest stood k None = NoneIsUnused stood k
