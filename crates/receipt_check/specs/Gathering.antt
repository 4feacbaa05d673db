-- Receipts of several seats, beside the history of one desk. Ours, of no standard.
use Rattle.std.specs.Prelude.{◌≡◌, ◌≢◌, ℕ, ◌<◌, ◌==◌, Bool, true, false, List, [], length, take, slice_index_or}
use Rattle.std.specs.List.{list_any}
use Rattle.radio_book.specs.declared.event.Event.{Event}
use Rattle.radio_book.specs.declared.event.Reply.{Reply}
use Rattle.radio_desk.specs.Receipts.{Receipt}
use Rattle.radio_desk.specs.Desk.{IsEntryOf}
use Rattle.receipt_check.specs.declared.CloseFault.{CloseFault}
use Rattle.receipt_check.specs.declared.CloseFault.TheVariants.{Missing, Twice, Count, Opening, NoMemory}

-- one of them has this place
abbrev pub has_place : ℕ → List Receipt → Bool
has_place place receipts = list_any (λ r. r.place == place) receipts

-- each of the first n receipts is the history's entry at its place
abbrev pub StandsAt : List (Event × Reply) → List Receipt → ℕ → Type 0
StandsAt history receipts n = (k : ℕ) (d : Receipt) → k < n → IsEntryOf history (slice_index_or receipts k d)

-- none of the first n receipts has a place that an earlier one has
abbrev pub AreFresh : List Receipt → ℕ → Type 0
AreFresh receipts n = (k : ℕ) (d : Receipt) → k < n → has_place (slice_index_or receipts k d).place (take k receipts) ≡ false

-- The receipts are the history: each is the entry at its place, no two have one place, and there are as many as entries.
pub record Gathers (history : List (Event × Reply)) (receipts : List Receipt) : Type 0 where
  pub stand : StandsAt history receipts (length receipts)
  pub fresh : AreFresh receipts (length receipts)
  pub count : length receipts ≡ length history

-- the first receipt that isn't the entry at its place
abbrev pub FirstWrong : List (Event × Reply) → List Receipt → Receipt → Type 0
FirstWrong history receipts r =
    (k : ℕ) × (k < length receipts) × StandsAt history receipts k × ((d : Receipt) → slice_index_or receipts k d ≡ r) × (IsEntryOf history r → ⊥)

-- the place of the first receipt whose place an earlier one has
abbrev pub FirstTwice : List Receipt → ℕ → Type 0
FirstTwice receipts place =
    (k : ℕ) × (k < length receipts) × AreFresh receipts k × ((d : Receipt) → (slice_index_or receipts k d).place ≡ place)
    × (has_place place (take k receipts) ≡ true)

-- What isn't so of the receipts: the first that isn't its entry; else the first place that stands twice; else there are more
-- entries. Memory may be refused where each is its entry, and the history isn't empty.
abbrev pub IsGatherFault : List (Event × Reply) → List Receipt → CloseFault → Type 0
IsGatherFault history receipts (Missing r) = FirstWrong history receipts r
IsGatherFault history receipts (Twice place) = StandsAt history receipts (length receipts) × FirstTwice receipts place
IsGatherFault history receipts Count = StandsAt history receipts (length receipts) × AreFresh receipts (length receipts) × (length receipts ≡ length history → ⊥)
IsGatherFault history receipts Opening = ⊥
IsGatherFault history receipts NoMemory = StandsAt history receipts (length receipts) × (history ≢ [])
