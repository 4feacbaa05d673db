-- The receipts of one seat, in the order in which it got them. Ours, of no standard.
use Rattle.std.specs.Prelude.{◌≡◌, ◌<◌, ℕ, List, [], ◌∷◌, ◌++◌, map, All, AllPairs, Option, None}
use Rattle.std.specs.List.{last_or}
use Rattle.radio_book.specs.declared.event.Event.{Event}
use Rattle.radio_book.specs.declared.event.Reply.{Reply}
use Rattle.radio_book.specs.declared.undone.StepAt.{StepAt}

-- an entry of the history as a step at its place
abbrev pub Receipt : Type 0
Receipt = StepAt

-- the entries that the receipts are of
abbrev pub receipted : List Receipt → List (Event × Reply)
receipted receipts = map (λ r. (r.event, r.reply)) receipts

-- their places rise
abbrev pub IsRising : List Receipt → Type 0
IsRising receipts = AllPairs (λ r s. r.place < s.place) receipts

-- the place is above each of theirs
abbrev pub IsAbove : List Receipt → ℕ → Type 0
IsAbove receipts place = All (λ r. r.place < place) receipts

-- These are all receipts of a seat: their places rise, and its last one, where it has one, is the last of them.
pub record IsSeated (receipts : List Receipt) (last : Option Receipt) : Type 0 where
  pub rising : IsRising receipts
  pub ends : last_or None receipts ≡ last

-- one receipt joined, whose place is above every place before
pub record Joined (before : List Receipt) (r : Receipt) (after : List Receipt) : Type 0 where
  pub receipts : after ≡ before ++ r ∷ []
  pub above : IsAbove before r.place
