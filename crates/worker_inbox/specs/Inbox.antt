-- The rule of an inbox between two threads. Ours, of no standard.
use Rattle.std.specs.Prelude.{◌≡◌, ℕ, Bool, true, List, ◌++◌}
use mathlib.Core.Option.{some}
use lib.ListN.{get_elem?}
use Rattle.worker_inbox.specs.declared.rule.Log.{Log}

-- what a pass may do (send, take), and what it has sent and taken
abbrev pub log : {T : Type 0} → Bool → Bool → List T → List T → Log T
log sends takes sent taken = record { sends = sends; takes = takes; sent = sent; taken = taken }

-- a pass that may send is the one that does, and knows all that was sent; the same of what was taken
abbrev pub Fits : {T : Type 0} → ℕ → ℕ → List T → List T → ℕ → Log T → Type 0
Fits sender taker sent taken pass v = (v.sends ≡ true → (pass ≡ sender) × (v.sent ≡ sent)) × (v.takes ≡ true → (pass ≡ taker) × (v.taken ≡ taken))

-- What was sent is what was taken and then what waits. One pass at most may send, one at most may take, and each knows its
-- part.
abbrev pub Relayed : {T : Type 0} → List T → List (Log T) → Type 0
Relayed {T} waiting passes =
    (sender : ℕ) × (taker : ℕ) × (sent : List T) × (taken : List T) × (sent ≡ taken ++ waiting)
    × ((pass : ℕ) (v : Log T) → get_elem? passes pass ≡ some v → Fits sender taker sent taken pass v)
