-- Which requests for memory are refused. The first request is number 1.
use Rattle.std.specs.Prelude.{◌≡◌, ◌≤◌, ℕ}
use Rattle.refusing_heap.specs.declared.Refusals.{Refusals}
use Rattle.refusing_heap.specs.declared.Refusals.TheVariants.{Never, Nth, From}

abbrev pub IsRefused : Refusals → ℕ → Type 0
IsRefused Never number = ⊥
IsRefused (Nth n) number = number ≡ n
IsRefused (From n) number = n ≤ number
