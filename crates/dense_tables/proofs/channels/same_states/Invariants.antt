use Rattle.std.proofs.Common.{◌≡◌, ◌<◌, ℕ}
use Rattle.std.specs.FinMap as map
use Rattle.dense_tables.specs.Channels.{channel_at}
use Rattle.dense_tables.proofs.channels.same_states.Given as goal

-- every channel so far has the same state in both
abbrev pub invariant-loop-number : goal.invariant-loop-number
invariant-loop-number g l = (k : ℕ) → k < l.number → map.get l.one.states (channel_at k) ≡ map.get l.other.states (channel_at k)
