-- How much of what was tried succeeded. Ours, of no standard.
use Rattle.std.specs.Prelude.{ℕ, ◌*◌, ◌/◌, ◌==◌, Option, Some, None, if◌then◌else◌}

-- so many of others, in tenths of a percent, rounded down
abbrev pub tenths : ℕ → ℕ → Option ℕ
tenths done asked = if asked == 0 then None else Some (done * 1000 / asked)
