-- How long a file may be. Ours, of no standard.
use Rattle.std.specs.Prelude.{ℕ}

-- the most octets that a file may have: 64 MiB
abbrev pub longest_file : ℕ
longest_file = 67108864
