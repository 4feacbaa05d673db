-- What links passed on, and how many messages they refused. Ours, of no standard.
use Rattle.std.specs.Prelude.{◌≡◌, ℕ, ◌+◌, ◌<◌, min, List, ◌++◌, length}
use Rattle.ho_procedure.specs.Sent.{Sent}

-- the last value of a count of 64 bits
abbrev pub last_count : ℕ
last_count = 18446744073709551615

-- a count that stays at its last value
abbrev pub one_more : ℕ → ℕ
one_more n = min (n + 1) last_count

-- Of the messages that are owed since the start, all were passed on, in their order, where none was refused. Else those that
-- were passed on and those that were refused are as many, unless the count of these is at its last value.
pub record Delivered (start now : List Sent) (refused : ℕ) (owed : List Sent) : Type 0 where
  pub since : List Sent
  pub now_is : now ≡ start ++ since
  pub all : refused ≡ 0 → since ≡ owed
  pub counted : refused < last_count → length since + refused ≡ length owed

-- these messages were owed too, and were passed on or refused
pub record Carries (passed : List Sent) (refused : ℕ) (messages : List Sent) (passed' : List Sent) (refused' : ℕ) : Type 0 where
  pub carries : (start owed : List Sent) → Delivered start passed refused owed → Delivered start passed' refused' (owed ++ messages)
