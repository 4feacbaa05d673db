-- The messages that are owed, and what there is room for.
use Rattle.std.specs.Prelude.{ℕ, ◌≡◌, ◌≤◌, List, vec_len, vec_capacity, Vec}
use Rattle.ho_procedure.specs.Sent.{Sent}

pub record Owed : Type 0 where
  pub items : List Sent
  -- how many more messages there is room for
  pub room : ℕ
  -- how many octets of a message for a mobile there is room for, where one is passed on unread
  pub unread_room : ℕ

-- the longest message of the procedure that isn't passed on unread: a MEASUREMENT REPORT would have 18 octets
abbrev pub longest_rr : ℕ
longest_rr = 18

-- the longest of them in a DATA REQUEST
abbrev pub longest : ℕ
longest = 27

-- a buffer that has no octet yet, and room for a message
pub record IsSpare {A : Type 0} (buffer : Vec ℕ A) : Type 0 where
  pub len : vec_len buffer ≡ 0
  pub capacity : longest ≤ vec_capacity buffer
