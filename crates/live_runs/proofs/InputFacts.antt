-- What lines give, one line after another.
use Rattle.std.proofs.Common.{◌≡◌, ◌++◌, ◌<◌, ◌&&◌, ◌||◌, inl, inr, ℕ, Bool, true, false, cond, not, nat_lt, List, [], length, refl, sym, ap, ◌∙◌}
use Rattle.std.proofs.lemmas.Bool.{cases_Bool, lt-ltb}
use Rattle.std.specs.List.{list_any, slice_split}
use Rattle.decoded_lines.specs.Reading.{is_feed, longest_line, first_line, behind_line}
use Rattle.decoded_lines.proofs.LineLemmas.{split_first, split_none, left_none}
use Rattle.lab_script.specs.Forms.{form_named}
use Rattle.lab_script.specs.Said.{line_said}
use Rattle.lab_script.specs.Script.{is_sim}
use Rattle.live_runs.specs.Lines.{script_line, is_text, can_be_read, items_at, given_at, attaches, given_by, sim_by, items_of, items_from}

or_false : (b : Bool) → (b || false) ≡ b
or_false true = refl
or_false false = refl

either_way : {X : Type 0} (b : Bool) (x y : X) → x ≡ y → cond b x y ≡ y
either_way true x y e = e
either_way false x y e = refl

-- an empty line gives nothing
blank_at_gives_none : {A : Type 0} (has_sim : Bool) → given_at {A = A} has_sim [] ≡ []
unfolding items_at line_said form_named
blank_at_gives_none {A = A} has_sim = either_way (can_be_read has_sim []) (items_at {A = A} []) [] refl

blank_gives_none : {A : Type 0} (sims has_sim : Bool) → given_by {A = A} sims has_sim [] ≡ []
blank_gives_none {A = A} sims has_sim =
    either_way (sims || not (is_sim (script_line []))) (given_at {A = A} has_sim []) [] (blank_at_gives_none {A = A} has_sim)

-- nor does nothing
pub none_from : {A : Type 0} (sims has_sim : Bool) → items_from {A = A} sims has_sim [] ≡ []
none_from {A = A} sims has_sim = ap (λ l. l ++ items_of sims (sim_by sims has_sim []) []) (blank_gives_none {A = A} sims has_sim)

-- what octets give: their first line, and what stands behind it
pub from_first : {A : Type 0} (sims has_sim : Bool) (octets : List ℕ)
    → items_from {A = A} sims has_sim octets ≡ given_by sims has_sim (first_line octets) ++ items_from sims (sim_by sims has_sim (first_line octets)) (behind_line octets)
from_first {A = A} sims has_sim octets = elim (cases_Bool (list_any is_feed octets)) [
  | inl some ↦ ap (items_of {A = A} sims has_sim) (split_first octets some)
  | inr none ↦
      let behind = sim_by sims has_sim (first_line octets) in
      ap (items_of {A = A} sims has_sim) (split_none octets none)
      ∙ sym (ap (λ l. given_by {A = A} sims has_sim (first_line octets) ++ items_from sims behind l) (left_none octets none)
      ∙ ap (λ l. given_by {A = A} sims has_sim (first_line octets) ++ l) (none_from {A = A} sims behind))
]

pub and_no : (a b : Bool) → a ≡ false → (a && b) ≡ false
and_no a b e = rw e refl

pub no_and : (a b : Bool) → b ≡ false → (a && b) ≡ false
no_and true b e = e
no_and false b e = refl

is_over : (a b : ℕ) → a < b → not (nat_lt a b) ≡ false
is_over a b h = ap not (lt-ltb a b h)

-- a line that is too long can't be read
pub long_unreadable : (has_sim : Bool) (line : List ℕ) → longest_line < length line → can_be_read has_sim line ≡ false
unfolding is_text
long_unreadable has_sim line long = and_no _ _ (and_no _ _ (and_no _ _ (is_over longest_line (length line) long)))

pub unreadable_gives_none : {A : Type 0} (has_sim : Bool) (line : List ℕ) → can_be_read has_sim line ≡ false → given_at {A = A} has_sim line ≡ []
unreadable_gives_none {A = A} has_sim line e = ap (λ b. cond b (items_at {A = A} line) []) e

pub unreadable_gives_none_by : {A : Type 0} (sims has_sim : Bool) (line : List ℕ) → can_be_read has_sim line ≡ false → given_by {A = A} sims has_sim line ≡ []
unreadable_gives_none_by {A = A} sims has_sim line e =
    either_way (sims || not (is_sim (script_line line))) (given_at {A = A} has_sim line) [] (unreadable_gives_none {A = A} has_sim line e)

pub unreadable_attaches_none : (line : List ℕ) → can_be_read false line ≡ false → attaches line ≡ false
unfolding attaches
unreadable_attaches_none line e = no_and _ _ e

attaches_none : (sims has_sim : Bool) (line : List ℕ) → attaches line ≡ false → sim_by sims has_sim line ≡ has_sim
attaches_none sims has_sim line e = ap (λ b. has_sim || b) (no_and sims (attaches line) e) ∙ or_false has_sim

pub long_behind : (sims has_sim : Bool) (line : List ℕ) → longest_line < length line → sim_by sims has_sim line ≡ has_sim
long_behind sims has_sim line long = attaches_none sims has_sim line (unreadable_attaches_none line (long_unreadable false line long))

-- where no simulators may be attached, the line that attaches them gives nothing
pub sim_gives_none : {A : Type 0} (has_sim : Bool) (line : List ℕ) → is_sim (script_line line) ≡ true → given_by {A = A} false has_sim line ≡ []
sim_gives_none {A = A} has_sim line e = ap (λ b. cond (not b) (given_at {A = A} has_sim line) []) e

-- and none are attached
pub sim_stays : (has_sim : Bool) (line : List ℕ) → sim_by false has_sim line ≡ has_sim
sim_stays has_sim line = or_false has_sim

-- another line gives the same where they may be
pub other_gives : {A : Type 0} (has_sim : Bool) (line : List ℕ) → is_sim (script_line line) ≡ false → given_by {A = A} false has_sim line ≡ given_by true has_sim line
other_gives {A = A} has_sim line e = ap (λ b. cond (not b) (given_at {A = A} has_sim line) []) e

pub other_attaches_none : (has_sim : Bool) (line : List ℕ) → is_sim (script_line line) ≡ false → sim_by true has_sim line ≡ sim_by false has_sim line
unfolding attaches
other_attaches_none has_sim line e = ap (λ b. has_sim || b) (and_no (is_sim (script_line line)) (can_be_read false line) e)
