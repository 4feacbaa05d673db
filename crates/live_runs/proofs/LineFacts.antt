-- What one line says, by the rules of scripts.
use Rattle.std.proofs.Common.{◌≡◌, ◌≢◌, ◌&&◌, ◌||◌, ◌⊎◌, ◌++◌, ◌∷◌, ◌-◌, ◌==◌, inl, inr, ℕ, Bool, true, false, cond, not, nat_lt, arith, List, [], length, take, length-take, slice_index, Option, Some, None, option_map, option_and_then, refl, sym, ap, subst, ◌∙◌}
use Rattle.std.proofs.lemmas.Bool.{and_from, cases_Bool, eqb-true}
use Rattle.std.proofs.lemmas.Slice.Eq.{bytes_eq-Decides}
use Rattle.std.specs.List.{cons_option, list_any}
use Rattle.std.specs.Str.{is_utf8, IsUtf8, chars}
use Rattle.std.specs.Char.{encode_utf8}
use Rattle.std.proofs.lemmas.Str.{IsUtf8-from_is_utf8, is_utf8-from_IsUtf8}
use Rattle.decoded_lines.specs.Reading.{is_feed, longest_line}
use Rattle.lab_script.specs.declared.side.Side.{Side}
use Rattle.lab_script.specs.declared.script.Given.{Given}
use Rattle.lab_script.specs.declared.script.Given.TheVariants.{Input, Attach, Set, HangUp, Ask, MobileOf, Restart}
use Rattle.lab_script.specs.declared.script.Item.{Item}
use Rattle.lab_script.specs.Sides.{side_of, is_there}
use Rattle.lab_script.specs.Said.{line_said, given}
use Rattle.lab_script.specs.Script.{is_sim, is_line, needs_sim, given_by, item_of, is_unreadable}
use Rattle.lab_script.proofs.SaidFacts.{line_attaches_none}
use Rattle.lab_script.proofs.SideLemmas.{readable_there}
use Rattle.lab_runs.specs.Turns.{is_attach}
use Rattle.live_runs.specs.declared.line.Said.{Said}
use Rattle.live_runs.specs.declared.line.Said.TheVariants.{Unreadable}
use Rattle.std.specs.Prelude.{codes}
use Rattle.live_runs.specs.Lines.{script_line, is_text, is_readable, can_be_read, items_at, attaches, sim_behind, is_read, items_said, sim_said, is_there_said, said_of, Says}
use Rattle.live_runs.proofs.InputFacts.{and_no, no_and, unreadable_gives_none, unreadable_attaches_none}

-- whether what a line gives, if anything, attaches the simulators
abbrev attached : {A : Type 0} → Option (Item A) → Bool
attached None = false
attached (Some item) = is_attach item.given

-- what is given attaches none, unless it is the line that does
no_attach : {A : Type 0} (side : Side) (g : Option (Given A)) → g ≢ Some Attach → attached (option_map {U = Item A} (λ given. record { side = side; given = given }) g) ≡ false
no_attach side None other = refl
no_attach side (Some (Input input)) other = refl
no_attach side (Some Attach) other = absurd (other refl)
no_attach side (Some (Set setting)) other = refl
no_attach side (Some (HangUp call)) other = refl
no_attach side (Some (Ask asked)) other = refl
no_attach side (Some (MobileOf call habit)) other = refl
no_attach side (Some (Restart restart)) other = refl

attached_is_sim : (A : Type 0) (line : List ℕ) → attached {A = A} (item_of line) ≡ is_sim line
attached_is_sim A line = elim (cases_Bool (is_sim line)) [
  | inl same ↦
      ap (λ b. attached {A = A} (option_map {U = Item A} (λ given. record { side = side_of line; given = given }) (cond b (Some Attach) (option_and_then (λ r. given r.1 r.0) (line_said line))))) same
      ∙ sym same
  | inr other ↦
      ap (λ b. attached {A = A} (option_map {U = Item A} (λ given. record { side = side_of line; given = given }) (cond b (Some Attach) (option_and_then (λ r. given r.1 r.0) (line_said line))))) other
      ∙ no_attach {A = A} (side_of line) _ (line_attaches_none {A = A} line) ∙ sym other
]

-- a text that is one: not too long, in one line, UTF-8
pub not_short : (line : List ℕ) → not (nat_lt longest_line (length line)) ≡ false → is_text line ≡ false
unfolding is_text
not_short line e = and_no _ (is_utf8 line) (and_no _ (not (list_any is_feed line)) e)

pub not_one : (line : List ℕ) → not (list_any is_feed line) ≡ false → is_text line ≡ false
unfolding is_text
not_one line e = and_no _ (is_utf8 line) (no_and (not (nat_lt longest_line (length line))) _ e)

pub not_utf8 : (line : List ℕ) → (IsUtf8 line → ⊥) → is_text line ≡ false
unfolding is_text
not_utf8 line h = elim (cases_Bool (is_utf8 line)) [
  | inl e ↦ absurd (h (IsUtf8-from_is_utf8 line e))
  | inr e ↦ no_and _ (is_utf8 line) e
]

pub text_is : (line : List ℕ) → not (nat_lt longest_line (length line)) ≡ true → not (list_any is_feed line) ≡ true → IsUtf8 line → is_text line ≡ true
unfolding is_text
text_is line short one h = and_from _ _ (and_from _ _ short one) (is_utf8-from_IsUtf8 line h)

and_true : (b : Bool) → (b && true) ≡ b
and_true true = refl
and_true false = refl

says : {A : Type 0} (has_sim : Bool) (line : List ℕ) (s : Said A) → can_be_read has_sim line ≡ true → is_read s ≡ true
    → items_said s ≡ items_at line → sim_said has_sim s ≡ sim_behind has_sim line → is_there_said s ≡ true → Says has_sim line s
says {A = A} has_sim line s read said given sim there = record {
  read = said ∙ sym read;
  gives = given ∙ sym (ap (λ b. cond b (items_at {A = A} line) []) read);
  sim = sim;
  there = there;
}

-- a line that can't be read says nothing
pub says_unreadable : {A : Type 0} (has_sim : Bool) (line : List ℕ) → can_be_read has_sim line ≡ false → Says {A = A} has_sim line Unreadable
says_unreadable {A = A} has_sim line e = record {
  read = sym e;
  gives = sym (unreadable_gives_none {A = A} has_sim line e);
  sim = unreadable_sim has_sim line e;
  there = refl;
}
  where
    unreadable_sim : (b : Bool) (line : List ℕ) → can_be_read b line ≡ false → b ≡ sim_behind b line
    unreadable_sim true line e = refl
    unreadable_sim false line e = sym (unreadable_attaches_none line e)

-- a line of a script can be read where it isn't one that can't
readable_by : (is_line needs has_sim : Bool) → (not is_line || (needs && not has_sim)) ≡ false → (is_line && (has_sim || not needs)) ≡ true
readable_by true true true e = refl
readable_by true true false e = absurd cc
readable_by true false true e = refl
readable_by true false false e = refl
readable_by false needs has_sim e = absurd cc

unreadable_by : (is_line needs has_sim : Bool) → (not is_line || (needs && not has_sim)) ≡ true → (is_line && (has_sim || not needs)) ≡ false
unreadable_by true true false e = refl
unreadable_by true true true e = absurd cc
unreadable_by true false has_sim e = absurd cc
unreadable_by false needs has_sim e = refl

pub readable : (has_sim : Bool) (line : List ℕ) → is_unreadable false has_sim (script_line line) ≡ false → is_readable has_sim line ≡ true
unfolding is_readable
readable has_sim line e = readable_by (is_line false (script_line line)) (needs_sim (script_line line)) has_sim e

pub not_readable : (has_sim : Bool) (line : List ℕ) → is_unreadable false has_sim (script_line line) ≡ true → is_readable has_sim line ≡ false
unfolding is_readable
not_readable has_sim line e = unreadable_by (is_line false (script_line line)) (needs_sim (script_line line)) has_sim e

read_one : {A : Type 0} (o : Option (Item A)) → is_read (said_of o) ≡ true
read_one None = refl
read_one (Some item) = refl

items_one : {A : Type 0} (o : Option (Item A)) → items_said (said_of o) ≡ cons_option o []
items_one None = refl
items_one (Some item) = refl

sim_one : {A : Type 0} (has_sim : Bool) (o : Option (Item A)) → sim_said has_sim (said_of o) ≡ (has_sim || attached o)
sim_one true None = refl
sim_one false None = refl
sim_one has_sim (Some item) = refl

-- the item of a line for the first controller is for one that is there
there_one : {A : Type 0} (side : Side) (g : Option (Given A)) → is_there false side ≡ true → is_there_said (said_of (option_map {U = Item A} (λ given. record { side = side; given = given }) g)) ≡ true
there_one side None there = refl
there_one side (Some given) there = there

or_attached : (A : Type 0) (has_sim : Bool) (line : List ℕ) → can_be_read has_sim line ≡ true → (has_sim || attached {A = A} (item_of (script_line line))) ≡ sim_behind has_sim line
unfolding attaches
or_attached A true line read = refl
or_attached A false line read =
    attached_is_sim A (script_line line) ∙ sym (ap (λ b. is_sim (script_line line) && b) read ∙ and_true (is_sim (script_line line)))

-- one that can be says what it gives
pub says_item : {A : Type 0} (has_sim : Bool) (line : List ℕ) (o : Option (Item A)) → is_text line ≡ true → is_unreadable false has_sim (script_line line) ≡ false
    → o ≡ item_of (script_line line) → Says has_sim line (said_of o)
unfolding items_at
says_item {A = A} has_sim line o text e is =
    let read : can_be_read has_sim line ≡ true = and_from _ _ text (readable has_sim line e) in
    let there : is_there false (side_of (script_line line)) ≡ true = readable_there false has_sim (script_line line) e in
    subst (λ (o : Option (Item A)). Says has_sim line (said_of o)) (sym is)
    (says has_sim line (said_of (item_of (script_line line))) read (read_one {A = A} (item_of (script_line line))) (items_one (item_of (script_line line)))
    (sim_one {A = A} has_sim (item_of (script_line line)) ∙ or_attached A has_sim line read)
    (there_one {A = A} (side_of (script_line line)) (given_by (script_line line)) there))

-- the line that attaches the simulators, with the carriage return that may end it, is a text
four_octets : (line : List ℕ) → take (length line - 1) line ≡ codes "sim" → length line ≡ 4
four_octets line e =
    let three : length (take (length line - 1) line) ≡ 3 = ap length e in
    omega (arith, three, length-take (length line - 1) line)

with_return : (line : List ℕ) → length line ≡ 4 → take (length line - 1) line ≡ codes "sim" → (slice_index line (length line - 1) == 13) ≡ true → line ≡ codes "sim" ++ 13 ∷ []
with_return [] n e h = absurd (omega (arith, n))
with_return (a ∷ []) n e h = absurd (omega (arith, n))
with_return (a ∷ b ∷ []) n e h = absurd (omega (arith, n))
with_return (a ∷ b ∷ c ∷ []) n e h = absurd (omega (arith, n))
with_return (a ∷ b ∷ c ∷ d ∷ []) n e h = ap (λ front. front ++ d ∷ []) e ∙ ap (λ x. codes "sim" ++ x ∷ []) (eqb-true d 13 h)
with_return (a ∷ b ∷ c ∷ d ∷ f ∷ more) n e h = absurd (omega (arith, n))

sim_shapes : (line : List ℕ) → is_sim (script_line line) ≡ true → (line ≡ codes "sim") ⊎ (line ≡ codes "sim" ++ 13 ∷ [])
sim_shapes line e =
    let is : script_line line ≡ codes "sim" = (bytes_eq-Decides (script_line line) (codes "sim")).0 e in
    elim (cases_Bool (slice_index line (length line - 1) == 13)) [
      | inl some ↦
          let front : take (length line - 1) line ≡ codes "sim" = sym (ap (λ b. cond b (take (length line - 1) line) line) some) ∙ is in
          inr (with_return line (four_octets line front) front some)
      | inr none ↦ inl (sym (ap (λ b. cond b (take (length line - 1) line) line) none) ∙ is)
    ]

plain_is_utf8 : is_utf8 (codes "sim") ≡ true
unfolding is_utf8 chars encode_utf8
plain_is_utf8 = refl

returned_is_utf8 : is_utf8 (codes "sim" ++ 13 ∷ []) ≡ true
unfolding is_utf8 chars encode_utf8
returned_is_utf8 = refl

sim_is_utf8 : (line : List ℕ) → is_sim (script_line line) ≡ true → is_utf8 line ≡ true
sim_is_utf8 line e = elim (sim_shapes line e) [
  | inl is ↦ ap is_utf8 is ∙ plain_is_utf8
  | inr is ↦ ap is_utf8 is ∙ returned_is_utf8
]

-- no text attaches none
pub no_text_is_sim : (line : List ℕ) → (IsUtf8 line → ⊥) → false ≡ is_sim (script_line line)
no_text_is_sim line h = elim (cases_Bool (is_sim (script_line line))) [
  | inl e ↦ absurd (h (IsUtf8-from_is_utf8 line (sim_is_utf8 line e)))
  | inr e ↦ sym e
]
