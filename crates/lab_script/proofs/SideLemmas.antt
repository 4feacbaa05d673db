-- Facts of the controllers that the lines of a script are for.
use Rattle.std.proofs.Common.{◌≡◌, ℕ, ◌+◌, ◌&&◌, ◌||◌, ◌∷◌, List, [], Bool, true, false, cond, not, Option, Some, None, refl, sym, ap, ◌∙◌, subst, arith, rules, length, take, drop, nat_eq, if◌then◌else◌, option_map, codes, MatchOption, Bor}
use Rattle.std.specs.List.{list_all, filter_map, position_from, enumerate_from, cons_option}
use Rattle.std.specs.Str.Pattern.{FindsTextPrefix}
use Rattle.std.proofs.lemmas.Bool.{and_parts, and_from}
use Rattle.std.proofs.lemmas.Str.Pattern.{starts_text}
use Rattle.lab_script.specs.declared.side.Side.{Side}
use Rattle.lab_script.specs.declared.side.Side.TheVariants.{First, Peer}
use Rattle.lab_script.specs.declared.script.Given.{Given}
use Rattle.lab_script.specs.declared.script.Item.{Item}
use Rattle.lab_script.specs.Sides.{is_for_peer, side_of, text_of, is_there}
use Rattle.lab_script.specs.Script.{given_by, item_of, items_of, lines_of, is_line, is_unreadable, attaches_sim, first_unreadable, needs_sim, AreThere}

if_true : {X : Type 0} (b : Bool) (x y : X) → b ≡ true → x ≡ (if b then x else y)
if_true true x y e = refl
if_true false x y e = absurd (search (rules, e))

if_false : {X : Type 0} (b : Bool) (x y : X) → b ≡ false → y ≡ (if b then x else y)
if_false false x y e = refl
if_false true x y e = absurd (search (rules, e))

-- what `strip_prefix` says of a line
abbrev pub Stripped : List ℕ → Option (Bor (List ℕ)) → Type 0
Stripped line r = MatchOption r (FindsTextPrefix (codes "2: ") line None) (λ x. (k : ℕ) × FindsTextPrefix (codes "2: ") line (Some k) × (x.now ≡ drop k line) × (length x.now + k ≡ length line))

marked : (line : List ℕ) (x : Bor (List ℕ)) → Stripped line (Some x) → is_for_peer line ≡ true
marked line x h = sym (starts_text true (codes "2: ") line (h.0, h.1, rw h.1.0 h.1.2))

unmarked : (line : List ℕ) → Stripped line None → is_for_peer line ≡ false
unmarked line h = sym (starts_text false (codes "2: ") line h)

-- a line with the mark is for the peer, and says what stands behind it
pub side_marked : (line : List ℕ) (x : Bor (List ℕ)) → Stripped line (Some x) → Peer ≡ side_of line
side_marked line x h = if_true (is_for_peer line) Peer First (marked line x h)

pub text_marked : (line : List ℕ) (x : Bor (List ℕ)) → Stripped line (Some x) → x.now ≡ text_of line
text_marked line x h = (h.2 ∙ ap (λ (k : ℕ). drop k line) h.1.0) ∙ if_true (is_for_peer line) (drop 3 line) line (marked line x h)

-- one without it is for the first controller, and says itself
pub side_unmarked : (line : List ℕ) → Stripped line None → First ≡ side_of line
side_unmarked line h = if_false (is_for_peer line) Peer First (unmarked line h)

pub text_unmarked : (line : List ℕ) → Stripped line None → line ≡ text_of line
text_unmarked line h = if_false (is_for_peer line) (drop 3 line) line (unmarked line h)

clash : (mark rest : Bool) → mark ≡ true → (not mark && rest) ≡ true → false ≡ true
clash true rest e h = h
clash false rest e h = e

-- a line that can be read without a peer isn't for one: its mark is no comment and no blank
clash_marked : (bs : List ℕ) → is_for_peer (50 ∷ bs) ≡ true → is_line false (50 ∷ bs) ≡ true → false ≡ true
clash_marked bs e h = clash (is_for_peer (50 ∷ bs)) _ e h

not_for_peer_by : (b : ℕ) (bs : List ℕ) (mark : Bool) → is_for_peer (b ∷ bs) ≡ mark → is_line false (b ∷ bs) ≡ true → is_for_peer (b ∷ bs) ≡ false
not_for_peer_by b bs false e h = e
not_for_peer_by b bs true e h =
    let first = and_parts (nat_eq 50 b) _ e in
    let two : b ≡ 50 = grind (arith, first.0) in
    let bad = clash_marked bs (subst (λ (x : ℕ). is_for_peer (x ∷ bs) ≡ true) two e) (subst (λ (x : ℕ). is_line false (x ∷ bs) ≡ true) two h) in
    absurd (search (rules, bad))

not_for_peer : (line : List ℕ) → is_line false line ≡ true → is_for_peer line ≡ false
not_for_peer [] h = refl
not_for_peer (b ∷ bs) h = not_for_peer_by b bs (is_for_peer (b ∷ bs)) refl h

there_any : (mark : Bool) → is_there true (if mark then Peer else First) ≡ true
there_any true = refl
there_any false = refl

there_first : (mark : Bool) → mark ≡ false → is_there false (if mark then Peer else First) ≡ true
there_first false e = refl
there_first true e = absurd (search (rules, e))

-- a line that can be read is for a controller that is there
line_there : (has_peer : Bool) (line : List ℕ) → is_line has_peer line ≡ true → is_there has_peer (side_of line) ≡ true
line_there true line h = there_any (is_for_peer line)
line_there false line h = there_first (is_for_peer line) (not_for_peer line h)

is_a_line : (is_line rest : Bool) → (not is_line || rest) ≡ false → is_line ≡ true
is_a_line true rest e = refl
is_a_line false rest e = absurd (search (rules, e))

pub readable_there : (has_peer has_sim : Bool) (line : List ℕ) → is_unreadable has_peer has_sim line ≡ false → is_there has_peer (side_of line) ≡ true
readable_there has_peer has_sim line e = line_there has_peer line (is_a_line (is_line has_peer line) (needs_sim line && not has_sim) e)

-- one item more
item_there : {A : Type 0} (has_peer : Bool) (side : Side) (o : Option (Given A)) (items : List (Item A))
    → is_there has_peer side ≡ true → AreThere has_peer items
    → AreThere has_peer (cons_option (option_map {U = Item A} (λ given. record { side = side; given = given }) o) items)
item_there has_peer side None items there h = h
item_there has_peer side (Some given) items there h = and_from (is_there has_peer side) _ there h

-- what lines that can be read give
items_there : (A : Type 0) (has_peer : Bool) (lines : List (List ℕ)) → list_all (is_line has_peer) lines ≡ true → AreThere has_peer (filter_map (item_of {A = A}) lines)
items_there A has_peer [] h = refl
items_there A has_peer (line ∷ lines) h =
    let parts = and_parts (is_line has_peer line) (list_all (is_line has_peer) lines) h in
    item_there has_peer (side_of line) (given_by {A = A} line) (filter_map (item_of {A = A}) lines) (line_there has_peer line parts.0) (items_there A has_peer lines parts.1)

passed : (b c : Bool) (i : ℕ) (rest : Option ℕ) → cond (not b || c) (Some i) rest ≡ None → (b ≡ true) × (rest ≡ None)
passed true true i rest e = absurd (search (rules, e))
passed true false i rest e = (refl, e)
passed false c i rest e = absurd (search (rules, e))

-- where none is found that can't be read, all are lines
all_lines : (has_peer : Bool) (has_sim : ℕ → Bool) (i n : ℕ) (lines : List (List ℕ))
    → position_from (λ (at : ℕ × List ℕ). is_unreadable has_peer (has_sim at.0) at.1) i (enumerate_from n lines) ≡ None → list_all (is_line has_peer) lines ≡ true
all_lines has_peer has_sim i n [] e = refl
all_lines has_peer has_sim i n (line ∷ lines) e =
    let test : ℕ × List ℕ → Bool = λ at. is_unreadable has_peer (has_sim at.0) at.1 in
    let parts = passed (is_line has_peer line) (needs_sim line && not (has_sim n)) i (position_from test (i + 1) (enumerate_from (n + 1) lines)) e in
    and_from (is_line has_peer line) (list_all (is_line has_peer) lines) parts.0 (all_lines has_peer has_sim (i + 1) (n + 1) lines parts.1)

-- all that a script gives is for controllers that are there
pub all_there : (A : Type 0) (has_peer : Bool) (text : List ℕ) → first_unreadable has_peer text ≡ None → AreThere has_peer (items_of {A = A} text)
all_there A has_peer text e =
    items_there A has_peer (lines_of text) (all_lines has_peer (λ place. attaches_sim (take place (lines_of text))) 1 0 (lines_of text) e)
