-- The channels of a TRX by their numbers: three for each timeslot, the whole of it and then its halves. The numbers of the
-- traffic channels are a list of which none stands twice.
use Rattle.std.proofs.Common.{◌≡◌, ◌==◌, ◌+◌, ◌*◌, ◌/◌, ◌%◌, ◌<◌, ◌≤◌, ◌&&◌, ◌||◌, ℕ, zero, suc, Bool, true, false, nat_lt, cond, List, [], ◌∷◌, ◌++◌, length, map, count_by, All, refl, sym, ap, ◌∙◌, length-append, arith}
use Rattle.std.proofs.lemmas.Bool.{or_parts, or_from, and_right}
use Rattle.std.proofs.lemmas.Bool.Decides.{nat_tests}
use Rattle.std.proofs.lemmas.List.{length-map}
use Rattle.std.proofs.lemmas.List.Elements.{All-head, All-tail}
use Rattle.std.proofs.lemmas.List.Folds.{list_any-append}
use Rattle.std.proofs.lemmas.List.Sums.{sum_by-cons, sum_by-append}
use Rattle.std.specs.List.{range_with_len, AllByRecursion}
use Rattle.timeslots.specs.declared.Sub.{Sub}
use Rattle.timeslots.specs.declared.Sub.TheVariants.{Full, Half0, Half1}
use Rattle.channel_fsm.specs.declared.ChanId.{ChanId}
use Rattle.channel_fsm.specs.Keys.{same_chan}
use Rattle.timeslots.specs.Parts.{sub_number}
use Rattle.channel_fsm.proofs.KeyFacts.{same_chan_itself, other_chan}
use Rattle.cell_table.specs.declared.fault.Key.TheVariants as key
use Rattle.cell_table.specs.Ranges.{IsAllowed}
use Rattle.cell_table.specs.Limits.{timeslots_of_trx}
use Rattle.cell_table.specs.Site.{TrxView, IsHalf, slots_with, trx_channels}
use Rattle.cell_table.specs.Searches.{trx_size, number_of, slots_before, has_pair}
use Rattle.cell_table.proofs.Ordered.{is_in}

-- how many channels a TRX can have
abbrev pub places_of_trx : ℕ
places_of_trx = 24

abbrev pub part : ℕ → Sub
part zero = Full
part (suc zero) = Half0
part (suc (suc n)) = Half1

abbrev pub channel : ℕ → ℕ → ℕ → ChanId
channel cell trx n = record { cell = cell; trx = trx; tn = n / 3; sub = part (n % 3) }

abbrev pub number : ChanId → ℕ
number x = number_of x.tn x.sub

-- a channel has its number

quotient : (m r : ℕ) → r < 3 → (m * 3 + r) / 3 ≡ m
quotient m r small = omega arith

rest : (m r : ℕ) → r < 3 → (m * 3 + r) % 3 ≡ r
rest m r small = omega arith

part_number : (s : Sub) → part (sub_number s) ≡ s
part_number Full = refl
part_number Half0 = refl
part_number Half1 = refl

pub number_small : (s : Sub) → sub_number s < 3
number_small Full = omega arith
number_small Half0 = omega arith
number_small Half1 = omega arith

pub channel_number : (x : ChanId) → channel x.cell x.trx (number x) ≡ x
channel_number x =
    let tn = quotient x.tn (sub_number x.sub) (number_small x.sub) in
    let sub = ap part (rest x.tn (sub_number x.sub) (number_small x.sub)) ∙ part_number x.sub in
    λ i. record { cell = x.cell; trx = x.trx; tn = tn i; sub = sub i }

number_part : (r : ℕ) → r < 3 → sub_number (part r) ≡ r
number_part zero small = refl
number_part (suc zero) small = refl
number_part (suc (suc zero)) small = refl
number_part (suc (suc (suc r))) small = absurd (omega arith)

whole : (n : ℕ) → n / 3 * 3 + n % 3 ≡ n
whole n = omega arith

below_three : (n : ℕ) → n % 3 < 3
below_three n = omega arith

pub number_channel : (cell trx n : ℕ) → number (channel cell trx n) ≡ n
number_channel cell trx n = ap (λ r. n / 3 * 3 + r) (number_part (n % 3) (below_three n)) ∙ whole n

-- the number of a channel within the limits is one of a TRX's
pub number_limit : (x : ChanId) → x.tn < timeslots_of_trx → number x < places_of_trx
number_limit x small = let sub = number_small x.sub in omega (arith, small, sub)

-- the test tells a channel by its number, too
pub found_itself : (x : ChanId) → same_chan x (channel x.cell x.trx (number x)) ≡ true
found_itself x = ap (same_chan x) (channel_number x) ∙ same_chan_itself x

pub other_number : (x : ChanId) (cell trx n : ℕ) → n < number x → same_chan x (channel cell trx n) ≡ false
other_number x cell trx n less =
    other_chan x (channel cell trx n) (λ e. let same : number x ≡ n = ap number e ∙ number_channel cell trx n in absurd (omega (arith, less, same)))

-- all channels of a TRX, in the order of their numbers
pub by_numbers : (cell trx : ℕ) → trx_channels cell trx ≡ map (channel cell trx) (range_with_len 0 places_of_trx)
by_numbers cell trx = refl

-- the numbers of the traffic channels of a TRX
abbrev pub numbers_of : TrxView → List ℕ
numbers_of t = map (λ tn. number_of tn Full) t.tch ++ (map (λ tn. number_of tn Half0) t.half ++ map (λ tn. number_of tn Half1) t.half)

same_number : (m q i r : ℕ) → i < 3 → r < 3 → (m * 3 + i == q * 3 + r) ≡ ((m == q) && (i == r))
same_number m q i r small small' = by (m == q) refl (i == r) refl
  where
    both : (m == q) ≡ true → (i == r) ≡ true → (m * 3 + i == q * 3 + r) ≡ true
    both e f = grind (arith, nat_tests)

    first : (m == q) ≡ false → (m * 3 + i == q * 3 + r) ≡ false
    first e = grind (arith, nat_tests)

    second : (m == q) ≡ true → (i == r) ≡ false → (m * 3 + i == q * 3 + r) ≡ false
    second e f = grind (arith, nat_tests)

    by : (a : Bool) → (m == q) ≡ a → (b : Bool) → (i == r) ≡ b → (m * 3 + i == q * 3 + r) ≡ (a && b)
    by true e true f = both e f
    by true e false f = second e f
    by false e b f = first e

joined : (a b t : Bool) → ((a && t) || (b && t)) ≡ ((a || b) && t)
joined true b true = refl
joined true true false = refl
joined true false false = refl
joined false b t = refl

in_map : (i q r : ℕ) (xs : List ℕ) → i < 3 → r < 3 → is_in (map (λ m. m * 3 + i) xs) (q * 3 + r) ≡ (is_in xs q && (i == r))
in_map i q r [] small small' = refl
in_map i q r (x ∷ xs) small small' =
    (λ j. same_number x q i r small small' j || in_map i q r xs small small' j) ∙ joined (x == q) (is_in xs q) (i == r)

and_true : (b : Bool) → (b && true) ≡ b
and_true true = refl
and_true false = refl

or_false : (b : Bool) → (b || false) ≡ b
or_false true = refl
or_false false = refl

in_parts : (t : TrxView) (q r : ℕ) → r < 3 → is_in (numbers_of t) (q * 3 + r) ≡ ((is_in t.tch q && (0 == r)) || ((is_in t.half q && (1 == r)) || (is_in t.half q && (2 == r))))
in_parts t q r small =
    let n = q * 3 + r in
    let test : ℕ → Bool = λ m. m == n in
    list_any-append test (map (λ m. m * 3 + 0) t.tch) (map (λ m. m * 3 + 1) t.half ++ map (λ m. m * 3 + 2) t.half)
    ∙ ap (λ b. is_in (map (λ m. m * 3 + 0) t.tch) n || b) (list_any-append test (map (λ m. m * 3 + 1) t.half) (map (λ m. m * 3 + 2) t.half))
    ∙ (λ i. in_map 0 q r t.tch (omega arith) small i || (in_map 1 q r t.half (omega arith) small i || in_map 2 q r t.half (omega arith) small i))

-- a number is one of them exactly where the site names its channel
part_in : (t : TrxView) (q r : ℕ) → r < 3 → is_in (slots_with (part r) t) q ≡ is_in (numbers_of t) (q * 3 + r)
part_in t q zero small = sym (in_parts t q 0 small ∙ rw (and_true (is_in t.tch q), and_right (is_in t.half q) false refl, or_false (is_in t.tch q)) refl)
part_in t q (suc zero) small =
    sym (in_parts t q 1 small ∙ rw (and_true (is_in t.half q), and_right (is_in t.tch q) false refl, and_right (is_in t.half q) false refl, or_false (is_in t.half q)) refl)
part_in t q (suc (suc zero)) small =
    sym (in_parts t q 2 small ∙ rw (and_true (is_in t.half q), and_right (is_in t.tch q) false refl, and_right (is_in t.half q) false refl) refl)
part_in t q (suc (suc (suc r))) small = absurd (omega arith)

pub number_in : (t : TrxView) (n : ℕ) → is_in (slots_with (part (n % 3)) t) (n / 3) ≡ is_in (numbers_of t) n
number_in t n = part_in t (n / 3) (n % 3) (below_three n) ∙ ap (is_in (numbers_of t)) (whole n)

-- as many come before a number, and as many there are
map_count : (p : ℕ → Bool) (make : ℕ → ℕ) (ns : List ℕ) → count_by p (map make ns) ≡ count_by (λ n. p (make n)) ns
map_count p make [] = refl
map_count p make (n ∷ ns) =
    sum_by-cons (λ x. cond (p x) 1 0) (make n) (map make ns) ∙ ap (λ k. cond (p (make n)) 1 0 + k) (map_count p make ns) ∙ sym (sum_by-cons (λ k. cond (p (make k)) 1 0) n ns)

pub before_numbers : (t : TrxView) (n : ℕ) → slots_before n t ≡ count_by (λ m. nat_lt m n) (numbers_of t)
before_numbers t n =
    let test : ℕ → Bool = λ m. nat_lt m n in
    let counted : ℕ → ℕ = λ m. cond (test m) 1 0 in
    sym (sum_by-append counted (map (λ m. m * 3 + 0) t.tch) (map (λ m. m * 3 + 1) t.half ++ map (λ m. m * 3 + 2) t.half)
    ∙ ap (λ k. count_by test (map (λ m. m * 3 + 0) t.tch) + k) (sum_by-append counted (map (λ m. m * 3 + 1) t.half) (map (λ m. m * 3 + 2) t.half))
    ∙ (λ i. map_count test (λ m. m * 3 + 0) t.tch i + (map_count test (λ m. m * 3 + 1) t.half i + map_count test (λ m. m * 3 + 2) t.half i)))

pub size_numbers : (t : TrxView) → length (numbers_of t) ≡ trx_size t
size_numbers t =
    length-append (map (λ m. m * 3 + 0) t.tch) (map (λ m. m * 3 + 1) t.half ++ map (λ m. m * 3 + 2) t.half)
    ∙ ap (λ k. length (map (λ m. m * 3 + 0) t.tch) + k) (length-append (map (λ m. m * 3 + 1) t.half) (map (λ m. m * 3 + 2) t.half))
    ∙ (λ i. length-map t.tch (λ m. m * 3 + 0) i + (length-map t.half (λ m. m * 3 + 1) i + length-map t.half (λ m. m * 3 + 2) i))

-- none of them stands twice

all_append : (P : ℕ → Type 0) (xs ys : List ℕ) → AllByRecursion P xs → AllByRecursion P ys → AllByRecursion P (xs ++ ys)
all_append P [] ys all all' = all'
all_append P (x ∷ xs) ys all all' = (all.0, all_append P xs ys all.1 all')

once_map : (i : ℕ) (xs : List ℕ) → i < 3 → has_pair (λ m n. n == m) xs ≡ false → has_pair (λ m n. n == m) (map (λ m. m * 3 + i) xs) ≡ false
once_map i [] small once = refl
once_map i (x ∷ xs) small once =
    let (none, later) = or_parts (is_in xs x) (has_pair (λ m n. n == m) xs) once in
    or_from (is_in (map (λ m. m * 3 + i) xs) (x * 3 + i)) (has_pair (λ m n. n == m) (map (λ m. m * 3 + i) xs))
    (in_map i x i xs small small ∙ ap (λ b. b && (i == i)) none) (once_map i xs small later)

once_append : (xs ys : List ℕ) → has_pair (λ m n. n == m) xs ≡ false → has_pair (λ m n. n == m) ys ≡ false → AllByRecursion (λ x. is_in ys x ≡ false) xs
    → has_pair (λ m n. n == m) (xs ++ ys) ≡ false
once_append [] ys once once' apart = once'
once_append (x ∷ xs) ys once once' apart =
    let (none, later) = or_parts (is_in xs x) (has_pair (λ m n. n == m) xs) once in
    or_from (is_in (xs ++ ys) x) (has_pair (λ m n. n == m) (xs ++ ys))
    (list_any-append (λ m. m == x) xs ys ∙ or_from (is_in xs x) (is_in ys x) none apart.0) (once_append xs ys later once' apart.1)

apart_maps : (i j : ℕ) (xs ys : List ℕ) → i < 3 → j < 3 → (j == i) ≡ false → AllByRecursion (λ n. is_in (map (λ m. m * 3 + j) ys) n ≡ false) (map (λ m. m * 3 + i) xs)
apart_maps i j [] ys small small' other = tt
apart_maps i j (x ∷ xs) ys small small' other =
    (in_map j x i ys small' small ∙ and_right (is_in ys x) (j == i) other, apart_maps i j xs ys small small' other)

apart_both : (xs ys zs : List ℕ) → AllByRecursion (λ n. is_in ys n ≡ false) xs → AllByRecursion (λ n. is_in zs n ≡ false) xs → AllByRecursion (λ n. is_in (ys ++ zs) n ≡ false) xs
apart_both [] ys zs all all' = tt
apart_both (x ∷ xs) ys zs all all' =
    (list_any-append (λ m. m == x) ys zs ∙ or_from (is_in ys x) (is_in zs x) all.0 all'.0, apart_both xs ys zs all.1 all'.1)

pub numbers_once : (t : TrxView) → has_pair (λ m n. n == m) t.tch ≡ false → has_pair (λ m n. n == m) t.half ≡ false → has_pair (λ m n. n == m) (numbers_of t) ≡ false
numbers_once t once once' =
    once_append (map (λ m. m * 3 + 0) t.tch) (map (λ m. m * 3 + 1) t.half ++ map (λ m. m * 3 + 2) t.half) (once_map 0 t.tch (omega arith) once)
    (once_append (map (λ m. m * 3 + 1) t.half) (map (λ m. m * 3 + 2) t.half) (once_map 1 t.half (omega arith) once') (once_map 2 t.half (omega arith) once')
    (apart_maps 1 2 t.half t.half (omega arith) (omega arith) refl))
    (apart_both (map (λ m. m * 3 + 0) t.tch) (map (λ m. m * 3 + 1) t.half) (map (λ m. m * 3 + 2) t.half)
    (apart_maps 0 1 t.tch t.half (omega arith) (omega arith) refl) (apart_maps 0 2 t.tch t.half (omega arith) (omega arith) refl))

-- and each is one of a TRX's

in_range : (a n c : ℕ) → a ≤ c → c < a + n → is_in (range_with_len a n) c ≡ true
in_range a zero c least most = absurd (omega arith)
in_range a (suc n) c least most = by (a == c) refl (λ further. in_range (a + 1) n c further (omega arith))
  where
    beyond : (a == c) ≡ false → a + 1 ≤ c
    beyond e = grind (arith, nat_tests)

    by : (b : Bool) → (a == c) ≡ b → (a + 1 ≤ c → is_in (range_with_len (a + 1) n) c ≡ true) → is_in (range_with_len a (suc n)) c ≡ true
    by true e later = ap (λ b. b || is_in (range_with_len (a + 1) n) c) e
    by false e later = ap (λ b. b || is_in (range_with_len (a + 1) n) c) e ∙ later (beyond e)

within_map : (i : ℕ) (xs : List ℕ) → i < 3 → All (λ n. n ≤ 7) xs → AllByRecursion (λ n. is_in (range_with_len 0 places_of_trx) n ≡ true) (map (λ m. m * 3 + i) xs)
within_map i [] small all = tt
within_map i (x ∷ xs) small all =
    let least : x ≤ 7 = All-head (λ n. n ≤ 7) x xs all in
    (in_range 0 places_of_trx (x * 3 + i) (omega arith) (omega (arith, least, small)), within_map i xs small (All-tail (λ n. n ≤ 7) x xs all))

pub numbers_within : (t : TrxView) → All (IsAllowed key.Tch) t.tch → All (IsHalf t.tch) t.half → AllByRecursion (λ n. is_in (range_with_len 0 places_of_trx) n ≡ true) (numbers_of t)
numbers_within t slots halves =
    let P : ℕ → Type 0 = λ n. is_in (range_with_len 0 places_of_trx) n ≡ true in
    let small : All (λ n. n ≤ 7) t.half = λ i x within. (halves i x within).range.1 in
    all_append P (map (λ m. m * 3 + 0) t.tch) (map (λ m. m * 3 + 1) t.half ++ map (λ m. m * 3 + 2) t.half) (within_map 0 t.tch (omega arith) (λ i x within. (slots i x within).1))
    (all_append P (map (λ m. m * 3 + 1) t.half) (map (λ m. m * 3 + 2) t.half) (within_map 1 t.half (omega arith) small) (within_map 2 t.half (omega arith) small))
