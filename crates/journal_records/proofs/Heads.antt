-- What the fields of a head are read as.
use Rattle.std.proofs.Common.{◌≡◌, ◌+◌, ◌-◌, ◌<◌, ◌≤◌, ◌^◌, inl, inr, ℕ, List, [], ◌∷◌, ◌++◌, length, length-append, take, drop, append_assoc, refl, sym, ◌∙◌, ap, codes, arith}
use Rattle.std.proofs.lemmas.List.{take_at, drop_at}
use Rattle.std.proofs.Math.Nat.{mod-lt}
use Rattle.std.specs.List.{slice_range}
use Rattle.journal_records.specs.Checksum.{checksum}
use Rattle.journal_records.specs.Numerals.{numeral, number_of}
use Rattle.journal_records.specs.Records.{head_front, head_text, HasHead, BeginsWith, IsCut}
use Rattle.journal_records.proofs.ReadBack.{numeral_length, read_back}

-- a part of a list that stands between two others
between : (p q r : List ℕ) (a e : ℕ) → length p ≡ a → a + length q ≡ e → slice_range (p ++ (q ++ r)) a e ≡ q
between p q r a e front whole = rw (drop_at p (q ++ r) a front) (take_at q r (e - a) (omega (arith, whole)))

-- the length of a head
pub head_length_is : (n s m : ℕ) → length (head_text n s m) ≡ 67
unfolding head_text head_front
head_length_is n s m =
    let own = checksum (head_front n s m) in
    simp (length-append, numeral_length 10 20 n, numeral_length 10 20 s, numeral_length 16 8 m, numeral_length 16 8 own) refl

pub record Fields (octets : List ℕ) (n s m : ℕ) (b : List ℕ) : Type 0 where
  pub number : number_of 10 (slice_range octets 7 27) ≡ n
  pub size : number_of 10 (slice_range octets 28 48) ≡ s
  pub sum : number_of 16 (slice_range octets 49 57) ≡ m
  pub head : take 67 octets ≡ head_text n s m
  pub behind : drop 67 octets ≡ b

-- what stands behind the number, the size and the sum of a head
abbrev behind_sum : (n s m : ℕ) (b : List ℕ) → List ℕ
behind_sum n s m b = (32 ∷ []) ++ (numeral 16 8 (checksum (head_front n s m)) ++ ((10 ∷ []) ++ b))

abbrev behind_size : (n s m : ℕ) (b : List ℕ) → List ℕ
behind_size n s m b = (32 ∷ []) ++ (numeral 16 8 m ++ behind_sum n s m b)

abbrev behind_number : (n s m : ℕ) (b : List ℕ) → List ℕ
behind_number n s m b = (32 ∷ []) ++ (numeral 10 20 s ++ behind_size n s m b)

in_one : (w n s m o b : List ℕ) →
    ((w ++ (n ++ 32 ∷ (s ++ 32 ∷ (m ++ 32 ∷ [])))) ++ (o ++ 10 ∷ [])) ++ b ≡ w ++ (n ++ 32 ∷ (s ++ 32 ∷ (m ++ 32 ∷ (o ++ 10 ∷ b))))
in_one w n s m o b = simp append_assoc refl

in_parts : (n s m : ℕ) (b : List ℕ) → head_text n s m ++ b ≡ codes "record " ++ (numeral 10 20 n ++ behind_number n s m b)
unfolding head_text head_front
in_parts n s m b = in_one (codes "record ") (numeral 10 20 n) (numeral 10 20 s) (numeral 16 8 m) (numeral 16 8 (checksum (head_front n s m))) b

-- a part and the blank behind it join what stands in front
regroup : (front part rest : List ℕ) → front ++ (part ++ 32 ∷ rest) ≡ (front ++ (part ++ 32 ∷ [])) ++ rest
regroup front part rest = simp append_assoc refl

longer : (front part : List ℕ) (l k e : ℕ) → length front ≡ l → length part ≡ k → l + k + 1 ≡ e → length (front ++ (part ++ 32 ∷ [])) ≡ e
longer front part l k e one other is = omega (arith, length-append front (part ++ 32 ∷ []), length-append part (32 ∷ []), one, other, is)

pub fields : (octets : List ℕ) (n s m : ℕ) (b : List ℕ) → HasHead octets n s m b → Fields octets n s m b
fields octets n s m b has =
    let word : List ℕ = codes "record " in
    let nl = numeral_length 10 20 n in
    let sl = numeral_length 10 20 s in
    let ml = numeral_length 16 8 m in
    let front : List ℕ = word ++ (numeral 10 20 n ++ 32 ∷ []) in
    let front_is : length front ≡ 28 = longer word (numeral 10 20 n) 7 20 28 refl nl refl in
    let front2 : List ℕ = front ++ (numeral 10 20 s ++ 32 ∷ []) in
    let front2_is : length front2 ≡ 49 = longer front (numeral 10 20 s) 28 20 49 front_is sl refl in
    let parts : octets ≡ word ++ (numeral 10 20 n ++ behind_number n s m b) = has.text ∙ in_parts n s m b in
    let parts2 : octets ≡ front ++ (numeral 10 20 s ++ behind_size n s m b) = parts ∙ regroup word (numeral 10 20 n) (numeral 10 20 s ++ behind_size n s m b) in
    let parts3 : octets ≡ front2 ++ (numeral 16 8 m ++ behind_sum n s m b) = parts2 ∙ regroup front (numeral 10 20 s) (numeral 16 8 m ++ behind_sum n s m b) in
    let at_number = ap (λ xs. slice_range xs 7 27) parts ∙ between word (numeral 10 20 n) (behind_number n s m b) 7 27 refl (ap (λ l. 7 + l) nl) in
    let at_size = ap (λ xs. slice_range xs 28 48) parts2 ∙ between front (numeral 10 20 s) (behind_size n s m b) 28 48 front_is (ap (λ l. 28 + l) sl) in
    let at_sum = ap (λ xs. slice_range xs 49 57) parts3 ∙ between front2 (numeral 16 8 m) (behind_sum n s m b) 49 57 front2_is (ap (λ l. 49 + l) ml) in
    record {
      number = ap (number_of 10) at_number ∙ read_back 10 20 n (omega arith) (omega arith) (omega (arith, has.number_fits)) has.number_fits;
      size = ap (number_of 10) at_size ∙ read_back 10 20 s (omega arith) (omega arith) (omega (arith, has.size_fits)) has.size_fits;
      sum = ap (number_of 16) at_sum ∙ read_back 16 8 m (omega arith) (omega arith) (omega (arith, has.sum_fits)) (omega (arith, has.sum_fits));
      head = ap (take 67) has.text ∙ take_at (head_text n s m) b 67 (head_length_is n s m);
      behind = ap (drop 67) has.text ∙ drop_at (head_text n s m) b 67 (head_length_is n s m);
    }

-- a head is read in one way
pub one_head : (octets : List ℕ) (n s m : ℕ) (b : List ℕ) (n' s' m' : ℕ) (b' : List ℕ) → HasHead octets n s m b → HasHead octets n' s' m' b' →
    (n ≡ n') × (s ≡ s') × (m ≡ m') × (b ≡ b')
one_head octets n s m b n' s' m' b' one other =
    let f = fields octets n s m b one in
    let g = fields octets n' s' m' b' other in
    (sym f.number ∙ g.number, sym f.size ∙ g.size, sym f.sum ∙ g.sum, sym f.behind ∙ g.behind)

checksum_fits : (octets : List ℕ) → checksum octets < 2 ^ 32
unfolding checksum
checksum_fits octets = mod-lt _ (omega arith)

-- a record has a head, behind which its body stands
pub head_of_record : (octets : List ℕ) (n : ℕ) (body behind : List ℕ) → BeginsWith octets n body behind → HasHead octets n (length body) (checksum body) (body ++ behind)
head_of_record octets n body behind begins = record {
  text = begins.text ∙ append_assoc (head_text n (length body) (checksum body)) body behind;
  number_fits = begins.number_fits;
  size_fits = begins.size_fits;
  sum_fits = checksum_fits body;
}

pub record_is_long : (octets : List ℕ) (n : ℕ) (body behind : List ℕ) → BeginsWith octets n body behind → 67 ≤ length octets
record_is_long octets n body behind begins =
    let has = head_of_record octets n body behind begins in
    omega (arith, ap length has.text, length-append (head_text n (length body) (checksum body)) (body ++ behind), head_length_is n (length body) (checksum body))

-- where octets with a whole head are cut, its body is
pub body_is_cut : (octets : List ℕ) (n s m : ℕ) → 67 ≤ length octets → HasHead octets n s m (drop 67 octets) → IsCut octets → length (drop 67 octets) < s
body_is_cut octets n s m long has (inl short) = omega (arith, long, short)
body_is_cut octets n s m long has (inr (n', s', m', b, has', less)) =
    let one = one_head octets n' s' m' b n s m (drop 67 octets) has' has in
    omega (arith, less, one.1, ap length one.3)
