-- All records of some octets: one more.
use Rattle.std.proofs.Common.{◌≡◌, ◌≢◌, ◌+◌, ◌-◌, ◌<◌, ◌≤◌, ℕ, Bool, true, false, IsTrue, List, [], ◌∷◌, ◌++◌, length, length-append, append_assoc, take, if◌then◌else◌, IsUtf8, inl, Option, None, Some, Bor, ◌↔◌, refl, sym, subst, ◌∙◌, ap, arith}
use Rattle.std.specs.List.{flat_map}
use Rattle.std.specs.Io.KnownBytes.{Appends}
use Rattle.std.proofs.KnownBytes.{Appends-trans}
use Rattle.std.proofs.lemmas.List.{append-nil, map-append, take_at}
use Rattle.std.specs.Str.{is_utf8}
use Rattle.std.proofs.lemmas.Str.{IsUtf8-from_is_utf8, is_utf8-from_IsUtf8}
use Rattle.std.proofs.lemmas.List.Concat.{flat_map-append}
use Rattle.journal_records.specs.Checksum.{checksum}
use Rattle.journal_records.specs.Records.{head_text, record_text, BeginsWith}
use Rattle.journal_records.specs.Files.{first_line}
use Rattle.journal_records.proofs.Heads.{head_length_is}
use Rattle.journal_resume.specs.Resume.{Numbered, AreNumbered}
use Rattle.journal_resume.specs.declared.wholes.WholeFault.TheVariants as fault
use Rattle.journal_resume.specs.Ends.{IsEnd}
use Rattle.journal_resume.specs.Wholes.{AreInFront, AreAll, IsWhole, IsWholeReason, IsLast, IsNext, told_at, told_lines, told_of, told_unheard, told_behind}
use Rattle.trace_entries.proofs.ReplyLemmas.{now_of}
use Rattle.journal_resume.proofs.Steps.{numbered_more}

pub behind_is_shorter : (octets : List ℕ) (n : ℕ) (body behind : List ℕ) → BeginsWith octets n body behind → length behind < length octets
behind_is_shorter octets n body behind begins =
    omega (
      arith,
      ap length begins.text,
      length-append (record_text n body) behind,
      length-append (head_text n (length body) (checksum body)) body,
      head_length_is n (length body) (checksum body),
    )

pub in_front_more : (rs : List Numbered) (octets left : List ℕ) (n : ℕ) (body behind : List ℕ) → AreInFront rs octets left → BeginsWith left n body behind →
    AreInFront (rs ++ (n, body) ∷ []) octets behind
in_front_more [] octets left n body behind is begins = (behind, subst (λ o. BeginsWith o n body behind) (sym is) begins, refl)
in_front_more (r ∷ rs) octets left n body behind (next, here, rest) begins = (next, here, in_front_more rs next left n body behind rest begins)

pub left_is_short : (rs : List Numbered) (octets left : List ℕ) → AreInFront rs octets left → length left ≤ length octets
left_is_short [] octets left is = omega (arith, ap length is)
left_is_short (r ∷ rs) octets left (next, here, rest) = omega (arith, behind_is_shorter octets r.0 r.1 next here, left_is_short rs next left rest)

-- what is left stands at the end
front_of : (rs : List Numbered) (octets left : List ℕ) → AreInFront rs octets left → (front : List ℕ) × (octets ≡ front ++ left)
front_of [] octets left is = ([], is)
front_of (r ∷ rs) octets left (next, here, rest) =
    let more = front_of rs next left rest in
    (record_text r.0 r.1 ++ more.0, here.text ∙ ap (λ t. record_text r.0 r.1 ++ t) more.1 ∙ sym (append_assoc (record_text r.0 r.1) more.0 left))

-- octets whose end is cut off
cut_off : (octets front left : List ℕ) → octets ≡ front ++ left → octets ≡ take (length octets - length left) octets ++ left
cut_off octets front left is =
    let size : length front ≡ length octets - length left = omega (arith, ap length is, length-append front left) in
    let same : take (length octets - length left) octets ≡ front = ap (take (length octets - length left)) is ∙ take_at front left (length octets - length left) size in
    is ∙ ap (λ f. f ++ left) (sym same)

-- behind the first line

pub left_within : (rs : List Numbered) (octets behind left : List ℕ) → octets ≡ first_line ++ behind → AreAll rs behind left → length left ≤ length octets
left_within rs octets behind left line all = omega (arith, ap length line, length-append first_line behind, left_is_short rs behind left all.0)

pub whole_front : (rs : List Numbered) (octets behind left whole : List ℕ) → octets ≡ first_line ++ behind → AreAll rs behind left → IsEnd left →
    whole ≡ take (length octets - length left) octets → IsWhole octets whole
whole_front rs octets behind left whole line all end is =
    let front = front_of rs behind left all.0 in
    let cut : octets ≡ (first_line ++ front.0) ++ left = line ∙ ap (λ t. first_line ++ t) front.1 ∙ sym (append_assoc first_line front.0 left) in
    record {
      records = rs;
      behind = behind;
      left = left;
      line = line;
      all = all;
      end = end;
      whole_is = cut_off octets (first_line ++ front.0) left cut ∙ ap (λ f. f ++ left) (sym is);
    }

pub whole_reason : (rs : List Numbered) (octets behind left : List ℕ) (place : ℕ) → octets ≡ first_line ++ behind → AreAll rs behind left → (IsEnd left → ⊥) →
    place ≡ length octets - length left → IsWholeReason (fault.Damaged place) octets
whole_reason rs octets behind left place line all other is =
    let within = left_within rs octets behind left line all in
    let size : place + length left ≡ length octets = omega (arith, is, within) in
    (rs, behind, left, line, all, size, other)

-- what is told once more of a body that is a text, and of one that isn't

pub text_told : (number : ℕ) (body : List ℕ) → IsUtf8 body → told_of number body ≡ told_lines number body
text_told number body is = ap (λ b. if b then told_lines number body else []) (is_utf8-from_IsUtf8 body is)

not_true : (b : Bool) → (b ≡ true → ⊥) → b ≡ false
not_true true never = absurd (never refl)
not_true false never = refl

pub nothing_told : (number : ℕ) (body : List ℕ) → (IsUtf8 body → ⊥) → told_of number body ≡ []
nothing_told number body never =
    ap (λ b. if b then told_lines number body else []) (not_true (is_utf8 body) (λ is. never (IsUtf8-from_is_utf8 body is)))

-- what is told of some records, and of one more
pub told_more : (heard : ℕ) (rs : List Numbered) (n : ℕ) (body : List ℕ) → told_behind heard (rs ++ (n, body) ∷ []) ≡ told_behind heard rs ++ told_unheard heard n body
told_more heard rs n body =
    flat_map-append (λ (r : Numbered). told_unheard heard r.0 r.1) rs ((n, body) ∷ []) ∙ ap (λ t. told_behind heard rs ++ t) (append-nil (told_unheard heard n body))

-- These records were told so far.
pub record ToldSoFar (heard : ℕ) (octets left : List ℕ) (old new : Option (List ℕ)) : Type 0 where
  pub records : List Numbered
  pub front : AreInFront records octets left
  pub told : Appends old new (told_behind heard records)

pub none_told : (heard : ℕ) (octets : List ℕ) (out : Option (List ℕ)) → Appends out out [] → ToldSoFar heard octets octets out out
none_told heard octets out none = record { records = []; front = refl; told = none }

pub one_told : (heard : ℕ) (octets left : List ℕ) (old out new : Option (List ℕ)) (n : ℕ) (body behind : List ℕ) → ToldSoFar heard octets left old out →
    BeginsWith left n body behind → Appends out new (told_unheard heard n body) → ToldSoFar heard octets behind old new
one_told heard octets left old out new n body behind so_far begins more = record {
  records = so_far.records ++ (n, body) ∷ [];
  front = in_front_more so_far.records octets left n body behind so_far.front begins;
  told = subst (λ t. Appends old new t) (sym (told_more heard so_far.records n body))
      (Appends-trans old out new (told_behind heard so_far.records) (told_unheard heard n body) so_far.told more);
}

-- the lines of a trace so far, of which each was told that is to be, and one line more
pub line_told : (number : ℕ) (lines : List (Bor (List ℕ))) (line : Bor (List ℕ)) (old out new : Option (List ℕ)) →
    Appends old out (flat_map (told_at number) (now_of lines)) → Appends out new (told_at number line.now) → Appends old new (flat_map (told_at number) (now_of (lines ++ line ∷ [])))
line_told number lines line old out new so_far more =
    let all : flat_map (told_at number) (now_of (lines ++ line ∷ [])) ≡ flat_map (told_at number) (now_of lines) ++ told_at number line.now
    = ap (flat_map (told_at number)) (map-append (λ (x : Bor (List ℕ)). x.now) lines (line ∷ []))
    ∙ flat_map-append (told_at number) (now_of lines) (line.now ∷ []) ∙ ap (λ t. flat_map (told_at number) (now_of lines) ++ t) (append-nil (told_at number line.now)) in
    subst (λ t. Appends old new t) (sym all) (Appends-trans old out new (flat_map (told_at number) (now_of lines)) (told_at number line.now) so_far more)

-- the number of the last of some records that are numbered
abbrev pub IsLastOf : ℕ → List Numbered → Option ℕ → Type 0
IsLastOf first rs None = rs ≡ []
IsLastOf first rs (Some last) = (rs ≢ []) × (last + 1 ≡ first + length rs)

-- These records were counted so far.
pub record CountedSoFar (first : ℕ) (octets left : List ℕ) (last : Option ℕ) (are_numbered : Bool) : Type 0 where
  pub records : List Numbered
  pub front : AreInFront records octets left
  pub last_is : IsTrue are_numbered → IsLastOf first records last
  pub are : IsTrue are_numbered → AreNumbered first records
  pub others : (IsTrue are_numbered → ⊥) → AreNumbered first records → ⊥

pub none_counted : (first : ℕ) (octets : List ℕ) → CountedSoFar first octets octets None true
none_counted first octets = record { records = []; front = refl; last_is = λ _. refl; are = λ _. tt; others = λ never _. never refl }

split_numbered : (first : ℕ) (rs : List Numbered) (n : ℕ) (body : List ℕ) → AreNumbered first (rs ++ (n, body) ∷ []) → AreNumbered first rs × (n ≡ first + length rs)
split_numbered first [] n body (here, _) = (tt, omega (arith, here))
split_numbered first (r ∷ rs) n body (here, rest) = let both = split_numbered (first + 1) rs n body rest in ((here, both.0), omega (arith, both.1))

-- the number that comes next, behind numbered records
next_is : (first : ℕ) (rs : List Numbered) (last : Option ℕ) (n : ℕ) → IsLastOf first rs last → IsNext first last n ↔ (n ≡ first + length rs)
next_is first rs None n none = let e : length rs ≡ 0 = ap length none in (λ is. omega (arith, is, e), λ is. omega (arith, is, e))
next_is first rs (Some m) n (some, last) = (λ is. omega (arith, is, last), λ is. omega (arith, is, last))

some_behind : (rs : List Numbered) (r : Numbered) → rs ++ r ∷ [] ≢ []
some_behind [] r is = cc
some_behind (x ∷ rs) r is = cc

pub one_counted : (first : ℕ) (octets left : List ℕ) (last : Option ℕ) (were are : Bool) (n : ℕ) (body behind : List ℕ) → CountedSoFar first octets left last were →
    BeginsWith left n body behind → IsTrue are ↔ (IsTrue were × IsNext first last n) → CountedSoFar first octets behind (Some n) are
one_counted first octets left last were are n body behind so_far begins iff =
    let rs = so_far.records in
    record {
      records = rs ++ (n, body) ∷ [];
      front = in_front_more rs octets left n body behind so_far.front begins;
      last_is = λ yes.
          let both = iff.0 yes in
          let place : n ≡ first + length rs = (next_is first rs last n (so_far.last_is both.0)).0 both.1 in
          (some_behind rs (n, body), omega (arith, place, length-append rs ((n, body) ∷ [])));
      are = λ yes. let both = iff.0 yes in numbered_more first rs n body (so_far.are both.0) ((next_is first rs last n (so_far.last_is both.0)).0 both.1);
      others = λ no all.
          let parts = split_numbered first rs n body all in
          so_far.others (λ were_so. no (iff.1 (were_so, (next_is first rs last n (so_far.last_is were_so)).1 parts.1))) parts.0;
    }

pub last_counted : (first : ℕ) (octets left : List ℕ) (last : Option ℕ) (are : Bool) (so_far : CountedSoFar first octets left last are) → IsTrue are → IsLast first so_far.records last
last_counted first octets left None are so_far numbered = inl (so_far.last_is numbered)
last_counted first octets left (Some m) are so_far numbered = let is = so_far.last_is numbered in (is.0, so_far.are numbered, is.1)
