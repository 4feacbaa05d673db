-- What a listener was told that compares it with a script, part by part.
use Rattle.std.proofs.Common.{◌≡◌, ◌↔◌, ◌⊎◌, ℕ, Bool, true, false, List, [], ◌∷◌, length, refl, sym, ◌∙◌, ap, subst, Bor, suc, rules, Option, None, Result, Ok, Err, OnOk}
use Rattle.tested_scripts.specs.Lines.{texts_of}
use Rattle.lab_script.specs.Script.{lines_of}
use Rattle.tested_scripts.specs.declared.heard.Came.{Came}
use Rattle.tested_scripts.specs.Heard.{Hears, HasHeard, IsTold}
use Rattle.tested_scripts.specs.declared.compare.Difference.{Difference}
use Rattle.tested_scripts.specs.Meeting.{Said, AreMet}
use Rattle.tested_scripts.specs.Tests.{came_in, part_at, next_place, AreKept, IsPartMet, IsLastMet, AllMet, Heard, WasMet, IsMet, IsMissed}

-- It keeps the lines of a script, a place among them, and whether all was met so far. Told what came, it goes on to the next
-- part, and all is met just where it was before and the part is; told what came last it answers whether all is.
pub record Compares {L : Type 0} (hears : L → Came → L → Type 0) (hears_end : L → Came → Came → Bool → Type 0) (lines : L → List (Bor (List ℕ))) (place : L → ℕ) (met : L → Bool) : Type 0 where
  pub hear : (t : L) (came : Came) (u : L) → hears t came u → (holds : Bool) × ((lines u ≡ lines t) × (place u ≡ next_place (texts_of (lines t)) (place t)) × ((met u ≡ true) ↔ ((met t ≡ true) × IsPartMet (part_at (texts_of (lines t)) (place t)) came holds)))
  pub hear_end : (t : L) (came ended : Came) (well : Bool) → hears_end t came ended well → (holds : Bool) × ((well ≡ true) ↔ ((met t ≡ true) × IsLastMet (part_at (texts_of (lines t)) (place t)) came ended holds))

-- what it was told, and whether the books held what was expected
record Answered (all : List (List ℕ)) (place : ℕ) (met : Bool) (count : ℕ) (came ended : Came) (well : Bool) : Type 0 where
  parts : List (Came × Bool)
  each : length parts ≡ count
  held : Bool
  is : (well ≡ true) ↔ ((met ≡ true) × AllMet all place parts came ended held)

answered : {L : Type 0} (hears : L → Came → L → Type 0) (hears_end : L → Came → Came → Bool → Type 0) (lines : L → List (Bor (List ℕ))) (place : L → ℕ) (met : L → Bool)
    → Compares hears hears_end lines place met → (all : List (List ℕ)) (l : L) (told : List Came) (m : L) (came ended : Came) (well : Bool)
    → texts_of (lines l) ≡ all → Hears hears l told m → hears_end m came ended well → Answered all (place l) (met l) (length told) came ended well
answered hears hears_end lines place met compares all l [] m came ended well same heard end =
    let last = compares.hear_end l came ended well (subst (λ k. hears_end k came ended well) heard end) in
    record {
      parts = [];
      each = refl;
      held = last.0;
      is = subst (λ ls. (well ≡ true) ↔ ((met l ≡ true) × IsLastMet (part_at ls (place l)) came ended last.0)) same last.1;
    }
answered hears hears_end lines place met compares all l (one ∷ told) m came ended well same heard end =
    let next = heard.0 in
    let first = compares.hear l one next heard.1.0 in
    let rest = answered hears hears_end lines place met compares all next told m came ended well (ap texts_of first.1.0 ∙ same) heard.1.1 end in
    let there : place next ≡ next_place all (place l) = subst (λ ls. place next ≡ next_place ls (place l)) same first.1.1 in
    let part = subst (λ ls. (met next ≡ true) ↔ ((met l ≡ true) × IsPartMet (part_at ls (place l)) one first.0)) same first.1.2 in
    let more = subst (λ p. (well ≡ true) ↔ ((met next ≡ true) × AllMet all p rest.parts came ended rest.held)) there rest.is in
    record {
      parts = (one, first.0) ∷ rest.parts;
      each = ap suc rest.each;
      held = rest.held;
      is = (
        λ was_well. let after = more.0 was_well in let before = part.0 after.0 in (before.0, (before.1, after.1)),
        λ h. more.1 (part.1 (h.0, h.1.0), h.1.1),
      );
    }

whole : {L : Type 0} (hears : L → Came → L → Type 0) (hears_end : L → Came → Came → Bool → Type 0) (lines : L → List (Bor (List ℕ))) (place : L → ℕ) (met : L → Bool)
    → Compares hears hears_end lines place met → (script : List ℕ) (l : L) (count : ℕ) (well : Bool) → IsTold hears hears_end l count well
    → texts_of (lines l) ≡ lines_of script → place l ≡ 0 → met l ≡ true → (h : Heard script count) × ((well ≡ true) ↔ WasMet script count h)
whole {L} hears hears_end lines place met compares script l count well told same start so_far =
    let found = answered hears hears_end lines place met compares (lines_of script) l told.before.all told.last told.came told.ended well same told.before.heard told.end in
    let from_start = subst (λ p. (well ≡ true) ↔ ((met l ≡ true) × AllMet (lines_of script) p found.parts told.came told.ended found.held)) start found.is in (
      record { parts = found.parts; each = found.each ∙ told.before.each; came = told.came; ended = told.ended; held = found.held },
      (λ was_well. (from_start.0 was_well).1, λ h. from_start.1 (so_far, h)),
    )

-- all was met where it was well
pub told_met : {L : Type 0} {hears : L → Came → L → Type 0} {hears_end : L → Came → Came → Bool → Type 0} {l : L} {count : ℕ} {well : Bool}
    → IsTold hears hears_end l count well → well ≡ true → (lines : L → List (Bor (List ℕ))) (place : L → ℕ) (met : L → Bool) → Compares hears hears_end lines place met
    → (script : List ℕ) → texts_of (lines l) ≡ lines_of script → place l ≡ 0 → met l ≡ true → IsMet script count
told_met {L} {hears} {hears_end} {l} {count} {well} told was_well lines place met compares script same start so_far =
    let found = whole hears hears_end lines place met compares script l count well told same start so_far in
    (found.0, found.1.0 was_well)

-- and where it wasn't, something wasn't
pub told_missed : {L : Type 0} {hears : L → Came → L → Type 0} {hears_end : L → Came → Came → Bool → Type 0} {l : L} {count : ℕ} {well : Bool}
    → IsTold hears hears_end l count well → well ≡ false → (lines : L → List (Bor (List ℕ))) (place : L → ℕ) (met : L → Bool) → Compares hears hears_end lines place met
    → (script : List ℕ) → texts_of (lines l) ≡ lines_of script → place l ≡ 0 → met l ≡ true → IsMissed script count
told_missed {L} {hears} {hears_end} {l} {count} {well} told no_well lines place met compares script same start so_far =
    let found = whole hears hears_end lines place met compares script l count well told same start so_far in
    (found.0, λ was. let bad : false ≡ true = sym no_well ∙ found.1.1 was in absurd (search (rules, bad)))

-- Of a part three things are looked at, one after another: all is met then just where it was before and each is.
pub part_met : {T E : Type 0} (r : Result T E) (part : List (List ℕ)) (came : Came) (one two : List Said) (d : Option Difference) (holds m0 m1 m2 m3 : Bool)
    → one ≡ came_in came → two ≡ came_in came → ((d ≡ None) ↔ AreMet part one)
    → ((m1 ≡ true) ↔ ((m0 ≡ true) × (d ≡ None))) → ((m2 ≡ true) ↔ ((m1 ≡ true) × AreKept part two)) → OnOk r ((m3 ≡ true) ↔ ((m2 ≡ true) × (holds ≡ true)))
    → OnOk r ((h : Bool) × ((m3 ≡ true) ↔ ((m0 ≡ true) × IsPartMet part came h)))
part_met (Ok x) part came one two d holds m0 m1 m2 m3 is_one is_two met first second third = (
  holds,
  (
    λ was_well.
        let c = third.0 was_well in
        let b = second.0 c.0 in
        let a = first.0 b.0 in (
          a.0,
          (subst (λ (s : List Said). AreMet part s) is_one (met.0 a.1), subst (λ (s : List Said). AreKept part s) is_two b.1, c.1),
        ),
    λ h.
        let a : d ≡ None = met.1 (subst (λ (s : List Said). AreMet part s) (sym is_one) h.1.0) in
        let b : AreKept part two = subst (λ (s : List Said). AreKept part s) (sym is_two) h.1.1 in
        third.1 (second.1 (first.1 (h.0, a), b), h.1.2),
  ),
)
part_met (Err x) part came one two d holds m0 m1 m2 m3 is_one is_two met first second third = tt

-- the last part is met, with the trace's end or without it
pub last_met : {T E : Type 0} (r : Result T E) (part : List (List ℕ)) (came ended : Came) (one last two : List Said) (d : Option Difference) (holds m0 m1 m2 m3 : Bool)
    → one ≡ came_in came → last ≡ came_in ended → two ≡ came_in ended → ((d ≡ None) ↔ (AreMet part one ⊎ AreMet part last))
    → ((m1 ≡ true) ↔ ((m0 ≡ true) × (d ≡ None))) → ((m2 ≡ true) ↔ ((m1 ≡ true) × AreKept part two)) → OnOk r ((m3 ≡ true) ↔ ((m2 ≡ true) × (holds ≡ true)))
    → OnOk r ((h : Bool) × ((m3 ≡ true) ↔ ((m0 ≡ true) × IsLastMet part came ended h)))
last_met (Ok x) part came ended one last two d holds m0 m1 m2 m3 is_one is_last is_two met first second third = (
  holds,
  (
    λ was_well.
        let c = third.0 was_well in
        let b = second.0 c.0 in
        let a = first.0 b.0 in
        let either : AreMet part (came_in came) ⊎ AreMet part last = subst (λ (s : List Said). AreMet part s ⊎ AreMet part last) is_one (met.0 a.1) in (
          a.0,
          (subst (λ (s : List Said). AreMet part (came_in came) ⊎ AreMet part s) is_last either, subst (λ (s : List Said). AreKept part s) is_two b.1, c.1),
        ),
    λ h.
        let either : AreMet part (came_in came) ⊎ AreMet part last = subst (λ (s : List Said). AreMet part (came_in came) ⊎ AreMet part s) (sym is_last) h.1.0 in
        let a : d ≡ None = met.1 (subst (λ (s : List Said). AreMet part s ⊎ AreMet part last) (sym is_one) either) in
        let b : AreKept part two = subst (λ (s : List Said). AreKept part s) (sym is_two) h.1.1 in
        third.1 (second.1 (first.1 (h.0, a), b), h.1.2),
  ),
)
last_met (Err x) part came ended one last two d holds m0 m1 m2 m3 is_one is_last is_two met first second third = tt
