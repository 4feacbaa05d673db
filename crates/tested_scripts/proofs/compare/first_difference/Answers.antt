use Rattle.std.proofs.Common.{◌≡◌, ◌<◌, ◌≤◌, ℕ, List, Bor, [], refl, sym, subst, ◌∙◌, take, length, get_or, arith, rules}
use Rattle.std.specs.List.{Contains}
use Rattle.std.proofs.lemmas.List.{length-map}
use Rattle.tested_scripts.specs.Lines.{texts_of, expected_in}
use Rattle.tested_scripts.specs.declared.compare.CameLine.{CameLine}
use Rattle.tested_scripts.specs.Meeting.{Said, Reaches, AreNext, said_of, first_place}
use Rattle.tested_scripts.proofs.MeetingLemmas.{next_led, lost, lost_all, led_all, none_further}
use Rattle.tested_scripts.proofs.compare.first_difference.Goals as goal

pub returns-in-None-clause-met : goal.returns-in-None-clause-met
returns-in-None-clause-met g c =
    let came = said_of c.args.came.now in
    let lines = texts_of c.args.lines.now in
    let start = first_place lines came in
    let next = c.in_ok-next.next.items in
    let are_next = subst (λ (ps : List ℕ). AreNext came (expected_in c.line_at.result.now) ps next) c.deref.ensures.value c.in_ok-next.ensures in
    let none : next ≡ [] = sym c.deref-in-loop-line.ensures.value ∙ c.greatest.ensures.none c.in-None.is in
    let not_met = lost came lines start c.loop-line.line c.line_at.result.now c.loop-line.places.items next c.line_at.ensures c.loop-line.invariant.led are_next none in
    (λ e. absurd (search (rules, e)), λ r. absurd (lost_all came lines start c.loop-line.line not_met (length came) r))

pub returns-in-None-clause-first : goal.returns-in-None-clause-first
returns-in-None-clause-first g c =
    let came = said_of c.args.came.now in
    let lines = texts_of c.args.lines.now in
    let start = first_place lines came in
    let next = c.in_ok-next.next.items in
    let are_next = subst (λ (ps : List ℕ). AreNext came (expected_in c.line_at.result.now) ps next) c.deref.ensures.value c.in_ok-next.ensures in
    let none : next ≡ [] = sym c.deref-in-loop-line.ensures.value ∙ c.greatest.ensures.none c.in-None.is in
    record {
      within = omega (arith, length-map c.args.lines.now (λ (x : Bor (List ℕ)). x.now));
      met = (c.loop-line.invariant.led c.loop-line.furthest).0 c.loop-line.invariant.one;
      furthest = none_further came lines start c.loop-line.line c.loop-line.places.items c.loop-line.furthest c.loop-line.invariant.led c.loop-line.invariant.all;
      not_met = λ _. lost came lines start c.loop-line.line c.line_at.result.now c.loop-line.places.items next c.line_at.ensures c.loop-line.invariant.led are_next none;
    }

pub loop-line-preserved : goal.loop-line-preserved
loop-line-preserved g c =
    let came = said_of c.args.came.now in
    let lines = texts_of c.args.lines.now in
    let start = first_place lines came in
    let next = c.in_ok-next.next.items in
    let are_next = subst (λ (ps : List ℕ). AreNext came (expected_in c.line_at.result.now) ps next) c.deref.ensures.value c.in_ok-next.ensures in
    record {
      led = next_led came lines start c.loop-line.line c.line_at.result.now c.loop-line.places.items next c.line_at.ensures c.loop-line.invariant.led are_next;
      one = subst (λ (ps : List ℕ). Contains ps c.in-Some.place) c.deref-in-loop-line.ensures.value c.in-Some.ensures.greatest.0;
      all = subst (λ (ps : List ℕ). (k d : ℕ) → k < length ps → get_or ps k d ≤ c.in-Some.place) c.deref-in-loop-line.ensures.value c.in-Some.ensures.greatest.1;
    }

pub returns-then-has_place-clause-met : goal.returns-then-has_place-clause-met
returns-then-has_place-clause-met g c =
    let came = said_of c.args.came.now in
    let lines = texts_of c.args.lines.now in
    let start = first_place lines came in
    let count = length-map {B = Said} c.args.came.now (λ (line : CameLine). (line.text.now, line.words.now)) in
    let whole : length lines ≤ c.loop-line.line = omega (arith, length-map c.args.lines.now (λ (x : Bor (List ℕ)). x.now)) in
    let all = led_all came lines start c.loop-line.line c.loop-line.places.items whole c.loop-line.invariant.led in
    let one = subst (λ (ps : List ℕ). Contains ps (length c.args.came.now)) c.deref-2.ensures.value (c.has_place.ensures.has c.if-has_place.true) in
    (λ _. subst (λ (k : ℕ). Reaches came lines start k) (sym count) ((all (length c.args.came.now)).0 one), λ _. refl)

pub returns-clause-met : goal.returns-clause-met
returns-clause-met g c =
    let came = said_of c.args.came.now in
    let lines = texts_of c.args.lines.now in
    let start = first_place lines came in
    let count = length-map {B = Said} c.args.came.now (λ (line : CameLine). (line.text.now, line.words.now)) in
    let whole : length lines ≤ c.loop-line.line = omega (arith, length-map c.args.lines.now (λ (x : Bor (List ℕ)). x.now)) in
    let all = led_all came lines start c.loop-line.line c.loop-line.places.items whole c.loop-line.invariant.led in (
      λ e. absurd (search (rules, e)),
      λ r.
          let one = (all (length c.args.came.now)).1 (subst (λ (k : ℕ). Reaches came lines start k) count r) in
          absurd (c.has_place.ensures.has_not c.if-has_place.false (subst (λ (ps : List ℕ). Contains ps (length c.args.came.now)) (sym c.deref-2.ensures.value) one)),
    )

pub returns-clause-first : goal.returns-clause-first
returns-clause-first g c =
    let came = said_of c.args.came.now in
    let lines = texts_of c.args.lines.now in
    let start = first_place lines came in
    let count = length-map c.args.lines.now (λ (x : Bor (List ℕ)). x.now) in
    let same : c.loop-line.line ≡ length c.args.lines.now = omega arith in
    record {
      within = omega (arith, count);
      met = subst (λ (k : ℕ). Reaches came (take k lines) start c.loop-line.furthest) same ((c.loop-line.invariant.led c.loop-line.furthest).0 c.loop-line.invariant.one);
      furthest = subst (λ (k : ℕ). (to : ℕ) → Reaches came (take k lines) start to → to ≤ c.loop-line.furthest) same (none_further came lines start c.loop-line.line c.loop-line.places.items c.loop-line.furthest c.loop-line.invariant.led c.loop-line.invariant.all);
      not_met = λ h. absurd (omega (arith, count, h));
    }
