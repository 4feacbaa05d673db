use Rattle.std.proofs.Common.{◌+◌, ◌<◌, ◌≤◌, ◌↔◌, ℕ, List, Bor, refl, sym, subst, min, length, arith}
use Rattle.std.specs.List.{Contains}
use Rattle.std.proofs.lemmas.List.{length-map}
use Rattle.tested_scripts.specs.declared.compare.CameLine.{CameLine}
use Rattle.tested_scripts.specs.Meeting.{Said, said_of}
use Rattle.tested_scripts.proofs.MeetingLemmas.{range_more, range_all, range_none}
use Rattle.tested_scripts.proofs.compare.places_from.Goals as goal

pub loop-place-init : goal.loop-place-init
loop-place-init g c =
    let count = length-map {B = Said} c.args.came.now (λ (line : CameLine). (line.text.now, line.words.now)) in
    let start = min c.args.first (length (said_of c.args.came.now) + 1) in
    let first = c.min-place.result in
    let low : start ≤ first = omega (arith, count, c.min-place.ensures) in
    let high : first ≤ start = omega (arith, count, c.min-place.ensures) in
    record {
      low = low;
      all = subst (λ (xs : List ℕ). (p : ℕ) → Contains xs p ↔ ((start ≤ p) × (p < first))) (sym c.new-found.ensures.items) (range_none start first high);
    }

pub loop-place-preserved : goal.loop-place-preserved
loop-place-preserved g c =
    let start = min c.args.first (length (said_of c.args.came.now) + 1) in
    let place = c.loop-place.place in
    record {
      low = omega (arith, c.loop-place.invariant.low);
      all = subst (λ (xs : List ℕ). (p : ℕ) → Contains xs p ↔ ((start ≤ p) × (p < place + 1))) (sym c.in_ok-push.ensures.items) (range_more c.loop-place.found.items start place c.loop-place.invariant.low c.loop-place.invariant.all);
    }

pub returns : goal.returns
returns g c =
    let count = length-map {B = Said} c.args.came.now (λ (line : CameLine). (line.text.now, line.words.now)) in
    let total = length (said_of c.args.came.now) in
    let start = min c.args.first (total + 1) in
    let place = c.loop-place.place in
    let low : total + 1 ≤ place = omega (arith, count) in
    let high : place ≤ total + 1 = omega (arith, count, c.min-place.ensures) in
    range_all c.loop-place.found.items c.args.first start place total refl low high c.loop-place.invariant.all
