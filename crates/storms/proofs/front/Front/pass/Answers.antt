use Rattle.std.proofs.Common.{◌≡◌, ◌∙◌, ◌≤◌, take, length, subst, OnOk, Result, Ok, Err, arith, rules}
use Rattle.std.proofs.lemmas.List.{take_all}
use Rattle.std.proofs.lemmas.List.Elements.{All-more}
use Rattle.storms.specs.declared.trip.Trip.{Trip}
use Rattle.storms.specs.declared.watch.Phase.TheVariants.{Opening}
use Rattle.storms.specs.Openings.{IsGivenToOpen, AreGivenToOpen, Keeps}
use Rattle.storms.proofs.Openings.{keeps_on, keeps_all}
use Rattle.storms.proofs.front.Front.pass.Goals as goal

-- what holds whatever comes of a call, where it succeeds too
on_any : {T E P : Type 0} (r : Result T E) → P → OnOk r P
on_any (Ok x) p = p
on_any (Err e) p = tt

pub loop-trip-preserved : goal.loop-trip-preserved
loop-trip-preserved g c = record {
  opening = c.in_ok-ask.ensures.opening ∙ c.loop-trip.invariant.opening;
  kept = keeps_on c.args.self.now.office c.loop-trip.self.office c.ask.new.self.office c.loop-trip.invariant.kept c.in_ok-ask.ensures.kept;
  given = λ is. All-more (λ (trip : Trip). IsGivenToOpen c.ask.new.self.office trip.call trip.from) c.args.trips.now c.loop-trip.trip-index _ c.loop-trip-test.true (keeps_all c.loop-trip.self.office c.ask.new.self.office (take c.loop-trip.trip-index c.args.trips.now) c.in_ok-ask.ensures.kept (c.loop-trip.invariant.given is)) (c.in_ok-ask.ensures.given is);
}

pub returns-clause-given : goal.returns-clause-given
returns-clause-given g c = on_any c.settle.result (λ is.
    let past : length c.args.trips.now ≤ c.loop-trip.trip-index = search rules in
    let all : AreGivenToOpen c.loop-trip.self.office c.args.trips.now = subst (λ l. AreGivenToOpen c.loop-trip.self.office l) (take_all c.loop-trip.trip-index c.args.trips.now past) (c.loop-trip.invariant.given is) in
    keeps_all c.loop-trip.self.office c.settle.new.self.office c.args.trips.now c.settle.ensures.kept all)
