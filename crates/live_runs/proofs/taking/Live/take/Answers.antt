use Rattle.std.proofs.Common.{◌∙◌, sym, ap, subst, refl}
use Rattle.lab_script.specs.Script.{is_item_there}
use Rattle.live_runs.specs.Lines.{Says}
use Rattle.live_runs.specs.Live.{has_sim}
use Rattle.live_runs.proofs.LiveFacts.{unreadable_takes, nothing_takes, gives_takes}
use Rattle.live_runs.proofs.taking.Live.take.Goals as goal

pub returns-in-Unreadable-clause-takes : goal.returns-in-Unreadable-clause-takes
returns-in-Unreadable-clause-takes g c =
    let s = c.args.self.now in
    let said = subst (λ b. Says b c.args.line.now c.in_ok-said.said) c.has_simulators.ensures.attached c.in_ok-said.ensures in
    let h = subst (Says (has_sim s) c.args.line.now) c.in-Unreadable.is said in
    unreadable_takes c.args.line.now s s refl (sym h.read) h.sim

pub returns-in-Nothing-clause-takes : goal.returns-in-Nothing-clause-takes
returns-in-Nothing-clause-takes g c =
    let s = c.args.self.now in
    let said = subst (λ b. Says b c.args.line.now c.in_ok-said.said) c.has_simulators.ensures.attached c.in_ok-said.ensures in
    nothing_takes c.args.line.now s (subst (Says (has_sim s) c.args.line.now) c.in-Nothing.is said)

pub follow-requires : goal.follow-requires
follow-requires g c =
    let s = c.args.self.now in
    let said = subst (λ b. Says b c.args.line.now c.in_ok-said.said) c.has_simulators.ensures.attached c.in_ok-said.ensures in
    let h = subst (Says (has_sim s) c.args.line.now) c.in-Gives.is said in
    record { there = ap (λ b. is_item_there b c.in-Gives.item) c.requires.alone ∙ h.there }

pub returns-in_ok-follow-in-Gives-clause-takes : goal.returns-in_ok-follow-in-Gives-clause-takes
returns-in_ok-follow-in-Gives-clause-takes g c =
    let s = c.args.self.now in
    let said = subst (λ b. Says b c.args.line.now c.in_ok-said.said) c.has_simulators.ensures.attached c.in_ok-said.ensures in
    let h = subst (Says (has_sim s) c.args.line.now) c.in-Gives.is said in
    gives_takes c.args.line.now c.in-Gives.item s c.follow.new.self h c.in_ok-follow-in-Gives.ensures.goes c.in_ok-follow-in-Gives.ensures.sim
