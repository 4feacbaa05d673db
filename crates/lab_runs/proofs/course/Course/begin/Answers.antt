use Rattle.std.proofs.Common.{refl}
use Rattle.std.proofs.lemmas.Result.{on_ok_weaker}
use Rattle.lab_script.specs.declared.script.Given.TheVariants.{Attach, Set, HangUp, Ask, MobileOf, Restart}
use Rattle.lab_runs.proofs.CourseFacts.{follows_input, follows_silent, follows_as, stayed}
use Rattle.lab_runs.proofs.course.Course.begin.Goals as goal

pub returns-in-Input-clause-follows : goal.returns-in-Input-clause-follows
returns-in-Input-clause-follows g c =
    on_ok_weaker c.handle.result (follows_input c.args.item c.in-Input.input c.args.self.now c.handle.new.self c.requires.there c.in-Input.is) c.handle.ensures.went

pub returns-in_ok-attach-in-Attach-clause-follows : goal.returns-in_ok-attach-in-Attach-clause-follows
returns-in_ok-attach-in-Attach-clause-follows g c =
    follows_silent c.args.item Attach c.args.self.now c.attach.new.self c.requires.there c.in-Attach.is (λ s. refl) c.in_ok-attach-in-Attach.ensures.went

pub returns-in_ok-set-in-Set-clause-follows : goal.returns-in_ok-set-in-Set-clause-follows
returns-in_ok-set-in-Set-clause-follows g c =
    follows_silent c.args.item (Set c.in-Set.setting) c.args.self.now c.set.new.self c.requires.there c.in-Set.is (λ s. refl) c.in_ok-set-in-Set.ensures.went

pub returns-in_ok-hang_up-in-HangUp-clause-follows : goal.returns-in_ok-hang_up-in-HangUp-clause-follows
returns-in_ok-hang_up-in-HangUp-clause-follows g c =
    follows_silent c.args.item (HangUp c.in-HangUp.call) c.args.self.now c.args.self.now c.requires.there c.in-HangUp.is (λ s. refl) (stayed c.args.self.now)

pub returns-in-Ask-clause-follows : goal.returns-in-Ask-clause-follows
returns-in-Ask-clause-follows g c =
    on_ok_weaker c.ask.result (follows_as c.args.item (Ask c.in-Ask.asked) c.args.self.now c.ask.new.self c.in-Ask.is) c.ask.ensures.follows

pub returns-in-MobileOf-clause-follows : goal.returns-in-MobileOf-clause-follows
returns-in-MobileOf-clause-follows g c =
    on_ok_weaker c.set_mobile.result
    (follows_silent c.args.item (MobileOf c.in-MobileOf.call c.in-MobileOf.habit) c.args.self.now c.set_mobile.new.self c.requires.there c.in-MobileOf.is (λ s. refl)) c.set_mobile.ensures.went

pub returns-in_ok-restart-in-Restart-clause-follows : goal.returns-in_ok-restart-in-Restart-clause-follows
returns-in_ok-restart-in-Restart-clause-follows g c =
    follows_silent c.args.item (Restart c.in-Restart.restart) c.args.self.now c.restart.new.self c.requires.there c.in-Restart.is (λ s. refl) c.in_ok-restart-in-Restart.ensures.went
