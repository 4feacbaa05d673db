use Rattle.std.proofs.Common.{sym, ◌∙◌, ap, length, [], ◌∷◌, subst}
use Rattle.std.proofs.lemmas.Iterator.Adapters.{YieldsList-from_vec}
use Rattle.std.proofs.lemmas.Iterator.Consumers.{YieldsList-turn, YieldsList-end}
use Rattle.std.proofs.lemmas.List.{map-id}
use Rattle.lab_script.specs.Script.{is_item_there}
use Rattle.lab_runs.specs.Course.{Follows, has_peer}
use Rattle.lab_runs.proofs.CourseFacts.{follows_on, follows_none, there_at}
use Rattle.tested_scripts.specs.Heard.{HasHeard}
use Rattle.tested_scripts.proofs.HeardFacts.{heard_none, heard_more}
use Rattle.tested_scripts.proofs.heard.follow_all.Goals as goal

pub loop-item-init : goal.loop-item-init
loop-item-init g c = record { can_next = tt; is_finite = tt; went = follows_none c.args.course.now; heard = heard_none g.L.PartListener.Hears c.args.listener.now }

pub loop-item-preserved : goal.loop-item-preserved
loop-item-preserved g c = record {
  can_next = tt;
  is_finite = tt;
  went = follows_on _ _ _ _ _ c.loop-item.invariant.went c.in_ok-follow_heard.ensures.went;
  heard = heard_more g.L.PartListener.Hears c.args.listener.now c.loop-item.yielded c.in-Some.item c.loop-item.listener c.follow_heard.new.listener c.loop-item.invariant.heard c.in_ok-follow_heard.ensures.heard;
}

pub follow_heard-requires : goal.follow_heard-requires
follow_heard-requires g c =
    let given = c.into_iter-item-iterator.ensures.into_iter_gives in
    let turn = YieldsList-turn (YieldsList-from_vec {s = c.into_iter-item-iterator.result} c.args.items.items given.0 (given.1 ∙ c.args.items.ok.0)) c.loop-item.yielded _ c.loop-item.yielded_by c.next.result c.next.new.self c.in-Some.item c.in-Some.is c.next.ensures.steps in
    let has = has_peer c.args.course.now in
    let there = there_at has c.args.items.items (length c.loop-item.yielded) c.in-Some.item c.requires.there turn.0 in
    record { there = ap (λ h. is_item_there h c.in-Some.item) c.loop-item.invariant.went.peer ∙ (ap (is_item_there has) turn.1 ∙ there) }

pub returns : goal.returns
returns g c =
    let given = c.into_iter-item-iterator.ensures.into_iter_gives in
    let all = YieldsList-end (YieldsList-from_vec {s = c.into_iter-item-iterator.result} c.args.items.items given.0 (given.1 ∙ c.args.items.ok.0)) c.loop-item.yielded _ c.loop-item.yielded_by c.next.result c.next.new.self c.in-None.is c.next.ensures.steps in
    record {
      went = subst (λ items. Follows items c.args.course.now c.loop-item.course) (sym (map-id c.loop-item.yielded) ∙ all.0) c.loop-item.invariant.went;
      heard = subst (λ count. HasHeard g.L.PartListener.Hears c.args.listener.now count c.loop-item.listener) (ap length (sym (map-id c.loop-item.yielded) ∙ all.0)) c.loop-item.invariant.heard;
    }
