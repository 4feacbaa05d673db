use Rattle.std.proofs.Common.{sym, ◌∙◌, ap, length, [], ◌∷◌, subst}
use Rattle.std.proofs.lemmas.Iterator.Adapters.{YieldsList-from_vec}
use Rattle.std.proofs.lemmas.Iterator.Consumers.{YieldsList-turn, YieldsList-end}
use Rattle.std.proofs.lemmas.List.{map-id}
use Rattle.lab_script.specs.Script.{is_item_there}
use Rattle.lab_runs.specs.Course.{Follows, has_peer}
use Rattle.lab_runs.proofs.CourseFacts.{follows_on, follows_then, follows_none, where_ok, there_at}
use Rattle.lab_runs.proofs.course.Course.run.Goals as goal

pub loop-item-init : goal.loop-item-init
loop-item-init g c = record { can_next = tt; is_finite = tt; followed = follows_none c.args.self.now }

pub loop-item-preserved : goal.loop-item-preserved
loop-item-preserved g c = record {
  can_next = tt;
  is_finite = tt;
  followed = follows_on _ _ _ _ _ c.loop-item.invariant.followed (follows_then _ _ _ _ c.in_ok-begin.ensures.follows c.in_ok-settle.ensures.went);
}

pub begin-requires : goal.begin-requires
begin-requires g c =
    let given = c.into_iter-item-iterator.ensures.into_iter_gives in
    let turn = YieldsList-turn (YieldsList-from_vec {s = c.into_iter-item-iterator.result} c.args.items.items given.0 (given.1 ∙ c.args.items.ok.0)) c.loop-item.yielded _ c.loop-item.yielded_by c.next.result c.next.new.self c.in-Some.item c.in-Some.is c.next.ensures.steps in
    let has = has_peer c.args.self.now in
    let there = there_at has c.args.items.items (length c.loop-item.yielded) c.in-Some.item c.requires.there turn.0 in
    record { there = ap (λ h. is_item_there h c.in-Some.item) c.loop-item.invariant.followed.peer ∙ (ap (is_item_there has) turn.1 ∙ there) }

pub returns : goal.returns
returns g c =
    let given = c.into_iter-item-iterator.ensures.into_iter_gives in
    let all = YieldsList-end (YieldsList-from_vec {s = c.into_iter-item-iterator.result} c.args.items.items given.0 (given.1 ∙ c.args.items.ok.0)) c.loop-item.yielded _ c.loop-item.yielded_by c.next.result c.next.new.self c.in-None.is c.next.ensures.steps in
    where_ok _ c.tell_ends.result (subst (λ items. Follows items c.args.self.now c.loop-item.self) (sym (map-id c.loop-item.yielded) ∙ all.0) c.loop-item.invariant.followed)
