use Rattle.std.proofs.Common.{◌∙◌, ap, Some, None, inl, inr}
use Rattle.radio_tables.specs.declared.kinds.CallRecord.{CallRecord}
use Rattle.radio_book.specs.Journal.{back_one_stage}
use Rattle.radio_book.specs.PutBack.{put_back}
use Rattle.radio_book.proofs.PutBack.{record_put_back, timer_put_back, disarm_put_back, forget_put_back, drop_put_back}
use Rattle.radio_book.proofs.records.Records.run_inverse.Goals as goal

pub returns-in-DropReference-clause-run : goal.returns-in-DropReference-clause-run
returns-in-DropReference-clause-run g c d =
    rw c.in-DropReference.is
    (ap (λ k. put_back d k c.run_drop_reference.new.self) c.run_drop_reference.ensures.kept
    ∙ ap (put_back d c.args.kept) c.run_drop_reference.ensures.dropped
    ∙ drop_put_back d c.args.self.now c.in-DropReference.number c.args.kept)

pub returns-in-Settle-clause-run : goal.returns-in-Settle-clause-run
returns-in-Settle-clause-run g c d =
    rw c.in-Settle.is
    (ap (λ k. put_back d k c.args.self.now) c.settled.ensures
    ∙ record_put_back d c.args.self.now (λ (r : CallRecord). record r { attempt = None }) c.args.kept)

pub returns-in-Forget-clause-run : goal.returns-in-Forget-clause-run
returns-in-Forget-clause-run g c d = rw c.in-Forget.is (forget_put_back d c.args.self.now c.args.kept)

pub returns-in-Uncommand-clause-run : goal.returns-in-Uncommand-clause-run
returns-in-Uncommand-clause-run g c d =
    let kept = ap (λ k. put_back d k c.args.self.now) c.gone_back.ensures ∙ record_put_back d c.args.self.now back_one_stage c.args.kept in
    elim c.in-Uncommand.is [
      | inl is ↦ rw is kept
      | inr is ↦ rw is kept
    ]

pub returns-in-Disarm-clause-run : goal.returns-in-Disarm-clause-run
returns-in-Disarm-clause-run g c d =
    rw c.in-Disarm.is
    (ap (λ k. put_back d k c.args.self.now) c.disarmed.ensures ∙ disarm_put_back d c.args.self.now c.in-Disarm.timer c.args.kept)

pub returns-in-Rearm-clause-run : goal.returns-in-Rearm-clause-run
returns-in-Rearm-clause-run g c d =
    rw c.in-Rearm.is
    (ap (λ k. put_back d k c.args.self.now) c.rearmed.ensures ∙ timer_put_back d c.args.self.now (Some c.in-Rearm.timer) c.args.kept)
