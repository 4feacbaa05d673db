use Rattle.std.proofs.Common.{◌≡◌, ◌+◌, [], ◌∷◌, ◌++◌, drop, get_or, sym, ◌∙◌, ap, append_assoc, add-one, drop-cons}
use Rattle.timeslots.specs.declared.Sub.TheVariants.{Full}
use Rattle.radio_book.specs.declared.event.Event.TheVariants.{Open}
use Rattle.radio_book.specs.Table.{reply_to}
use Rattle.radio_book.specs.Run.{run_book, run_replies}
use Rattle.radio_book.proofs.run.run.Goals as goal

pub loop-event-init : goal.loop-event-init
loop-event-init g c = record {
  book = ap (λ b. run_book b c.args.events.now) c.in_ok-after.ensures.copy;
  replies = ap (λ rs. rs ++ run_replies c.in_ok-after.after c.args.events.now) c.new-replies.ensures.items
      ∙ ap (λ b. run_replies b c.args.events.now) c.in_ok-after.ensures.copy;
}

pub loop-event-preserved : goal.loop-event-preserved
loop-event-preserved g c =
    let es = c.args.events.now in
    let i = c.loop-event.event-index in
    let e = get_or es i (Open 0 (record { cell = 0; trx = 0; tn = 0; sub = Full })) in
    let b = c.loop-event.after in
    let rest = drop (i + 1) es in
    let more : drop i es ≡ e ∷ rest = drop-cons es i _ c.loop-event-test.true ∙ ap (λ n. e ∷ drop n es) (sym (add-one i)) in
    let stepped = c.in_ok-reply.ensures.book in
    record {
      book = ap (λ b. run_book b rest) stepped ∙ ap (run_book b) (sym more) ∙ c.loop-event.invariant.book;
      replies = ap (λ rs. rs ++ run_replies c.step.new.self rest) c.in_ok-push.ensures.items
          ∙ append_assoc c.loop-event.replies.items (c.in_ok-reply.reply ∷ []) (run_replies c.step.new.self rest)
          ∙ ap (λ r. c.loop-event.replies.items ++ (r ∷ run_replies c.step.new.self rest)) c.in_ok-reply.ensures.reply
          ∙ ap (λ x. c.loop-event.replies.items ++ (reply_to b e ∷ run_replies x rest)) stepped
          ∙ ap (λ es. c.loop-event.replies.items ++ run_replies b es) (sym more)
          ∙ c.loop-event.invariant.replies;
    }
