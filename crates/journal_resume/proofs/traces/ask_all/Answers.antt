use Rattle.std.proofs.Common.{◌≡◌, ◌+◌, [], ◌∷◌, ◌++◌, drop, get_or, sym, ◌∙◌, ap, append_assoc}
use Rattle.std.proofs.lemmas.List.{append-nil, drop_more, drop_all}
use Rattle.timeslots.specs.declared.Sub.TheVariants.{Full}
use Rattle.radio_book.specs.declared.event.Event.TheVariants.{Open}
use Rattle.radio_book.specs.Table.{reply_to}
use Rattle.radio_book.specs.Run.{run_book, run_replies}
use Rattle.trace_entries.specs.declared.entries.Entry.{Entry}
use Rattle.trace_entries.specs.Entries.{events_of}
use Rattle.journal_resume.proofs.traces.ask_all.Goals as goal

abbrev none : Entry
none = record { index = 0; event = Open 0 (record { cell = 0; trx = 0; tn = 0; sub = Full }) }

pub loop-entry-preserved : goal.loop-entry-preserved
loop-entry-preserved g c =
    let es = c.args.entries.now in
    let i = c.loop-entry.entry-index in
    let e = get_or es i none in
    let b = c.loop-entry.book in
    let rest = drop (i + 1) es in
    let more : drop i es ≡ e ∷ rest = drop_more es i none c.loop-entry-test.true in
    let stepped = c.in_ok-reply.ensures.book in
    record {
      book = ap (λ b. run_book b (events_of rest)) stepped ∙ ap (λ ys. run_book b (events_of ys)) (sym more) ∙ c.loop-entry.invariant.book;
      replies = ap (λ rs. rs ++ run_replies c.step.new.self (events_of rest)) c.in_ok-push.ensures.items
          ∙ append_assoc c.loop-entry.replies.items (c.in_ok-reply.reply ∷ []) (run_replies c.step.new.self (events_of rest))
          ∙ ap (λ r. c.loop-entry.replies.items ++ (r ∷ run_replies c.step.new.self (events_of rest))) c.in_ok-reply.ensures.reply
          ∙ ap (λ x. c.loop-entry.replies.items ++ (reply_to b e.event ∷ run_replies x (events_of rest))) stepped
          ∙ ap (λ ys. c.loop-entry.replies.items ++ run_replies b (events_of ys)) (sym more)
          ∙ c.loop-entry.invariant.replies;
    }

pub returns : goal.returns
returns g c =
    let gone = drop_all c.loop-entry.entry-index c.args.entries.now c.loop-entry-test.false in
    record {
      book = ap (λ ys. run_book c.loop-entry.book (events_of ys)) (sym gone) ∙ c.loop-entry.invariant.book;
      replies = sym (append-nil c.loop-entry.replies.items) ∙ ap (λ ys. c.loop-entry.replies.items ++ run_replies c.loop-entry.book (events_of ys)) (sym gone) ∙ c.loop-entry.invariant.replies;
    }
