use Rattle.std.proofs.Common.{◌≡◌, ◌+◌, ◌∷◌, ◌++◌, drop, get_or, string_bytes, sym, ◌∙◌, ap, append_assoc}
use Rattle.std.proofs.lemmas.List.{append-nil, drop_more, drop_all}
use Rattle.timeslots.specs.declared.Sub.TheVariants.{Full}
use Rattle.radio_book.specs.declared.event.Event.{Event}
use Rattle.radio_book.specs.declared.event.Event.TheVariants.{Open}
use Rattle.radio_book.specs.Table.{reply_to}
use Rattle.journal_resume.specs.Heads.{event_line, event_lines}
use Rattle.journal_resume.proofs.head.event_lines.Goals as goal

abbrev none : Event
none = Open 0 (record { cell = 0; trx = 0; tn = 0; sub = Full })

pub loop-event-preserved : goal.loop-event-preserved
loop-event-preserved g c =
    let es = c.args.events.now in
    let i = c.loop-event.event-index in
    let e = get_or es i none in
    let b = c.loop-event.book in
    let so_far = string_bytes c.loop-event.lines in
    let rest = drop (i + 1) es in
    let more : drop i es ≡ e ∷ rest = drop_more es i none c.loop-event-test.true in
    ap (λ t. t ++ event_lines c.step.new.self rest) c.in_ok-lines.ensures
    ∙ append_assoc so_far (event_line e c.in_ok-reply.reply) (event_lines c.step.new.self rest)
    ∙ ap (λ r. so_far ++ (event_line e r ++ event_lines c.step.new.self rest)) c.in_ok-reply.ensures.reply
    ∙ ap (λ x. so_far ++ (event_line e (reply_to b e) ++ event_lines x rest)) c.in_ok-reply.ensures.book
    ∙ ap (λ ys. so_far ++ event_lines b ys) (sym more)
    ∙ c.loop-event.invariant

pub returns : goal.returns
returns g c =
    let gone = drop_all c.loop-event.event-index c.args.events.now c.loop-event-test.false in
    sym (append-nil (string_bytes c.loop-event.lines)) ∙ ap (λ ys. string_bytes c.loop-event.lines ++ event_lines c.loop-event.book ys) (sym gone) ∙ c.loop-event.invariant
