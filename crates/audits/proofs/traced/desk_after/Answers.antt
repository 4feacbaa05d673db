use Rattle.std.proofs.Common.{◌++◌, ◌∷◌, [], ap, get_or, sym, ◌∙◌}
use Rattle.std.proofs.lemmas.List.{take_more}
use Rattle.timeslots.specs.declared.Sub.TheVariants.{Full}
use Rattle.radio_book.specs.declared.event.Event.TheVariants.{Open}
use Rattle.audits.proofs.traced.desk_after.Goals as goal

pub loop-event-preserved : goal.loop-event-preserved
loop-event-preserved g c =
    let es = c.args.events.now in
    let i = c.loop-event.event-index in
    let e = get_or es i (Open 0 (record { cell = 0; trx = 0; tn = 0; sub = Full })) in
    record {
      opening = c.in_ok-judge.ensures.opening ∙ c.loop-event.invariant.opening;
      asked = c.in_ok-judge.ensures.events
          ∙ ap (λ front. front ++ e ∷ []) c.loop-event.invariant.asked
          ∙ sym (take_more es i (Open 0 (record { cell = 0; trx = 0; tn = 0; sub = Full })) c.loop-event-test.true);
    }
