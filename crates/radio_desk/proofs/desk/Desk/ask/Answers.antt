use Rattle.std.proofs.Common.{length, [], ◌∷◌, ◌++◌, refl, ap, ◌∙◌, arith}
use Rattle.radio_desk.proofs.Rooms.{in_order_more}
use Rattle.radio_desk.proofs.desk.Desk.ask.Goals as goal

pub invariant_of-self-2 : goal.invariant_of-self-2
invariant_of-self-2 g c =
    in_order_more c.self.inside.opening c.self.inside.book _ c.self.inside.history.items _ c.in-Some-choose.event c.in_ok-reply.reply _
    c.self.invariant.legal c.in_ok-reply.ensures.reply c.in_ok-reply.ensures.book
    (c.enter.ensures.history ∙ ap (λ entries. entries ++ (c.in-Some-choose.event, c.in_ok-reply.reply) ∷ []) c.answer.ensures.items)
    (omega (arith, c.in_ok-reply.ensures.room, c.enter.ensures.len, c.enter.ensures.capacity))

pub returns-clause-judged : goal.returns-clause-judged
returns-clause-judged g c =
    rw (← c.self.view_is) (rw c.enter.ensures.receipt record {
      place = ap length c.answer.ensures.items;
      reply = c.in_ok-reply.ensures.reply;
      opening = refl;
      history = c.enter.ensures.history ∙ ap (λ entries. entries ++ (c.in-Some-choose.event, c.in_ok-reply.reply) ∷ []) c.answer.ensures.items;
      book = c.in_ok-reply.ensures.book;
      room = omega (arith, c.answer.ensures.len, c.answer.ensures.capacity, c.enter.ensures.len, c.enter.ensures.capacity);
      owed = omega (arith, c.in_ok-reply.ensures.room, c.enter.ensures.len, c.enter.ensures.capacity);
    })
