-- One more entry at the end of a history.
use Rattle.std.proofs.Common.{◌≡◌, List, [], ◌∷◌, ◌++◌, ap, ◌∙◌}
use Rattle.radio_book.specs.declared.event.Event.{Event}
use Rattle.radio_book.specs.declared.event.Reply.{Reply}
use Rattle.radio_book.specs.State.{State}
use Rattle.radio_book.specs.Run.{Leads}
use Rattle.radio_book.specs.Table.{step, reply_to}

pub leads_more : (b : State) (steps : List (Event × Reply)) (b' : State) (e : Event) (r : Reply) → Leads b steps b' → r ≡ reply_to b' e → Leads b (steps ++ ((e, r) ∷ [])) (step b' e)
leads_more b [] b' e r leads answered = (answered ∙ ap (λ x. reply_to x e) leads, ap (λ x. step x e) leads)
leads_more b (s ∷ steps) b' e r leads answered = (leads.0, leads_more (step b s.0) steps b' e r leads.1 answered)
