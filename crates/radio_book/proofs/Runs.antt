-- A run in steps is a run of its events.
use Rattle.std.proofs.Common.{◌≡◌, ◌∙◌, ap, refl, List, [], ◌∷◌, map}
use Rattle.radio_book.specs.declared.event.Event.{Event}
use Rattle.radio_book.specs.declared.event.Reply.{Reply}
use Rattle.radio_book.specs.State.{State}
use Rattle.radio_book.specs.Table.{step, reply_to}
use Rattle.radio_book.specs.Run.{run_book, run_replies, Leads, LeadsIsRun}

abbrev events : List (Event × Reply) → List Event
events ss = map (λ s. s.0) ss

abbrev replies : List (Event × Reply) → List Reply
replies ss = map (λ s. s.1) ss

run_of : (b : State) (ss : List (Event × Reply)) (b' : State) → Leads b ss b' → (b' ≡ run_book b (events ss)) × (replies ss ≡ run_replies b (events ss))
run_of b [] b' same = (same, refl)
run_of b (s ∷ ss) b' leads =
    let (book, answered) = run_of (step b s.0) ss b' leads.1 in
    (book, ap (λ reply. reply ∷ replies ss) leads.0 ∙ ap (λ rest. reply_to b s.0 ∷ rest) answered)

led_by : (b : State) (ss : List (Event × Reply)) (b' : State) → b' ≡ run_book b (events ss) → replies ss ≡ run_replies b (events ss) → Leads b ss b'
led_by b [] b' book answered = book
led_by b (s ∷ ss) b' book answered =
    let first : s.1 ≡ reply_to b s.0 = cc in
    let rest : replies ss ≡ run_replies (step b s.0) (events ss) = cc in
    (first, led_by (step b s.0) ss b' book rest)

pub leads_is_run : LeadsIsRun
leads_is_run b ss b' = (run_of b ss b', λ run. led_by b ss b' run.0 run.1)
