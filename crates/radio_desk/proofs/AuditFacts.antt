-- What a walk along a history finds is what its settled attempts say.
use Rattle.std.proofs.Common.{◌≡◌, ◌+◌, ℕ, List, [], ◌∷◌, map, length, None, refl, sym, ◌∙◌, ap}
use Rattle.std.specs.List.{enumerate_from}
use Rattle.radio_book.specs.declared.event.Event.{Event}
use Rattle.radio_book.specs.declared.event.Reply.{Reply}
use Rattle.radio_book.specs.declared.undone.StepAt.{StepAt}
use Rattle.radio_book.specs.State.{State}
use Rattle.radio_book.specs.Table.{step}
use Rattle.radio_book.specs.Sound.{IsSound}
use Rattle.radio_book.specs.Run.{Leads, run_book, run_replies}
use Rattle.radio_book.specs.Undone.{Undone, steps_from, events_of, replies_of}
use Rattle.radio_book.specs.Found.{first_place}
use Rattle.radio_book.specs.Following.{settling_count, remaining_from, all_held_from}
use Rattle.radio_book.specs.Together.{remaining, held_steps}
use Rattle.radio_book.proofs.AllSettled.{settled_attempts, remaining_are, held_are_all, settled_leave_no_trace}
use Rattle.radio_desk.specs.Audit.{events_in, step_at, steps_in, AreSettledIn, LeadsAlike}

-- the entries are the steps of their events
entries_are : (n : ℕ) (b : State) (history : List (Event × Reply)) (b' : State) → Leads b history b' → map step_at (enumerate_from n history) ≡ steps_from n b (events_in history)
entries_are n b [] b' legal = refl
entries_are n b (s ∷ history) b' legal =
    (λ i. record { place = n; event = s.0; reply = legal.0 i } ∷ entries_are (n + 1) (step b s.0) history b' legal.1 i)

-- and lead to the book that these lead to
leads_there : (b : State) (history : List (Event × Reply)) (b' : State) → Leads b history b' → b' ≡ run_book b (events_in history)
leads_there b [] b' legal = legal
leads_there b (s ∷ history) b' legal = leads_there (step b s.0) history b' legal.1

-- where nothing is the first, there is nothing
none_first : (ss : List StepAt) → first_place ss ≡ None → ss ≡ []
none_first [] none = refl
none_first (s ∷ ss) none = cc

module _ (opening : State) (history : List (Event × Reply)) (book : State) (sound : IsSound opening) (legal : Leads opening history book) where
  abbrev events : List Event
  events = events_in history

  same_steps : steps_in history ≡ steps_from 0 opening events
  same_steps = entries_are 0 opening history book legal

  pub attempts_are : (us : List Undone) × AreSettledIn opening history us × (settling_count (steps_in history) ≡ length us)
  attempts_are = let found = settled_attempts opening sound events in (found.0, found.1, ap settling_count same_steps ∙ found.2)

  module _ (us : List Undone) (are : AreSettledIn opening history us) where
    pub remaining_same : remaining_from [] (steps_in history) ≡ remaining us (steps_in history)
    remaining_same = ap (remaining_from []) same_steps ∙ sym (remaining_are opening sound events us are) ∙ ap (remaining us) (sym same_steps)

    pub held_same : all_held_from [] (steps_in history) ≡ held_steps us (steps_in history)
    held_same = ap (all_held_from []) same_steps ∙ sym (held_are_all opening sound events us are) ∙ ap (held_steps us) (sym same_steps)

  -- where none is held, what remains leads alike
  pub no_trace : first_place (all_held_from [] (steps_in history)) ≡ None → LeadsAlike opening (remaining_from [] (steps_in history)) book
  no_trace none =
      let found = attempts_are in
      let held : held_steps found.0 (steps_from 0 opening events) ≡ [] = ap (held_steps found.0) (sym same_steps) ∙ none_first (held_steps found.0 (steps_in history)) (ap first_place (sym (held_same found.0 found.1)) ∙ none) in
      let law = settled_leave_no_trace opening sound events found.0 found.1 held in
      let here : remaining_from [] (steps_in history) ≡ remaining found.0 (steps_from 0 opening events) = remaining_same found.0 found.1 ∙ ap (remaining found.0) same_steps in
      record {
        leads = ap (λ ss. run_book opening (events_of ss)) here ∙ sym law.book ∙ sym (leads_there opening history book legal);
        replies = ap (λ ss. run_replies opening (events_of ss)) here ∙ sym law.replies ∙ ap replies_of (sym here);
      }
