use Rattle.std.proofs.Common.{◌≡◌, ◌∙◌, All, ap, subst, drop, length}
use Rattle.radio_book.specs.Run.{Leads}
use Rattle.radio_desk.specs.Desk.{DeskState}
use Rattle.exchange.specs.declared.Inbound.{Inbound}
use Rattle.lab_runs.specs.Notes.{NotingState, IsTrueNote, with_notes}
use Rattle.lab_runs.specs.Turns.{Answers}
use Rattle.lab_runs.proofs.TurnFacts.{Told, told}
use Rattle.lab_runs.proofs.turn.take_turn.Goals as goal

pub returns-in-Ok-clause-turn : goal.returns-in-Ok-clause-turn
returns-in-Ok-clause-turn g c =
    let s = c.args.controller.now in
    let s' = c.handled.new.controller in
    let notes = c.notes_from.result.now in
    let view : c.view-view.result.now ≡ s'.0 = c.view-view.ensures.view in
    let desk : c.desk-2.result.now ≡ s'.0.desk = c.desk-2.ensures.desk ∙ ap (λ (v : NotingState). v.desk) view in
    let first : c.len-first.result ≡ length s.0.desk.history =
    c.len-first.ensures.len ∙ (ap (λ (d : DeskState). length d.history) c.desk.ensures.desk ∙ ap (λ (v : NotingState). length v.desk.history) c.view.ensures.view) in
    let place : c.noted-noted.result ≡ length s.0.notes = c.noted-noted.ensures.len ∙ ap (λ (v : NotingState). length v.notes) c.view-2.ensures.view in
    let found : Told s s' c.in-Ok.steps.items =
    told s s' c.in_ok-given.given c.in_ok-answer.answer c.in-Ok.steps.items c.len-first.result c.noted-noted.result notes
    c.in_ok-answer.ensures.answers c.handled.ensures.opening first place
    (c.notes_from.ensures.notes ∙ ap (λ (v : NotingState). drop c.noted-noted.result v.notes) view)
    (subst (λ (v : NotingState). All (IsTrueNote v.desk) notes) view c.notes_from.ensures.each)
    (c.in-Ok.ensures.steps ∙ ap (λ (d : DeskState). with_notes c.len-first.result notes (drop c.len-first.result d.history)) desk) in
    record {
      answers = subst (λ (input : Inbound g.row.A.Denot). Answers s input c.in_ok-answer.answer s') c.in_ok-given.ensures.same c.in_ok-answer.ensures.answers;
      asked = found.asked;
      none_free = found.none_free;
      noted = found.noted;
      legal = subst (λ (d : DeskState). Leads d.opening d.history d.book) desk c.in-Ok.ensures.legal;
      opening = c.handled.ensures.opening;
      site = c.handled.ensures.site;
    }
