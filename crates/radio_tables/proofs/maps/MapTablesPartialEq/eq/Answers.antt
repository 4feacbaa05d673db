use Rattle.std.proofs.Common.{◌≡◌, ◌&&◌, sym, ap, ◌∙◌}
use Rattle.cell_table.specs.Same.{same_site}
use Rattle.radio_tables.specs.Same.{is_same}
use Rattle.radio_tables.specs.Entries.{call_table_code}
use Rattle.radio_tables.specs.State.{State, state_code, channels_code, references_code}
use Rattle.radio_tables.proofs.SameFacts.{state_eq}
use Rattle.radio_tables.proofs.maps.MapTablesPartialEq.eq.Goals.{then-eq, else-eq, then-eq-2, else-eq-2}
use Rattle.radio_tables.proofs.maps.MapTablesPartialEq.eq.Goals as goal

pub returns-then-eq-3 : goal.returns-then-eq-3
returns-then-eq-3 g c =
    let a : State = record { site = c.self.inside.site.value; channels = c.self.inside.channels; calls = c.self.inside.calls.records; references = c.self.inside.references; timers = c.self.inside.calls.armed } in
    let b : State = record { site = c.other.inside.site.value; channels = c.other.inside.channels; calls = c.other.inside.calls.records; references = c.other.inside.references; timers = c.other.inside.calls.armed } in
    let channels = is_same channels_code a.channels b.channels in
    let calls = is_same call_table_code c.self.inside.calls c.other.inside.calls in
    let references = is_same references_code a.references b.references in
    let two : c.if-eq.value ≡ (same_site a.site b.site && channels) = elim c.if-eq.branch [
      | then-eq w ↦ w.value-is ∙ w.eq-then-eq.ensures ∙ ap (λ p. p && channels) (sym w.if-eq.true ∙ c.eq.ensures)
      | else-eq w ↦ w.value-is ∙ w.if-eq.false ∙ ap (λ p. p && channels) (sym w.if-eq.false ∙ c.eq.ensures)
    ] in
    let three : c.if-eq-2.value ≡ ((same_site a.site b.site && channels) && calls) = elim c.if-eq-2.branch [
      | then-eq-2 w ↦ w.value-is ∙ w.eq-then-eq-2.ensures ∙ ap (λ p. p && calls) (sym w.if-eq-2.true ∙ two)
      | else-eq-2 w ↦ w.value-is ∙ w.if-eq-2.false ∙ ap (λ p. p && calls) (sym w.if-eq-2.false ∙ two)
    ] in
    c.eq-then-eq-3.ensures ∙ ap (λ p. p && references) (sym c.if-eq-3.true ∙ three) ∙ state_eq c.same_sites_are_equal.ensures.law a b
    ∙ (λ i. is_same state_code (c.self.view_is i) (c.other.view_is i))

pub returns-else-eq-3 : goal.returns-else-eq-3
returns-else-eq-3 g c =
    let a : State = record { site = c.self.inside.site.value; channels = c.self.inside.channels; calls = c.self.inside.calls.records; references = c.self.inside.references; timers = c.self.inside.calls.armed } in
    let b : State = record { site = c.other.inside.site.value; channels = c.other.inside.channels; calls = c.other.inside.calls.records; references = c.other.inside.references; timers = c.other.inside.calls.armed } in
    let channels = is_same channels_code a.channels b.channels in
    let calls = is_same call_table_code c.self.inside.calls c.other.inside.calls in
    let references = is_same references_code a.references b.references in
    let two : c.if-eq.value ≡ (same_site a.site b.site && channels) = elim c.if-eq.branch [
      | then-eq w ↦ w.value-is ∙ w.eq-then-eq.ensures ∙ ap (λ p. p && channels) (sym w.if-eq.true ∙ c.eq.ensures)
      | else-eq w ↦ w.value-is ∙ w.if-eq.false ∙ ap (λ p. p && channels) (sym w.if-eq.false ∙ c.eq.ensures)
    ] in
    let three : c.if-eq-2.value ≡ ((same_site a.site b.site && channels) && calls) = elim c.if-eq-2.branch [
      | then-eq-2 w ↦ w.value-is ∙ w.eq-then-eq-2.ensures ∙ ap (λ p. p && calls) (sym w.if-eq-2.true ∙ two)
      | else-eq-2 w ↦ w.value-is ∙ w.if-eq-2.false ∙ ap (λ p. p && calls) (sym w.if-eq-2.false ∙ two)
    ] in
    c.if-eq-3.false ∙ ap (λ p. p && references) (sym c.if-eq-3.false ∙ three) ∙ state_eq c.same_sites_are_equal.ensures.law a b
    ∙ (λ i. is_same state_code (c.self.view_is i) (c.other.view_is i))
