use Rattle.std.proofs.Common.{◌≡◌, true, length, sym, ap, ◌∙◌}
use Rattle.std.specs.Bool.{Decides}
use Rattle.std.proofs.lemmas.Bool.{false≢true}
use Rattle.radio_tables.proofs.DenseFacts.{state_in, told}
use Rattle.radio_tables.proofs.dense.DenseTablesTables.is_same.Goals.{then-is_same, else-is_same}
use Rattle.radio_tables.proofs.dense.DenseTablesTables.is_same.Goals as goal

pub returns-then-is_same-2 : goal.returns-then-is_same-2
returns-then-is_same-2 g c =
    let one = c.self.inside in
    let other = c.other.inside in
    let two : Decides c.if-is_same.value ((one.channels ≡ other.channels) × (one.calls ≡ other.calls)) = elim c.if-is_same.branch [
      | then-is_same w ↦ (λ e. (c.is_same.ensures.same.0 w.if-is_same.true, w.is_same-then-is_same.ensures.same.0 (sym w.value-is ∙ e)), λ p. w.value-is ∙ w.is_same-then-is_same.ensures.same.1 p.1)
      | else-is_same w ↦ (λ e. absurd (false≢true (sym w.if-is_same.false ∙ sym w.value-is ∙ e)), λ p. w.value-is ∙ c.is_same.ensures.same.1 p.0)
    ] in
    record {
      same = (
        λ yes.
            let parts = two.0 c.if-is_same-2.true in
            let references = c.is_same-then-is_same-2.ensures.same.0 yes in
            sym c.self.view_is ∙ (λ i. state_in (parts.0 i) (parts.1 i) ((references i).users)) ∙ c.other.view_is,
        λ e.
            let parts = told one.channels other.channels one.calls other.calls one.references.users other.references.users (c.self.view_is ∙ e ∙ sym c.other.view_is) in
            let cells : one.references.cells ≡ other.references.cells = c.self.invariant.rows ∙ ap (λ t. length t.site.cells) parts.0 ∙ sym c.other.invariant.rows in
            c.is_same-then-is_same-2.ensures.same.1 (λ i. record { cells = cells i; users = parts.2 i }),
      );
    }

pub returns-else-is_same-2 : goal.returns-else-is_same-2
returns-else-is_same-2 g c =
    let one = c.self.inside in
    let other = c.other.inside in
    let two : ((one.channels ≡ other.channels) × (one.calls ≡ other.calls)) → c.if-is_same.value ≡ true = elim c.if-is_same.branch [
      | then-is_same w ↦ λ p. w.value-is ∙ w.is_same-then-is_same.ensures.same.1 p.1
      | else-is_same w ↦ λ p. w.value-is ∙ c.is_same.ensures.same.1 p.0
    ] in
    record {
      same = (
        λ yes. absurd (false≢true (sym c.if-is_same-2.false ∙ yes)),
        λ e.
            let parts = told one.channels other.channels one.calls other.calls one.references.users other.references.users (c.self.view_is ∙ e ∙ sym c.other.view_is) in
            two (parts.0, parts.1),
      );
    }
