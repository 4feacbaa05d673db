use Rattle.std.proofs.Common.{ℕ, below_more, arith, sym, ◌∙◌}
use Rattle.std.proofs.lemmas.Bool.{true≢false}
use Rattle.site_text.specs.Cells.{IsNeighbour}
use Rattle.site_text.proofs.cells.has_neighbours.Goals as goal

pub loop-other-preserved : goal.loop-other-preserved
loop-other-preserved g c =
    below_more (λ (other : ℕ). IsNeighbour c.args.site.now c.args.cell other → ⊥) _ c.loop-other.invariant
    (λ neighbour. true≢false (sym (c.is_neighbour.ensures.1 neighbour) ∙ c.if-is_neighbour.false))

pub returns : goal.returns
returns g c = (
  λ some. absurd (true≢false (sym some)),
  λ neighbour. absurd (c.loop-other.invariant neighbour.0 (omega (arith, neighbour.1)) neighbour.2),
)
