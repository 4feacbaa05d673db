use Rattle.std.proofs.Common.{◌≡◌, ◌↔◌, ℕ, Option, Some, None, is_some, true, refl, sym, ap, ◌∙◌, rules}
use Rattle.std.proofs.lemmas.Bool.{true≢false}
use Rattle.cell_table.specs.Neighbours.{IsNamedCell}
use Rattle.cell_table.specs.Views.{SiteView}
use Rattle.site_text.proofs.cells.is_neighbour.Goals as goal

-- a name that was found is one
named : (site : SiteView) (cell other : ℕ) (found : Option (ℕ × ℕ)) → ((place bsic : ℕ) → (found ≡ Some (place, bsic)) ↔ IsNamedCell site cell place bsic other)
    → is_some found ≡ true → (place : ℕ) × (bsic : ℕ) × IsNamedCell site cell place bsic other
named site cell other None name some = absurd (true≢false (sym some))
named site cell other (Some pair) name some = (pair.0, pair.1, (name pair.0 pair.1).0 refl)

pub returns-then-other-cell : goal.returns-then-other-cell
returns-then-other-cell g c =
    let name = c.reported_as.ensures.name in
    let found = c.reported_as.result in
    let is : c.is_some.result ≡ is_some found = search rules in (
      λ some.
          let n = named c.args.site.now c.args.cell c.args.other found name (sym is ∙ some) in
          (c.if-other-cell.true, n.0, n.1, n.2),
      λ neighbour. is ∙ ap is_some ((name neighbour.1 neighbour.2).1 neighbour.3),
    )
