use Rattle.std.proofs.Common.{◌==◌, ◌∙◌, ap}
use Rattle.cell_table.specs.Searches.{slots_before}
use Rattle.cell_table.proofs.places.has_place.Goals as goal

pub returns : goal.returns
returns c = record {
  value = ap (λ n. n == c.args.place) (c.slots_before.ensures.value ∙ ap (λ k. slots_before k c.args.trx.now) c.number_of.ensures.value);
}
