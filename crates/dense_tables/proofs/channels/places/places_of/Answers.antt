use Rattle.std.proofs.Common.{◌<◌, inl, inr, None, length, get_or, set, sym, ap, ◌∙◌, arith}
use Rattle.std.proofs.lemmas.Bool.{cases_eq}
use Rattle.std.proofs.lemmas.List.{get_or-set_same, get_or-set_other, length-set}
use Rattle.cell_table.specs.Site.{index_of}
use Rattle.dense_tables.specs.Channels.{channel_at}
use Rattle.dense_tables.proofs.Found.{short_places}
use Rattle.dense_tables.proofs.Stated.{places_are}
use Rattle.dense_tables.proofs.channels.places.places_of.Goals as goal

pub short_place-requires : goal.short_place-requires
short_place-requires g c = short_places c.args.site.now c.index_of.result c.channel_at.result c.index_of.ensures.value

pub loop-number-preserved : goal.loop-number-preserved
loop-number-preserved g c =
    let places = c.loop-number.places.items in
    let number = c.loop-number.number in
    let place = c.short_place.result in
    let site = c.args.site.now in
    let within : number < length places = omega (arith, c.loop-number-test.true, c.loop-number.invariant.long) in
    let told = c.short_place.ensures ∙ c.index_of.ensures.value ∙ ap (index_of site) c.channel_at.ensures in
    record {
      long = length-set places number place ∙ c.loop-number.invariant.long;
      noted = λ k less. elim (cases_eq k number) [
        | inl same ↦ ap (λ j. get_or (set places number place) j None) same ∙ get_or-set_same places number place None within ∙ told ∙ ap (λ j. index_of site (channel_at j)) (sym same)
        | inr other ↦ get_or-set_other places number k place None other ∙ c.loop-number.invariant.noted k (omega (arith, less, other))
      ];
    }

pub returns-clause-places : goal.returns-clause-places
returns-clause-places g c = places_are c.args.site.now c.cells-cells.ensures.traffic c.loop-number.places.items (λ k less. c.loop-number.invariant.noted k (omega (arith, less, c.loop-number-test.false)))
