use Rattle.std.proofs.Common.{◌≡◌, IfSome, IfNone, sym, subst}
use Rattle.channel_fsm.specs.declared.ChanId.{ChanId}
use Rattle.timeslots.specs.declared.Rate.TheVariants as rate
use Rattle.dense_tables.specs.Channels.{IsFirstAt, IsMaskedAt}
use Rattle.dense_tables.proofs.Masked.{first_whole, none_whole, first_half, no_half}
use Rattle.dense_tables.proofs.channels.masks.lowest_of_trx.Goals as goal

pub returns-in-Full : goal.returns-in-Full
returns-in-Full g c =
    let masks = c.args.masks.now.items in
    let cell = c.args.cell in
    let trx = c.args.trx in
    let o = c.lowest_with.result in
    record {
      found = subst (λ r. IfSome o (λ x. IsFirstAt masks cell trx r x)) (sym c.in-Full.is) (first_whole masks cell trx o c.lowest_with.ensures.found);
      none = subst (λ r. IfNone o ((y : ChanId) → IsMaskedAt masks cell r y → y.trx ≡ trx → ⊥)) (sym c.in-Full.is) (none_whole masks cell trx o c.lowest_with.ensures.none);
    }

pub returns-in-Half : goal.returns-in-Half
returns-in-Half g c =
    let masks = c.args.masks.now.items in
    let cell = c.args.cell in
    let trx = c.args.trx in
    let o = c.lowest_with-in-Half.result in
    let p = c.lowest_with-in-Half-2.result in
    let found = first_half masks cell trx o p c.lowest_with-in-Half.ensures.found c.lowest_with-in-Half-2.ensures.found c.lowest_with-in-Half.ensures.none c.lowest_with-in-Half-2.ensures.none in
    let none = no_half masks cell trx o p c.lowest_with-in-Half.ensures.none c.lowest_with-in-Half-2.ensures.none in
    record {
      found = subst (λ r. IfSome c.lower_of.result (λ x. IsFirstAt masks cell trx r x)) (sym c.in-Half.is)
          (subst (λ l. IfSome l (λ x. IsFirstAt masks cell trx rate.Half x)) (sym c.lower_of.ensures) found);
      none = subst (λ r. IfNone c.lower_of.result ((y : ChanId) → IsMaskedAt masks cell r y → y.trx ≡ trx → ⊥)) (sym c.in-Half.is)
          (subst (λ l. IfNone l ((y : ChanId) → IsMaskedAt masks cell rate.Half y → y.trx ≡ trx → ⊥)) (sym c.lower_of.ensures) none);
    }
