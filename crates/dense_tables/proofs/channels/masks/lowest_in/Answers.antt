use Rattle.std.proofs.Common.{inl, inr, sym, arith}
use Rattle.std.proofs.lemmas.Bool.{cases_order, cases_eq}
use Rattle.dense_tables.proofs.channels.masks.lowest_in.Goals as goal

pub loop-trx-preserved : goal.loop-trx-preserved
loop-trx-preserved g c y masked before =
    elim (cases_eq y.trx c.loop-trx.trx) [
      | inl same ↦ c.in_default.ensures.none y masked same
      | inr other ↦ c.loop-trx.invariant y masked (omega (arith, before, other))
    ]

pub returns-in-Some-clause-found : goal.returns-in-Some-clause-found
returns-in-Some-clause-found g c = c.in-Some.ensures.found.there

pub returns-in-Some-clause-lowest : goal.returns-in-Some-clause-lowest
returns-in-Some-clause-lowest g c y masked =
    let x = c.in-Some.ensures.found in
    elim (cases_order c.loop-trx.trx y.trx) [
      | inl same ↦ let no_later = x.first y masked (sym same) in inr (omega (arith, same, x.trx), no_later)
      | inr apart ↦ elim apart [
        | inl less ↦ inl (omega (arith, less, x.trx))
        | inr more ↦ absurd (c.loop-trx.invariant y masked more)
      ]
    ]

pub returns-clause-none : goal.returns-clause-none
returns-clause-none g c y masked =
    let few = masked.masked.limits.trx in
    c.loop-trx.invariant y masked (omega (arith, few, c.loop-trx-test.false))
