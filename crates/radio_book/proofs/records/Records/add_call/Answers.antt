use Rattle.std.proofs.Common.{sym, ◌∙◌, ap}
use Rattle.std.specs.Cmp.{nat_cmp_total}
use Rattle.std.specs.FinMap as map
use Rattle.std.specs.FinMap.{nat_cmp-IsAntisymmetric}
use Rattle.radio_tables.proofs.MapFacts.{remove_inserted}
use Rattle.radio_tables.proofs.TableFacts.{at_err, err_holds}
use Rattle.radio_book.specs.State.{apply}
use Rattle.radio_book.specs.Table.{no_change, without_entry}
use Rattle.radio_book.proofs.records.Records.add_call.Goals as goal

pub remove_unarmed-requires : goal.remove_unarmed-requires
remove_unarmed-requires g c =
    let kept = at_err c.occupy-occupied.result (sym c.is_err.ensures.value ∙ c.if-is_err.true) c.occupy-occupied.ensures.err in
    ap (λ b. map.get b.timers c.args.call) (kept ∙ c.in_ok-insert_call.ensures.ok) ∙ c.requires.unarmed

pub returns-then-is_err-clause-unchanged : goal.returns-then-is_err-clause-unchanged
returns-then-is_err-clause-unchanged g c =
    let old = c.args.self.now in
    let back = remove_inserted nat_cmp_total nat_cmp-IsAntisymmetric old.calls c.args.call c.args.entry.call c.requires.call in
    let kept = at_err c.occupy-occupied.result (sym c.is_err.ensures.value ∙ c.if-is_err.true) c.occupy-occupied.ensures.err in
    err_holds c.occupy-occupied.result
    (c.remove_unarmed.ensures ∙ ap (λ b. apply (record no_change { call = without_entry c.args.call }) b) (kept ∙ c.in_ok-insert_call.ensures.ok)
    ∙ (λ i. record { site = old.site; channels = old.channels; calls = back i; references = old.references; timers = old.timers }))
