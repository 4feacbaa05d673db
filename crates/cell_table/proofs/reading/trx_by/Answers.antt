use Rattle.std.proofs.Common.{◌≡◌, Ok, map, sym, rules}
use Rattle.std.proofs.lemmas.Result.{err_from_is_err_and}
use Rattle.toml.specs.View.{view}
use Rattle.toml.specs.Data.{get}
use Rattle.cell_table.specs.declared.fault.Key.TheVariants as key
use Rattle.cell_table.specs.SiteFile.{each, number_of, halves_by, key_name}
use Rattle.cell_table.specs.Kept.{first_nine, names}
use Rattle.cell_table.proofs.SlotFacts.{slots_refused, halves_refused, both_read}
use Rattle.cell_table.proofs.reading.trx_by.Goals as goal

pub returns-in_err-tch : goal.returns-in_err-tch
returns-in_err-tch c =
    let p = err_from_is_err_and c.from_residual.result c.from_residual.ensures.1 in
    record { read = rw p.1 (sym (slots_refused c.args.arfcn c.args.range (map view c.args.slots.now) (view c.args.trx.now) _ (search rules))) }

pub returns-in_err-half : goal.returns-in_err-half
returns-in_err-half c =
    let p = err_from_is_err_and c.from_residual-in_err-half.result c.from_residual-in_err-half.ensures.1 in
    let told : first_nine (each (λ place. number_of key.Tch c.args.range) 0 (map view c.args.slots.now)) ≡ Ok c.in_ok-tch.tch.items = search rules in
    record { read = rw p.1 (sym (halves_refused c.args.arfcn c.args.range (map view c.args.slots.now) (view c.args.trx.now) c.in_ok-tch.tch.items _ told (search rules))) }

pub returns : goal.returns
returns c =
    let told : first_nine (each (λ place. number_of key.Tch c.args.range) 0 (map view c.args.slots.now)) ≡ Ok c.in_ok-tch.tch.items = search rules in
    let halves : first_nine (halves_by (names c.args.range (map view c.args.slots.now)) (get (key_name key.Half) (view c.args.trx.now))) ≡ Ok c.in_ok-half.half.items = search rules in
    record { read = sym (both_read c.args.arfcn c.args.range (map view c.args.slots.now) (view c.args.trx.now) c.in_ok-tch.tch.items c.in_ok-half.half.items told halves) }
