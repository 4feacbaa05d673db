use Rattle.std.proofs.Common.{sym, ap, ◌∙◌, arith}
use Rattle.std.specs.Option.{option_copied}
use Rattle.std.proofs.lemmas.Option.{slice_get_read}
use Rattle.dense_tables.proofs.Kept.{read_none, read_own, read_other}
use Rattle.dense_tables.proofs.calls.entry_in.Goals as goal

pub returns-in_err-slot : goal.returns-in_err-slot
returns-in_err-slot g c =
    let key = slice_get_read c.args.keys.now.items 65536 c.args.call c.index.result.now (sym c.requires) (omega arith) c.index.ensures in
    ap option_copied c.from_residual.ensures ∙ read_none c.args.keys.now.items c.args.slots.now.slots c.args.call _ key (sym c.get.ensures ∙ ap option_copied c.in_err-slot.was)

pub returns-then-slot-call : goal.returns-then-slot-call
returns-then-slot-call g c =
    let key = slice_get_read c.args.keys.now.items 65536 c.args.call c.index.result.now (sym c.requires) (omega arith) c.index.ensures in
    read_own c.args.keys.now.items c.args.slots.now.slots c.args.call _ key c.in_ok-slot.slot.now (sym c.get.ensures ∙ ap option_copied c.in_ok-slot.was) c.if-slot-call.true

pub returns-else-slot-call : goal.returns-else-slot-call
returns-else-slot-call g c =
    let key = slice_get_read c.args.keys.now.items 65536 c.args.call c.index.result.now (sym c.requires) (omega arith) c.index.ensures in
    read_other c.args.keys.now.items c.args.slots.now.slots c.args.call _ key c.in_ok-slot.slot.now (sym c.get.ensures ∙ ap option_copied c.in_ok-slot.was) c.if-slot-call.false
