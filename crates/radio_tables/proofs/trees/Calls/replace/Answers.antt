use Rattle.std.proofs.Common.{is_some, sym, ◌∙◌, ap}
use Rattle.std.specs.FinMap as map
use Rattle.std.specs.Option.{option_copied_mut}
use Rattle.radio_tables.specs.Entries.{with_kept}
use Rattle.radio_tables.proofs.EntryFacts.{call_kept, get_records, kept_written}
use Rattle.radio_tables.proofs.trees.Calls.replace.Goals as goal

pub unreachable-requires : goal.unreachable-requires
unreachable-requires g c =
    let absent =
    ap call_kept (sym (ap option_copied_mut c.in-None.is) ∙ c.get_mut.ensures.value)
    ∙ sym (get_records c.self.inside.entries.entries c.args.call) ∙ ap (λ t. map.get t.records c.args.call) c.self.view_is in
    let there = ap is_some absent ∙ c.requires in
    cc

pub returns : goal.returns
returns g c =
    let there = sym (ap is_some (sym (ap option_copied_mut c.in-Some.is) ∙ c.get_mut.ensures.value)) in
    let written = c.get_mut.follows.holds c.args.entry in
    kept_written c.self.inside.entries.entries (c.get_mut.follows.lender c.args.entry).entries c.args.call c.args.entry (written.3 there).0
    ∙ ap (λ t. with_kept t c.args.call c.args.entry) c.self.view_is
