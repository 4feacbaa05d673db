use Rattle.std.proofs.Common.{Some, sym, ◌∙◌, ap}
use Rattle.std.specs.FinMap as map
use Rattle.std.specs.Option.{option_copied}
use Rattle.radio_tables.proofs.EntryFacts.{call_kept, timer_kept, get_records, get_armed}
use Rattle.radio_tables.proofs.trees.Calls.entry.Goals as goal

pub returns-in-Some-clause-call : goal.returns-in-Some-clause-call
returns-in-Some-clause-call g c =
    ap (λ k. call_kept (Some k)) c.copy.ensures ∙ sym (ap (λ o. call_kept (option_copied o)) c.in-Some.is) ∙ ap call_kept c.get.ensures.value
    ∙ sym (get_records c.self.inside.entries.entries c.args.call) ∙ ap (λ t. map.get t.records c.args.call) c.self.view_is

pub returns-in-Some-clause-timer : goal.returns-in-Some-clause-timer
returns-in-Some-clause-timer g c =
    ap (λ k. timer_kept (Some k)) c.copy.ensures ∙ sym (ap (λ o. timer_kept (option_copied o)) c.in-Some.is) ∙ ap timer_kept c.get.ensures.value
    ∙ sym (get_armed c.self.inside.entries.entries c.args.call) ∙ ap (λ t. map.get t.armed c.args.call) c.self.view_is

pub returns-in-None-clause-call : goal.returns-in-None-clause-call
returns-in-None-clause-call g c =
    sym (ap (λ o. call_kept (option_copied o)) c.in-None.is) ∙ ap call_kept c.get.ensures.value
    ∙ sym (get_records c.self.inside.entries.entries c.args.call) ∙ ap (λ t. map.get t.records c.args.call) c.self.view_is
