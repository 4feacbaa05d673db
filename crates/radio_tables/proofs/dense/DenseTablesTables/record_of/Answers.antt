use Rattle.std.proofs.Common.{Some, sym, ◌∙◌, ap}
use Rattle.std.specs.FinMap as map
use Rattle.std.specs.Option.{option_copied}
use Rattle.radio_tables.proofs.EntryFacts.{call_kept}
use Rattle.radio_tables.proofs.DenseFacts.{get_record}
use Rattle.radio_tables.proofs.dense.DenseTablesTables.record_of.Goals as goal

pub returns-in-Some : goal.returns-in-Some
returns-in-Some g c = record {
  value = ap Some c.record.ensures ∙ sym (ap (λ o. call_kept (option_copied o)) c.in-Some.is) ∙ ap call_kept c.get.ensures.value
      ∙ sym (get_record c.self.inside.calls c.args.call) ∙ ap (λ b. map.get b.calls c.args.call) c.self.view_is;
}

pub returns-in-None : goal.returns-in-None
returns-in-None g c = record {
  value = sym (ap (λ o. call_kept (option_copied o)) c.in-None.is) ∙ ap call_kept c.get.ensures.value
      ∙ sym (get_record c.self.inside.calls c.args.call) ∙ ap (λ b. map.get b.calls c.args.call) c.self.view_is;
}
