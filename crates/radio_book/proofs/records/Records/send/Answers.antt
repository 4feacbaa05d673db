use Rattle.std.proofs.Common.{ap, ◌∙◌}
use Rattle.radio_book.specs.State.{apply}
use Rattle.radio_book.specs.Table.{no_change}
use Rattle.radio_book.proofs.RecordFacts.{sent}
use Rattle.radio_book.proofs.records.Records.send.Goals as goal

pub returns : goal.returns
returns g c =
    c.step_from.ensures ∙ ap (λ e. apply (record no_change { channel = e }) c.args.self.now) (sent c.args.x c.args.call)
