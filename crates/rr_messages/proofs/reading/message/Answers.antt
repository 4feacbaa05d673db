use Rattle.std.proofs.Common.{refl}
use Rattle.rr_messages.specs.declared.message.Rr.TheVariants.{MeasurementReport}
use Rattle.rr_messages.specs.declared.kind.MessageType.TheVariants as kind
use Rattle.rr_messages.proofs.Texts.{body-text}
use Rattle.rr_messages.proofs.reading.message.Goals as goal

pub returns-in_ok-results-in-MeasurementReport-clause-text : goal.returns-in_ok-results-in-MeasurementReport-clause-text
returns-in_ok-results-in-MeasurementReport-clause-text c =
    let known = c.in_ok-results-in-MeasurementReport.ensures in
    rw c.in-MeasurementReport.is (body-text (MeasurementReport c.in_ok-results-in-MeasurementReport.field-0) kind.MeasurementReport c.args.body.now refl known.long known.part)
