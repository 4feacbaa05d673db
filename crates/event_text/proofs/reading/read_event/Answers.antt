use Rattle.std.proofs.Common.{◌≡◌, None, ◌∙◌, rules}
use Rattle.event_text.proofs.Readings.{read_of}
use Rattle.event_text.proofs.Found.{exact, read_is_found}
use Rattle.event_text.proofs.reading.read_event.Goals as goal

pub returns-clause-read : goal.returns-clause-read
returns-clause-read c =
    let own : c.event.result ≡ read_of c.args.text.now = search rules in
    exact c.args.text.now c.event.result own

pub returns-clause-value : goal.returns-clause-value
returns-clause-value c =
    let own : c.event.result ≡ read_of c.args.text.now = search rules in
    own ∙ read_is_found c.args.text.now

pub returns-in_err-word-clause-value : goal.returns-in_err-word-clause-value
returns-in_err-word-clause-value c =
    let none : None ≡ read_of c.args.text.now = search rules in
    c.from_residual.ensures ∙ (none ∙ read_is_found c.args.text.now)
