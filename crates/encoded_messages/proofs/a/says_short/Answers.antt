use Rattle.std.proofs.Common.{is_ok, ap, ◌∙◌}
use Rattle.encoded_messages.proofs.ALemmas.{short_written}
use Rattle.encoded_messages.proofs.ReadLemmas.{read_ok}
use Rattle.encoded_messages.proofs.a.says_short.Goals as goal

pub returns : goal.returns
returns c = c.is_ok.ensures.value ∙ read_ok c.short_message.result ∙ ap is_ok c.short_message.ensures ∙ short_written _ c.args.name.now c.args.fields.now
