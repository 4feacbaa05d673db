use Rattle.std.proofs.Common.{true, sym, ◌∙◌}
use Rattle.encoded_messages.proofs.AbisLemmas.{parts_said}
use Rattle.encoded_messages.proofs.abis.says_parts.Goals as goal

pub returns-then-says_rr : goal.returns-then-says_rr
returns-then-says_rr c = λ text. parts_said c.args.front.now c.args.words.now true c.says_with.result (sym c.if-says_rr.true ∙ c.says_rr.ensures.said) (λ layer3 short. rw (sym c.name_and_fields.ensures.name, sym c.name_and_fields.ensures.fields) (c.says_with.ensures layer3 short))
