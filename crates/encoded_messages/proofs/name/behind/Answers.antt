use Rattle.std.proofs.Common.{◌≡◌, ◌++◌, sym, ap, ◌∙◌, lit<}
use Rattle.std.proofs.lemmas.Str.Pattern.{strip_prefix_char}
use Rattle.encoded_messages.proofs.NameLemmas.{behind_front}
use Rattle.encoded_messages.proofs.name.behind.Goals as goal

pub returns : goal.returns
returns c =
    let front = c.in_ok-strip_prefix.ensures.cases in
    let rest = c.in_ok-strip_prefix.field-0.now in
    let cut : c.args.text.now ≡ c.args.front.now ++ rest = front.1.1 ∙ ap (λ l. c.args.front.now ++ l) (sym front.2) in
    behind_front c.args.text.now c.args.front.now rest c.strip_prefix-2.result cut (strip_prefix_char 32 rest c.strip_prefix-2.result c.strip_prefix-2.ensures.cases (lit< tt))
