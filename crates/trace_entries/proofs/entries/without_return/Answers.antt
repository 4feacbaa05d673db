use Rattle.std.proofs.Common.{lit<, ◌∙◌, ap, Bor, List, ℕ}
use Rattle.std.proofs.lemmas.Str.Pattern.{strip_suffix_char}
use Rattle.trace_entries.proofs.Returns.{stripped}
use Rattle.trace_entries.proofs.entries.without_return.Goals as goal

pub returns : goal.returns
returns c =
    let found = strip_suffix_char 13 c.args.line.now c.strip_suffix.result c.strip_suffix.ensures.cases (lit< tt) in
    record { stripped = ap (λ (x : Bor (List ℕ)). x.now) c.unwrap_or.ensures ∙ stripped c.args.line c.strip_suffix.result found }
