use Rattle.std.proofs.Common.{lit<, rules, tests, ap, sym, ◌∙◌, ◌+◌, ◌==◌, option_map}
use Rattle.std.specs.List.{slice_split}
use Rattle.std.specs.Str.Lines.{strip_carriage_return}
use Rattle.std.proofs.lemmas.Iterator.Adapters.{position_from-zero}
use Rattle.std.proofs.lemmas.Iterator.Search.{position_from_yields_List}
use Rattle.std.proofs.lemmas.Iterator.Splits.{YieldsList-from_str_split}
use Rattle.trace_entries.specs.Entries.{is_unreadable}
use Rattle.trace_entries.proofs.EntryLemmas.{first_unreadable-position}
use Rattle.trace_entries.proofs.entries.first_unreadable.Goals as goal

pub returns-in_err-index : goal.returns-in_err-index
returns-in_err-index c =
    let found = position_from_yields_List (λ line. is_unreadable (strip_carriage_return line)) _ _ c.position.result c.position.ensures.ran (YieldsList-from_str_split 10 c.args.trace.now (lit< tt) c.split.ensures.text c.split.ensures.has_more c.split.ensures.pattern) (λ x b q k. search (rules, tests)) in
    let number = first_unreadable-position c.args.trace.now c.position.result (found ∙ position_from-zero (λ line. is_unreadable (strip_carriage_return line)) (slice_split (λ b. b == 10) c.args.trace.now)) in
    record { line = c.from_residual.ensures ∙ (ap (option_map (λ n. n + 1)) (sym c.in_err-index.was) ∙ number) }

pub returns : goal.returns
returns c =
    let found = position_from_yields_List (λ line. is_unreadable (strip_carriage_return line)) _ _ c.position.result c.position.ensures.ran (YieldsList-from_str_split 10 c.args.trace.now (lit< tt) c.split.ensures.text c.split.ensures.has_more c.split.ensures.pattern) (λ x b q k. search (rules, tests)) in
    let number = first_unreadable-position c.args.trace.now c.position.result (found ∙ position_from-zero (λ line. is_unreadable (strip_carriage_return line)) (slice_split (λ b. b == 10) c.args.trace.now)) in
    record { line = ap (option_map (λ n. n + 1)) (sym c.in_ok-index.was) ∙ number }
