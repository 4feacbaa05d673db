use Rattle.std.proofs.Common.{rules, tests, List, ℕ, Bor, ap, sym, ◌∙◌, length, unwrap_or}
use Rattle.std.proofs.lemmas.Iterator.{YieldsList-from_slice}
use Rattle.std.proofs.lemmas.Iterator.Search.{position_from_yields_List}
use Rattle.std.specs.List.{position_or_len}
use Rattle.tested_scripts.specs.Lines.{is_script_line}
use Rattle.tested_scripts.proofs.LineLemmas.{position_texts, position_within, place_or_all}
use Rattle.tested_scripts.proofs.lines.part_end.Goals as goal

pub returns : goal.returns
returns c =
    let test = λ (line : Bor (List ℕ)). is_script_line line.now in
    let lines = c.args.lines.now in
    let found = position_from_yields_List test _ _ c.position.result c.position.ensures.ran (YieldsList-from_slice lines c.iter.ensures.rest) (λ x b q k. search (rules, tests)) in
    record { end = (c.unwrap_or.ensures ∙ ap (λ o. unwrap_or o (length lines)) found) ∙ (place_or_all (position_or_len test lines) (length lines) (position_within test lines) ∙ sym (position_texts is_script_line lines)) }
