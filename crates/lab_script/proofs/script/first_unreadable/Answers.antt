use Rattle.std.proofs.Common.{ℕ, List, Bool, lit<, rules, tests, ap, sym, ◌∙◌, ◌+◌, ◌==◌, option_map}
use Rattle.std.specs.List.{slice_split, enumerate_from}
use Rattle.std.specs.Str.Lines.{strip_carriage_return}
use Rattle.std.proofs.lemmas.Iterator.Adapters.{position_from-zero}
use Rattle.std.proofs.lemmas.Iterator.Consumers.{YieldsList-from_enumerate, YieldsList-at}
use Rattle.std.proofs.lemmas.Iterator.Search.{position_from_yields_List}
use Rattle.std.proofs.lemmas.Iterator.Splits.{YieldsList-from_str_split}
use Rattle.lab_script.specs.Script.{is_unreadable}
use Rattle.lab_script.proofs.ScriptLemmas.{is_behind, first_unreadable-place}
use Rattle.lab_script.proofs.script.first_unreadable.Goals as goal

pub returns-in_err-place : goal.returns-in_err-place
returns-in_err-place c =
    let test : ℕ × List ℕ → Bool = λ at. is_unreadable c.args.has_peer (is_behind c.first_sim-sim.result at.0) (strip_carriage_return at.1) in
    let lines = YieldsList-from_enumerate (YieldsList-at c.enumerate.ensures.source (YieldsList-from_str_split 10 c.args.text.now (lit< tt) c.split.ensures.text c.split.ensures.has_more c.split.ensures.pattern)) c.enumerate.ensures.count in
    let found = position_from_yields_List test _ _ c.position.result c.position.ensures.ran lines (λ x b q k. search (rules, tests)) in
    let number = first_unreadable-place c.args.has_peer c.args.text.now c.first_sim-sim.result c.position.result c.first_sim-sim.ensures (found ∙ position_from-zero test (enumerate_from 0 (slice_split (λ b. b == 10) c.args.text.now))) in
    record { line = c.from_residual.ensures ∙ (ap (option_map (λ n. n + 1)) (sym c.in_err-place.was) ∙ number) }

pub returns : goal.returns
returns c =
    let test : ℕ × List ℕ → Bool = λ at. is_unreadable c.args.has_peer (is_behind c.first_sim-sim.result at.0) (strip_carriage_return at.1) in
    let lines = YieldsList-from_enumerate (YieldsList-at c.enumerate.ensures.source (YieldsList-from_str_split 10 c.args.text.now (lit< tt) c.split.ensures.text c.split.ensures.has_more c.split.ensures.pattern)) c.enumerate.ensures.count in
    let found = position_from_yields_List test _ _ c.position.result c.position.ensures.ran lines (λ x b q k. search (rules, tests)) in
    let number = first_unreadable-place c.args.has_peer c.args.text.now c.first_sim-sim.result c.position.result c.first_sim-sim.ensures (found ∙ position_from-zero test (enumerate_from 0 (slice_split (λ b. b == 10) c.args.text.now))) in
    record { line = ap (option_map (λ n. n + 1)) (sym c.in_ok-place.was) ∙ number }
