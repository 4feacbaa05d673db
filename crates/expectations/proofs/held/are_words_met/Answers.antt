use Rattle.std.proofs.Common.{◌≡◌, lit<, rules, tests, List, ℕ, length, sym, ◌∙◌}
use Rattle.std.proofs.lemmas.Iterator.{YieldsList-from_zip}
use Rattle.std.proofs.lemmas.Iterator.Consumers.{YieldsList-at}
use Rattle.std.proofs.lemmas.Iterator.Search.{all_from_yields_List}
use Rattle.std.proofs.lemmas.Iterator.Splits.{YieldsList-from_str_split}
use Rattle.expectations.specs.Held.{is_word_met}
use Rattle.expectations.specs.Words.{words_of}
use Rattle.expectations.proofs.WordLemmas.{both}
use Rattle.expectations.proofs.held.are_words_met.Goals as goal

pub returns-then-word_count : goal.returns-then-word_count
returns-then-word_count c =
    let answer = words_of c.args.answer.now in
    let expected = words_of c.args.expected.now in
    let count : length answer ≡ length expected = sym c.word_count.ensures ∙ (c.if-word_count.true ∙ c.word_count-2.ensures) in
    both (length answer) (length expected) c.all.result _ count
    (all_from_yields_List (λ (two : List ℕ × List ℕ). is_word_met two) c.all.new.self _ c.all.result c.all.ensures.ran
    (YieldsList-from_zip
    (YieldsList-at c.zip.ensures.first (YieldsList-from_str_split 32 c.args.answer.now (lit< tt) c.split.ensures.text c.split.ensures.has_more c.split.ensures.pattern))
    (YieldsList-at c.zip.ensures.second (YieldsList-from_str_split 32 c.args.expected.now (lit< tt) c.split-then-word_count.ensures.text c.split-then-word_count.ensures.has_more c.split-then-word_count.ensures.pattern)))
    (λ x b q k. search (rules, tests)))
