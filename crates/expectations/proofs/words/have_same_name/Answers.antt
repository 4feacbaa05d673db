use Rattle.std.proofs.Common.{◌≡◌, lit<, rules, tests, not, List, ℕ, length, sym, ◌∙◌}
use Rattle.std.proofs.lemmas.Iterator.{YieldsList-from_zip}
use Rattle.std.proofs.lemmas.Iterator.Consumers.{YieldsList-at}
use Rattle.std.proofs.lemmas.Iterator.Search.{all_from_yields_List, YieldsList-from_take_while}
use Rattle.std.proofs.lemmas.Iterator.Splits.{YieldsList-from_str_split}
use Rattle.expectations.specs.Words.{is_field, words_of, name_of, is_one_like}
use Rattle.expectations.proofs.WordLemmas.{both}
use Rattle.expectations.proofs.words.have_same_name.Goals as goal

pub returns-then-name_length : goal.returns-then-name_length
returns-then-name_length c =
    let one = name_of (words_of c.args.one.now) in
    let other = name_of (words_of c.args.other.now) in
    let count : length one ≡ length other = sym c.name_length.ensures ∙ (c.if-name_length.true ∙ c.name_length-2.ensures) in
    both (length one) (length other) c.all.result _ count
    (all_from_yields_List (λ (two : List ℕ × List ℕ). is_one_like two) _ _ c.all.result c.all.ensures.ran
    (YieldsList-from_zip
    (YieldsList-at c.zip.ensures.first (YieldsList-from_take_while _ (λ (word : List ℕ). not (is_field word)) (YieldsList-at c.take_while.ensures.source (YieldsList-from_str_split 32 c.args.one.now (lit< tt) c.split.ensures.text c.split.ensures.has_more c.split.ensures.pattern)) c.take_while.ensures.closure c.take_while.ensures.done (λ x b q k. search (rules, tests))))
    (YieldsList-at c.zip.ensures.second (YieldsList-from_take_while _ (λ (word : List ℕ). not (is_field word)) (YieldsList-at c.take_while-then-name_length.ensures.source (YieldsList-from_str_split 32 c.args.other.now (lit< tt) c.split-then-name_length.ensures.text c.split-then-name_length.ensures.has_more c.split-then-name_length.ensures.pattern)) c.take_while-then-name_length.ensures.closure c.take_while-then-name_length.ensures.done (λ x b q k. search (rules, tests)))))
    (λ x b q k. search (rules, tests)))
