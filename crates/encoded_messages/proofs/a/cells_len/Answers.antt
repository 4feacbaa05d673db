use Rattle.std.proofs.Common.{◌≡◌, lit<, rules, tests, List, ℕ, Some, length, is_some, sym, ap, ◌∙◌}
use Rattle.std.proofs.lemmas.Iterator.Consumers.{count_from_yields_List}
use Rattle.std.proofs.lemmas.Iterator.Search.{all_from_yields_List}
use Rattle.std.proofs.lemmas.Iterator.Splits.{YieldsList-from_str_split}
use Rattle.encoded_messages.specs.A.{cell_of}
use Rattle.encoded_messages.specs.Words.{parts_of}
use Rattle.encoded_messages.proofs.ALemmas.{cells_counted, cells_refused}
use Rattle.encoded_messages.proofs.a.cells_len.Goals as goal

pub returns-then-all : goal.returns-then-all
returns-then-all c =
    let each = all_from_yields_List (λ (part : List ℕ). is_some (cell_of part)) _ _ c.all.result c.all.ensures.ran (YieldsList-from_str_split 44 c.args.list.now (lit< tt) c.split.ensures.text c.split.ensures.has_more c.split.ensures.pattern) (λ x b q k. search (rules, tests)) in
    let count : c.count.result ≡ length (parts_of c.args.list.now) = count_from_yields_List c.split-then-all.result c.count.result c.count.ensures.ran (YieldsList-from_str_split 44 c.args.list.now (lit< tt) c.split-then-all.ensures.text c.split-then-all.ensures.has_more c.split-then-all.ensures.pattern) in
    ap Some count ∙ sym (cells_counted (parts_of c.args.list.now) (sym each ∙ c.if-all.true))

pub returns-else-all : goal.returns-else-all
returns-else-all c =
    let each = all_from_yields_List (λ (part : List ℕ). is_some (cell_of part)) _ _ c.all.result c.all.ensures.ran (YieldsList-from_str_split 44 c.args.list.now (lit< tt) c.split.ensures.text c.split.ensures.has_more c.split.ensures.pattern) (λ x b q k. search (rules, tests)) in
    sym (cells_refused (parts_of c.args.list.now) (sym each ∙ c.if-all.false))
