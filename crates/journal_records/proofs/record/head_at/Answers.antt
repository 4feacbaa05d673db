use Rattle.std.proofs.Common.{◌≡◌, sym, ◌∙◌, ap, arith}
use Rattle.std.proofs.lemmas.Bool.{false≢true}
use Rattle.journal_records.specs.Records.{head_text}
use Rattle.journal_records.proofs.Heads.{fields}
use Rattle.journal_records.proofs.record.head_at.Goals as goal

pub returns-in_default : goal.returns-in_default
returns-in_default c = λ n s m b has.
    let f = fields c.args.octets.now n s m b has in
    let large = c.in_default.ensures in
    omega (arith, large, f.sum, has.sum_fits)

pub returns-else-is_same : goal.returns-else-is_same
returns-else-is_same c = λ n s m b has.
    let f = fields c.args.octets.now n s m b has in
    let number = c.number_of-number.ensures ∙ f.number in
    let size = c.number_of-size.ensures ∙ f.size in
    let sum = c.in-Some.ensures ∙ f.sum in
    let read : c.head_of.result.items ≡ head_text n s m =
    c.head_of.ensures.items ∙ ap (λ k. head_text k c.number_of-size.result c.in-Some.sum) number ∙ ap (λ k. head_text n k c.in-Some.sum) size ∙ ap (head_text n s) sum in
    let same = c.split_at.ensures.front ∙ f.head ∙ sym (c.as_slice.ensures.value ∙ read) in
    false≢true (sym c.if-is_same.false ∙ c.is_same.ensures.1 same)
