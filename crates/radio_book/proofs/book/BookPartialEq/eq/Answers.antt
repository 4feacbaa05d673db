use Rattle.std.proofs.Common.{◌≡◌, ◌↔◌, IsTrue, rules}
use Rattle.std.proofs.lemmas.Bool.Decides.{same_from_decides}
use Rattle.radio_tables.specs.State.{state_code}
use Rattle.radio_tables.specs.Same.{is_same, is_same-Decides}
use Rattle.radio_book.proofs.book.BookPartialEq.eq.Goals as goal

pub returns-clause-value : goal.returns-clause-value
returns-clause-value g c =
    let told : IsTrue c.is_same.result ↔ (c.args.self.now ≡ c.args.other.now) = search rules in
    same_from_decides c.is_same.result (is_same state_code c.args.self.now c.args.other.now) told (is_same-Decides state_code c.args.self.now c.args.other.now)
