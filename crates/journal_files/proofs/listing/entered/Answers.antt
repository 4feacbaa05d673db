use Rattle.std.proofs.Common.{◌==◌, ◌∙◌, ap, rules}
use borrow.Author.Tests.{tests}
use Rattle.std.specs.List.{filter_map}
use Rattle.std.proofs.lemmas.Iterator.Consumers.{YieldsList-at, YieldsList-end}
use Rattle.std.proofs.lemmas.Iterator.Splits.{YieldsList-from_slice_split}
use Rattle.journal_files.specs.Listings.{number_of}
use Rattle.journal_files.proofs.Numbered.{numbers_more}
use Rattle.journal_files.proofs.listing.entered.Goals as goal

pub loop-name-preserved : goal.loop-name-preserved
loop-name-preserved c = record {
  can_next = search (rules, tests);
  is_finite = tt;
  numbers = numbers_more c.loop-name.yielded c.in-Some.name _ _ c.loop-name.invariant.numbers c.in_ok-enter.ensures.spans;
}

pub returns : goal.returns
returns c =
    let all = YieldsList-end (YieldsList-at c.into_iter-name-iterator.ensures.into_iter_gives (YieldsList-from_slice_split _ (λ b. b == 0) c.args.names.now c.split-name-items.ensures.rest c.split-name-items.ensures.done c.split-name-items.ensures.closure (λ x b q k. search (rules, tests)))) c.loop-name.yielded _ c.loop-name.yielded_by _ _ c.in-None.is c.next.ensures.steps in
    record { spans = c.loop-name.invariant.numbers ∙ ap (filter_map number_of) all.0 }
