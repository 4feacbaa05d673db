use Rattle.std.proofs.Common.{lit<, rules, ℕ, List}
use borrow.Author.Tests.{tests}
use Rattle.std.proofs.lemmas.Iterator.{items_from_collect}
use Rattle.std.proofs.lemmas.Iterator.Consumers.{YieldsList-from_enumerate, YieldsList-from_filter_map, YieldsList-at}
use Rattle.std.proofs.lemmas.Iterator.Splits.{YieldsList-from_str_split}
use Rattle.trace_entries.specs.Entries.{entry_at}
use Rattle.trace_entries.proofs.entries.entries_of.Goals as goal

pub returns : goal.returns
returns g c =
    record {
      entries = items_from_collect {s = c.filter_map.result} _ c.collect.ensures.ran
          (YieldsList-from_filter_map _ (λ (p : ℕ × List ℕ). entry_at p.0 p.1)
          (YieldsList-at c.filter_map.ensures.source
          (YieldsList-from_enumerate
          (YieldsList-at c.enumerate.ensures.source
          (YieldsList-from_str_split 10 c.args.trace.now (lit< tt) c.split.ensures.text c.split.ensures.has_more c.split.ensures.pattern))
          c.enumerate.ensures.count)) c.filter_map.ensures.closure (λ x r q k. search (rules, tests)));
    }
