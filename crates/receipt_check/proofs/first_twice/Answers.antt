use Rattle.std.proofs.Common.{◌∙◌}
use Rattle.std.proofs.lemmas.List.{length-set}
use Rattle.receipt_check.proofs.Gathered.{fresh_more, seen_more, place_within, fresh_here}
use Rattle.receipt_check.proofs.first_twice.Goals as goal

pub loop-receipt-preserved : goal.loop-receipt-preserved
loop-receipt-preserved g c =
    let i = c.loop-receipt.invariant in
    let within = place_within _ _ _ _ c.loop-receipt.seen.items c.requires c.loop-receipt-test.true i.long in record {
      fresh = fresh_more _ _ _ c.loop-receipt-test.true i.fresh (fresh_here _ _ _ _ _ _ within i.seen c.if-index.false c.index.ensures);
      long = length-set _ _ _ ∙ i.long;
      seen = seen_more _ _ _ _ c.loop-receipt-test.true within i.seen;
    }
