use Rattle.std.proofs.Common.{refl}
use Rattle.journal_files.specs.Journals.{keep_of, spans_of}
use Rattle.journal_files.proofs.Spans.{none_goes, one_goes}
use Rattle.journal_files.proofs.journal.Journal.remove_old.Goals as goal

pub loop-number-init : goal.loop-number-init
loop-number-init g c = record { spans = none_goes (keep_of c.args.self.now) (spans_of c.args.self.now); file = refl; last = refl; waiting = refl; octets = refl; keep = refl }

pub loop-number-preserved : goal.loop-number-preserved
loop-number-preserved g c =
    let before = c.loop-number.invariant in
    record {
      spans = one_goes _ _ _ _ _ _ before.spans c.in-Some.ensures.spare before.keep c.remove.ensures.items;
      file = before.file;
      last = before.last;
      waiting = before.waiting;
      octets = before.octets;
      keep = before.keep;
    }
