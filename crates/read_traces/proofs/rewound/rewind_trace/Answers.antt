use Rattle.std.proofs.Common.{subst}
use Rattle.radio_book.specs.Run.{run_replies}
use Rattle.trace_entries.specs.Entries as said
use Rattle.read_traces.specs.Rewound.{NoneOpens}
use Rattle.read_traces.proofs.rewound.rewind_trace.Goals as goal

pub returns-clause-refused : goal.returns-clause-refused
returns-clause-refused g c = λ refused readable told.
    subst (λ book. said.HasReplies c.args.texts.trace.now (run_replies book (said.events_of (said.entries_of c.args.texts.trace.now))) → NoneOpens book (said.entries_of c.args.texts.trace.now) c.args.line) c.in_ok-book.ensures.book (c.rewind_entries.ensures.refused refused) told
