-- Attempts that were taken back, and the channels on which their calls are served. Ours, of no standard.
use Rattle.std.specs.Prelude.{ℕ, List, Option, Some, None, if◌then◌else◌}
use Rattle.channel_fsm.specs.declared.ChanId.{ChanId}
use Rattle.cell_table.specs.Site.{SiteView}
use Rattle.radio_book.specs.declared.event.Event.{Event}
use Rattle.radio_book.specs.declared.event.Reply.{Reply}
use Rattle.radio_book.specs.declared.event.Reply.TheVariants.{Done, Record, Owned, Refused}
use Rattle.radio_book.specs.Facts.{event_facts}
use Rattle.radio_book.specs.State.{State}
use Rattle.radio_book.specs.Table.{is_target}
use Rattle.link_tables.specs.declared.AttemptEnd.{AttemptEnd}
use Rattle.link_tables.specs.declared.AttemptEnd.TheVariants.{CameBack, TakenBack}
use Rattle.link_machine.specs.declared.calls.CallFacts.{CallFacts}
use Rattle.link_machine.specs.declared.channel.Channel.{Channel}
use Rattle.link_machine.specs.declared.moving.Done.{Done as WhatIsDone}
use Rattle.link_machine.specs.declared.moving.Word.TheVariants.{AttemptEnded}
use Rattle.link_machine.specs.Machine.{one_moved, one_done}
use Rattle.link_machine.specs.Moving.{told}

-- the channel on which the call that a reply shows is served
abbrev pub shown_on : Reply → Option ChanId
shown_on Done = None
shown_on (Record shown state) = shown.serving
shown_on (Owned c) = None
shown_on (Refused why) = None

abbrev pub shown_by : Option ℕ → Reply → Option ChanId
shown_by None reply = None
shown_by (Some c) reply = shown_on reply

-- the channel on which a call is served whose attempt is taken back by this event, as its reply shows
abbrev pub undone_on : Event → Reply → Option ChanId
undone_on e reply = shown_by (event_facts e).undoes reply

-- The mobile came back, if it said so on the channel on which its call is served (44.018 clause 3.4.4.4); else nobody heard it.
abbrev pub end_on : Option ChanId → ChanId → AttemptEnd
end_on back x = if is_target x back then CameBack else TakenBack

-- the channel, where there is one, behind the end of its call's attempt
abbrev pub ended_at : State → List CallFacts → Option ChanId → SiteView → List Channel → Option ChanId → List Channel
ended_at b calls back site cs None = cs
ended_at b calls back site cs (Some x) = one_moved (told b calls (AttemptEnded (end_on back x))) site cs x

-- and this is what it did
abbrev pub done_at : State → List CallFacts → Option ChanId → SiteView → List Channel → Option ChanId → Option WhatIsDone
done_at b calls back site cs None = None
done_at b calls back site cs (Some x) = one_done (told b calls (AttemptEnded (end_on back x))) site cs x
