-- the rows of the table, each from one of its guards on
pub mod Rows
-- what has to be known of a change of one call, channel and reference, so that the book stays sound
pub mod Frame
-- what the proofs that steps keep a book sound share
pub mod SoundParts
-- the steps behind the activation of a target, and those towards another controller, keep a book sound
pub mod SoundHandover
-- what the facts of an event say of one another
pub mod FactsAgree
-- each step keeps a book sound
pub mod SoundSteps
-- the stored inverses of an attempt, run last first, are its undo
pub mod Inverses
-- what an event makes of a channel is a step of the channel that it may make
pub mod ChannelSteps
-- what a sound book says of the channels that an event reads
pub mod RecordFacts
-- a run in steps is a run of its events
pub mod Runs
-- totals over the values of a finite map, and what one changed entry makes of them
pub mod Totals
-- what each row of the table makes of what is owed; no event is accepted with a refusal
pub mod OwedRows
-- an inverse that changes what is kept of a call, out of the tables
pub mod PutBack
-- what running a call's inverses leads to
pub mod RunBack
-- in a sound book one of the first 97 handover references of a cell is free
pub mod Numbers
-- changes of different entries commute
pub mod Changes
-- what a taking away hides of a book, and rows that read the same without it
pub mod Agreement
-- Open, Clear and Look by another call agree, whatever is gone
pub mod OthersCalls
-- Take, Reserve, Activate and Undo by another call agree, whatever is gone
pub mod OthersAttempts
-- Confirm, Refuse, Detect, Released and Owner on another channel agree, whatever is gone
pub mod OthersStations
-- Command, Complete, Require, Order and Left of another call agree, whatever is gone
pub mod OthersHandover
-- while an attempt is open, and while its target is off, the rows of others agree
pub mod OthersPhases
-- an attempt that opens adds to the book what it has, and nothing else
pub mod OwnSteps
-- an attempt that goes on changes what it has, and nothing else in the book
pub mod GoingOn
-- every event of others agrees, whatever is gone
pub mod EachAgrees
-- lists of steps that happen one after another, and what the tests of a step say
pub mod StepFacts
-- while an attempt is open, steps of others lead alike without it, and its own change it alone
pub mod OpenPhase
-- while the release of a target is awaited, the steps that stay lead alike without the target
pub mod OffPhase
-- the others stand in the list of all steps, each at its place with its reply
pub mod Answered
-- an undone attempt leaves no trace: its list of events, part by part, runs alike without it
pub mod NoTrace
-- a refused event leaves the book as it is: no row accepts an event with a refusal as its answer
pub mod Refusing
-- the record that an undo shows says whether its target is left off
pub mod UndoShown
-- an undone attempt is found by the place of its opening, where no other opens
pub mod UndoneFacts
-- what opens and what takes back an attempt, by event; events with their replies as steps
pub mod FoundFacts
-- to follow an undone attempt from its opening on finds what its parts say
pub mod FollowFacts
-- what stays of a list without the attempt that opens at a place
pub mod RemainderFacts
-- one step of a walk along an undone attempt: it leads alike, or is the attempt's own and leads nowhere
pub mod Passing
-- where the settled attempts of a list stand at each of its steps
pub mod Standing
-- what a walk finds that follows the attempts is what remains, and what is held, without the settled ones
pub mod Remaining
-- the settled attempts of a list, taken out together, leave no trace
pub mod Together
-- there is a list of all settled attempts, and they leave no trace together
pub mod AllSettled
