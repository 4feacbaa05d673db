-- How an event is written. Ours, of no standard. A text is the list of its bytes.
use Rattle.std.specs.Prelude.{◌≡◌, ◌<◌, ℕ, List, [], ◌∷◌, codes}
use Rattle.std.specs.List.{join_with_byte}
use Rattle.std.specs.Fmt.{decimal}
use Rattle.channel_fsm.specs.declared.ChanId.{ChanId}
use Rattle.channel_fsm.specs.Text.{chan_text}
use Rattle.attempt_journal.specs.declared.Timer.TheVariants as timer
use Rattle.radio_book.specs.declared.event.Kind.{Kind}
use Rattle.radio_book.specs.declared.event.Kind.TheVariants as kind
use Rattle.radio_book.specs.declared.event.Why.{Why}
use Rattle.radio_book.specs.declared.event.Why.TheVariants as why
use Rattle.radio_book.specs.declared.event.Event.{Event}
use Rattle.radio_book.specs.declared.event.Event.TheVariants as event

abbrev pub kind_word : Kind → List ℕ
kind_word kind.Internal = codes "internal"
kind_word kind.Incoming = codes "incoming"

abbrev pub why_word : Why → List ℕ
why_word why.Asked = codes "asked"
why_word (why.Expired timer.T3103) = codes "t3103"
why_word (why.Expired timer.T7) = codes "t7"
why_word (why.Expired timer.T8) = codes "t8"

-- the words of an event: its kind, and what it names; a channel is one word
abbrev pub words : Event → List (List ℕ)
words (event.Open c x) = codes "open" ∷ decimal c ∷ chan_text x ∷ []
words (event.Clear c) = codes "clear" ∷ decimal c ∷ []
words (event.Look c) = codes "look" ∷ decimal c ∷ []
words (event.Take c k x) = codes "take" ∷ decimal c ∷ kind_word k ∷ chan_text x ∷ []
words (event.Reserve c n) = codes "reserve" ∷ decimal c ∷ decimal n ∷ []
words (event.Activate c) = codes "activate" ∷ decimal c ∷ []
words (event.Command c) = codes "command" ∷ decimal c ∷ []
words (event.Complete c) = codes "complete" ∷ decimal c ∷ []
words (event.Undo c w) = codes "undo" ∷ decimal c ∷ why_word w ∷ []
words (event.Confirm x) = codes "confirm" ∷ chan_text x ∷ []
words (event.Refuse x) = codes "refuse" ∷ chan_text x ∷ []
words (event.Detect x) = codes "detect" ∷ chan_text x ∷ []
words (event.Released x) = codes "released" ∷ chan_text x ∷ []
words (event.Owner x) = codes "owner" ∷ chan_text x ∷ []
words (event.Require c) = codes "require" ∷ decimal c ∷ []
words (event.Order c) = codes "order" ∷ decimal c ∷ []
words (event.Left c) = codes "left" ∷ decimal c ∷ []

-- the text of an event: its words, with one blank between any two
abbrev pub event_text : Event → List ℕ
event_text e = join_with_byte 32 (words e)

-- RANGES

abbrev pub FitsCall : ℕ → Type 0
FitsCall c = c < 65536

abbrev pub FitsOctet : ℕ → Type 0
FitsOctet n = n < 256

pub record FitsChan (x : ChanId) : Type 0 where
  pub cell : FitsOctet x.cell
  pub trx : FitsOctet x.trx
  pub tn : FitsOctet x.tn

-- the numbers of an event are those that its types have
abbrev pub Fits : Event → Type 0
Fits (event.Open c x) = FitsCall c × FitsChan x
Fits (event.Clear c) = FitsCall c
Fits (event.Look c) = FitsCall c
Fits (event.Take c k x) = FitsCall c × FitsChan x
Fits (event.Reserve c n) = FitsCall c × FitsOctet n
Fits (event.Activate c) = FitsCall c
Fits (event.Command c) = FitsCall c
Fits (event.Complete c) = FitsCall c
Fits (event.Undo c w) = FitsCall c
Fits (event.Confirm x) = FitsChan x
Fits (event.Refuse x) = FitsChan x
Fits (event.Detect x) = FitsChan x
Fits (event.Released x) = FitsChan x
Fits (event.Owner x) = FitsChan x
Fits (event.Require c) = FitsCall c
Fits (event.Order c) = FitsCall c
Fits (event.Left c) = FitsCall c

-- no two events have the same text
abbrev pub TextIsUnique : Type 0
TextIsUnique = (e f : Event) → Fits e → Fits f → event_text e ≡ event_text f → e ≡ f
