-- All events, and the one that a text is the text of. Lists so long are only spoken of: no program makes them.
use Rattle.std.specs.Prelude.{◌≡◌, ◌↔◌, ℕ, List, [], ◌∷◌, map, Option, Some, bytes_eq}
use Rattle.std.specs.List.{find, flat_map, range_with_len}
use Rattle.timeslots.specs.declared.Sub.TheVariants.{Full, Half0, Half1}
use Rattle.channel_fsm.specs.declared.ChanId.{ChanId}
use Rattle.attempt_journal.specs.declared.Timer.TheVariants as timer
use Rattle.radio_book.specs.declared.event.Kind.TheVariants as kind
use Rattle.radio_book.specs.declared.event.Why.TheVariants as why
use Rattle.radio_book.specs.declared.event.Event.{Event}
use Rattle.radio_book.specs.declared.event.Event.TheVariants as event
use Rattle.event_text.specs.Text.{event_text, Fits}

-- the numbers below a limit
unfoldable pub all_below : ℕ → List ℕ
all_below limit = range_with_len 0 limit

abbrev pub all_calls : List ℕ
all_calls = all_below 65536

abbrev pub all_octets : List ℕ
all_octets = all_below 256

-- the channels of a timeslot: it is whole, or its halves
abbrev pub channels_at : ℕ → ℕ → ℕ → List ChanId
channels_at cell trx tn = map (λ sub. record { cell = cell; trx = trx; tn = tn; sub = sub }) (Full ∷ Half0 ∷ Half1 ∷ [])

-- those of a TRX, and of a cell
abbrev pub channels_of_trx : ℕ → ℕ → List ChanId
channels_of_trx cell trx = flat_map (channels_at cell trx) all_octets

abbrev pub channels_of_cell : ℕ → List ChanId
channels_of_cell cell = flat_map (channels_of_trx cell) all_octets

unfoldable pub all_channels : List ChanId
all_channels = flat_map channels_of_cell all_octets

-- the events of a kind, for each call and each of these
abbrev pub by_calls : {X : Type 0} → (ℕ → X → Event) → List X → List Event
by_calls make xs = flat_map (λ c. map (make c) xs) all_calls

-- all events that fit, kind by kind
unfoldable pub all_kinds : List (List Event)
all_kinds =
    by_calls event.Open all_channels ∷ map event.Clear all_calls ∷ map event.Look all_calls
    ∷ by_calls (λ c x. event.Take c kind.Internal x) all_channels ∷ by_calls (λ c x. event.Take c kind.Incoming x) all_channels
    ∷ by_calls event.Reserve all_octets ∷ map event.Activate all_calls ∷ map event.Command all_calls ∷ map event.Complete all_calls
    ∷ by_calls event.Undo (why.Asked ∷ why.Expired timer.T3103 ∷ why.Expired timer.T7 ∷ why.Expired timer.T8 ∷ [])
    ∷ map event.Confirm all_channels ∷ map event.Refuse all_channels ∷ map event.Detect all_channels
    ∷ map event.Released all_channels ∷ map event.Owner all_channels ∷ map event.Require all_calls ∷ map event.Order all_calls
    ∷ map event.Left all_calls ∷ []

abbrev pub all_events : List Event
all_events = flat_map (λ events. events) all_kinds

-- the event that a text is read as: of all, the one whose text it is
unfoldable pub event_of : List ℕ → Option Event
event_of text = find (λ e. bytes_eq text (event_text e)) all_events

-- an event's text is read as that event, and no other text is
abbrev pub ReadsTexts : Type 0
ReadsTexts = (text : List ℕ) (e : Event) → (event_of text ≡ Some e) ↔ (Fits e × (text ≡ event_text e))
