-- How the reader reads, part by part: for its own functions alone. What a text is read as is `event_of` of `Events`.
use Rattle.std.specs.Prelude.{◌==◌, ◌&&◌, ◌||◌, ℕ, Bool, nat_lt, not, if◌then◌else◌, List, [], ◌∷◌, length, slice_index, codes, bytes_eq, Option, Some, None, option_map}
use Rattle.std.specs.List.{list_all}
use Rattle.std.specs.Char.{is_ascii_digit}
use Rattle.std.specs.Str.Parse.{digits_value}
use Rattle.timeslots.specs.declared.Sub.{Sub}
use Rattle.timeslots.specs.declared.Sub.TheVariants.{Full, Half0, Half1}
use Rattle.channel_fsm.specs.declared.ChanId.{ChanId}
use Rattle.attempt_journal.specs.declared.Timer.TheVariants as timer
use Rattle.radio_book.specs.declared.event.Kind.{Kind}
use Rattle.radio_book.specs.declared.event.Kind.TheVariants as kind
use Rattle.radio_book.specs.declared.event.Why.{Why}
use Rattle.radio_book.specs.declared.event.Why.TheVariants as why
use Rattle.radio_book.specs.declared.event.Event.{Event}
use Rattle.radio_book.specs.declared.event.Event.TheVariants as event

infixl 10 ◌>>=◌
abbrev pub ◌>>=◌ : {A B : Type 0} → Option A → (A → Option B) → Option B
None >>= f = None
(Some x) >>= f = f x

-- a text up to the first byte of this value, and what stands behind that
abbrev pub cut_at : ℕ → List ℕ → Option (List ℕ × List ℕ)
cut_at c [] = None
cut_at c (b ∷ bs) = if b == c then Some ([], bs) else option_map (λ cut. (b ∷ cut.0, cut.1)) (cut_at c bs)

-- decimal digits alone, and no zero in front of another
abbrev pub is_plain : List ℕ → Bool
is_plain text = list_all is_ascii_digit text && (nat_lt (length text) 2 || not (slice_index text 0 == 48))

-- the number that a text writes, where that is below the limit
abbrev pub number_of : ℕ → List ℕ → Option ℕ
number_of limit text = if is_plain text && (nat_lt 0 (length text) && nat_lt (digits_value 10 text) limit) then Some (digits_value 10 text) else None

-- the half of a timeslot that a text writes
abbrev pub half_of : List ℕ → Option Sub
half_of text = if bytes_eq text (codes "0") then Some Half0 else if bytes_eq text (codes "1") then Some Half1 else None

-- TN is the whole timeslot, TN/0 and TN/1 are its halves
abbrev pub timeslot_at : Option (List ℕ × List ℕ) → List ℕ → Option (ℕ × Sub)
timeslot_at None text = number_of 256 text >>= (λ tn. Some (tn, Full))
timeslot_at (Some p) text = number_of 256 p.0 >>= (λ tn. half_of p.1 >>= (λ sub. Some (tn, sub)))

unfoldable pub timeslot_of : List ℕ → Option (ℕ × Sub)
timeslot_of text = timeslot_at (cut_at 47 text) text

-- CELL/TRX/ and a timeslot or a half of one
unfoldable pub channel_of : List ℕ → Option ChanId
channel_of text =
    cut_at 47 text >>= (λ p. cut_at 47 p.1 >>= (λ q. number_of 256 p.0 >>= (λ cell. number_of 256 q.0 >>= (λ trx. timeslot_of q.1 >>= (λ slot.
    Some (record { cell = cell; trx = trx; tn = slot.0; sub = slot.1 }))))))

abbrev pub kind_of : List ℕ → Option Kind
kind_of text = if bytes_eq text (codes "internal") then Some kind.Internal else if bytes_eq text (codes "incoming") then Some kind.Incoming else None

abbrev pub why_of : List ℕ → Option Why
why_of text =
    if bytes_eq text (codes "asked") then Some why.Asked
    else if bytes_eq text (codes "t3103") then Some (why.Expired timer.T3103)
    else if bytes_eq text (codes "t7") then Some (why.Expired timer.T7)
    else if bytes_eq text (codes "t8") then Some (why.Expired timer.T8)
    else None

-- CALL CHANNEL
unfoldable pub open_of : List ℕ → Option Event
open_of text = cut_at 32 text >>= (λ p. number_of 65536 p.0 >>= (λ c. channel_of p.1 >>= (λ x. Some (event.Open c x))))

-- CALL KIND CHANNEL
unfoldable pub take_of : List ℕ → Option Event
take_of text =
    cut_at 32 text >>= (λ p. cut_at 32 p.1 >>= (λ q. number_of 65536 p.0 >>= (λ c. kind_of q.0 >>= (λ k. channel_of q.1 >>= (λ x.
    Some (event.Take c k x))))))

-- CALL NUMBER
unfoldable pub reserve_of : List ℕ → Option Event
reserve_of text = cut_at 32 text >>= (λ p. number_of 65536 p.0 >>= (λ c. number_of 256 p.1 >>= (λ n. Some (event.Reserve c n))))

-- CALL WHY
unfoldable pub undo_of : List ℕ → Option Event
undo_of text = cut_at 32 text >>= (λ p. number_of 65536 p.0 >>= (λ c. why_of p.1 >>= (λ w. Some (event.Undo c w))))

-- CALL
abbrev pub by_call : (ℕ → Event) → List ℕ → Option Event
by_call make text = option_map make (number_of 65536 text)

-- CHANNEL
abbrev pub on_channel : (ChanId → Event) → List ℕ → Option Event
on_channel make text = option_map make (channel_of text)

-- each kind's word, and what is read from the text behind its blank
abbrev pub kinds : List (List ℕ × (List ℕ → Option Event))
kinds =
    (codes "open", open_of) ∷ (codes "clear", by_call event.Clear) ∷ (codes "look", by_call event.Look)
    ∷ (codes "take", take_of) ∷ (codes "reserve", reserve_of) ∷ (codes "activate", by_call event.Activate)
    ∷ (codes "undo", undo_of) ∷ (codes "confirm", on_channel event.Confirm) ∷ (codes "refuse", on_channel event.Refuse)
    ∷ (codes "released", on_channel event.Released) ∷ (codes "command", by_call event.Command)
    ∷ (codes "complete", by_call event.Complete) ∷ (codes "detect", on_channel event.Detect)
    ∷ (codes "owner", on_channel event.Owner) ∷ (codes "require", by_call event.Require)
    ∷ (codes "order", by_call event.Order) ∷ (codes "left", by_call event.Left) ∷ []

abbrev pub event_among : List (List ℕ × (List ℕ → Option Event)) → List ℕ → List ℕ → Option Event
event_among [] word text = None
event_among (k ∷ ks) word text = if bytes_eq word k.0 then k.1 text else event_among ks word text

-- the event of a first word and of the text behind its blank
abbrev pub event_at : List ℕ → List ℕ → Option Event
event_at word text = event_among kinds word text
