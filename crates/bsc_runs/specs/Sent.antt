-- What a controller said, as far as its links ask: CHANNEL RELEASE (TS 44.018 clause 9.1.7), in the canonical text of a DATA REQUEST
-- (TS 48.058 clause 8.3.1).
use Rattle.std.specs.Prelude.{ℕ, ◌/◌, ◌%◌, ◌==◌, Bool, false, ◌&&◌, List, [], ◌∷◌, Option, Some, None, slice_get, if◌then◌else◌}
use Rattle.std.specs.Option.{option_and_then, option_map, option_or}
use Rattle.octet_elements.specs.ChannelTypes.{sub_of}
use Rattle.channel_fsm.specs.declared.ChanId.{ChanId}
use Rattle.timeslots.specs.declared.Sub.{Sub}
use Rattle.exchange.specs.declared.Outbound.{Outbound}
use Rattle.exchange.specs.declared.Outbound.TheVariants as outbound
use Rattle.run_listeners.specs.declared.turn.Answer.{Answer}
use Rattle.run_listeners.specs.declared.turn.Answer.TheVariants as answer

abbrev pub is_octet : ℕ → Option ℕ → Bool
is_octet o None = false
is_octet o (Some found) = found == o

-- this octet stands at a place
abbrev pub is_at : List ℕ → ℕ → ℕ → Bool
is_at octets place o = is_octet o (slice_get octets place)

-- head, channel number, link identifier, L3 information
abbrev pub is_channel_release : List ℕ → Bool
is_channel_release octets = is_at octets 0 0x03 && is_at octets 1 0x01 && is_at octets 2 0x01 && is_at octets 4 0x02 && is_at octets 6 0x0B && is_at octets 9 0x06 && is_at octets 10 0x0D

-- the channel of a TRX that a channel number names (TS 48.058 clause 9.3.1)
abbrev pub chan_named : ℕ → ℕ → ℕ → Option ChanId
chan_named cell trx n = option_map (λ (sub : Sub). record { cell = cell; trx = trx; tn = n % 8; sub = sub }) (sub_of (n / 8))

-- the channel on which octets to a TRX send the mobile away
abbrev pub sent_away_by : ℕ → ℕ → List ℕ → Option ChanId
sent_away_by cell trx octets = if is_channel_release octets then option_and_then (chan_named cell trx) (slice_get octets 3) else None

abbrev pub sent_away_on : {A : Type 0} → Outbound A → Option ChanId
sent_away_on (outbound.Abis cell trx octets) = sent_away_by cell trx octets
sent_away_on (outbound.A call octets) = None

-- the first that does
abbrev pub sent_away_in : {A : Type 0} → List (Outbound A) → Option ChanId
sent_away_in [] = None
sent_away_in (m ∷ messages) = option_or (sent_away_on m) (sent_away_in messages)

abbrev pub sent_away : {A : Type 0} → Answer A → Option ChanId
sent_away (answer.Sent messages) = sent_away_in messages.items
sent_away (answer.Undecoded bad) = None
