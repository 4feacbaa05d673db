-- What tables hold: four finite maps over a site. They serve handover (TS 44.018 clause 3.4.4, TS 48.008 clause 3.1.5) and
-- the activation and release of channels (TS 48.058 clause 4).
use Rattle.std.specs.Prelude.{ℕ, Option, Some, None, refl}
use Rattle.std.specs.Ordering.{nat_cmp}
use Rattle.std.specs.Coded.{Coded, code_by, coded×, coded_ℕ}
use Rattle.std.specs.FinMap as map
use Rattle.channel_fsm.specs.declared.ChanId.{ChanId}
use Rattle.channel_fsm.specs.declared.ChanState.{ChanState}
use Rattle.channel_fsm.specs.declared.ChanState.TheVariants.{Free}
use Rattle.dense_tables.specs.declared.references.Reference.{Reference}
use Rattle.radio_tables.specs.declared.kinds.CallRecord.{CallRecord}
use Rattle.attempt_journal.specs.declared.Timer.{Timer}
use Rattle.channel_fsm.specs.contracts.ChanState.{the_row as state_row}
use Rattle.radio_tables.specs.contracts.kinds.CallRecord.{the_row as record_row}
use Rattle.attempt_journal.specs.contracts.Timer.{the_row as timer_row}
use Rattle.cell_table.specs.Site.{SiteView, site_code}
use Rattle.radio_tables.specs.Keys.{chan_cmp, reference_cmp, coded_chan, coded_reference}
use Rattle.radio_tables.specs.Maps.{put}
use Rattle.radio_tables.specs.Entries.{Kept}

pub record State : Type 0 where
  pub site : SiteView
  -- channels with their states; a free one has no entry
  pub channels : map.FinMap chan_cmp ChanState
  -- the record of each call
  pub calls : map.FinMap nat_cmp CallRecord
  -- the call of each handover reference in use (TS 44.018 clause 10.5.2.15)
  pub references : map.FinMap reference_cmp ℕ
  -- the armed timers (TS 44.018 clause 11.1.2, TS 48.008 clause 3.1.5): a call has at most one, so they stand by their calls
  pub timers : map.FinMap nat_cmp Timer

abbrev pub channels_code : Coded (map.FinMap chan_cmp ChanState)
channels_code = map.code coded_chan state_row.coded

abbrev pub references_code : Coded (map.FinMap reference_cmp ℕ)
references_code = map.code coded_reference coded_ℕ

abbrev pub state_code : Coded State
state_code =
    code_by
    (SiteView ×
    (map.FinMap chan_cmp ChanState × (map.FinMap nat_cmp CallRecord × (map.FinMap reference_cmp ℕ × map.FinMap nat_cmp Timer))))
    (coded× site_code
    (coded× channels_code
    (coded× (map.code coded_ℕ record_row.coded) (coded× references_code (map.code coded_ℕ timer_row.coded)))))
    (λ b. (b.site, (b.channels, (b.calls, (b.references, b.timers)))))
    (λ p. record { site = p.0; channels = p.1.0; calls = p.1.1.0; references = p.1.1.1.0; timers = p.1.1.1.1 })
    (λ _. refl)

-- the book of a site in which nothing is in use
abbrev pub empty_book : SiteView → State
empty_book site = record { site = site; channels = map.empty; calls = map.empty; references = map.empty; timers = map.empty }

-- a channel without an entry has the state of a free one
abbrev pub or_free : Option ChanState → ChanState
or_free None = Free
or_free (Some s) = s

abbrev pub state_of : State → ChanId → ChanState
state_of b x = or_free (map.get b.channels x)

abbrev pub record_of : State → ℕ → Option CallRecord
record_of b c = map.get b.calls c

-- a channel has this state from now on, or is in use no more
abbrev pub with_channel : State → ChanId → Option ChanState → State
with_channel b x s = record b { channels = put b.channels x s }

-- this is kept of a call from now on
abbrev pub with_kept : State → ℕ → Kept → State
with_kept b c k = record b { calls = map.insert b.calls c k.call; timers = put b.timers c k.timer }

-- nothing is kept of the call
abbrev pub without_call : State → ℕ → State
without_call b c = record b { calls = map.remove b.calls c; timers = map.remove b.timers c }

-- the reference is this call's from now on, or no longer in use
abbrev pub with_reference : State → Reference → Option ℕ → State
with_reference b r c = record b { references = put b.references r c }
