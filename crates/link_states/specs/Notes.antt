-- Notes: the rows of their elements in the order in which they are read and written. Ours, of no standard.
use Rattle.std.specs.Prelude.{◌≡◌, ℕ, ◌<◌, Bool, List, [], ◌∷◌, Option, IfSome, Result, Ok}
use Rattle.octet_elements.specs.Elements.{Element, all_octets}
use Rattle.octet_elements.specs.Lookup.{Lookup}
use Rattle.octet_elements.specs.Rows.{Row, ◌>>=◌, octet, u16_be, ◌▸◌}
use Rattle.octet_elements.specs.Texts.{Codec, IsTextOf}
use Rattle.octet_elements.specs.declared.values.ValueFault.{ValueFault}
use Rattle.attempt_journal.specs.declared.Timer.{Timer}
use Rattle.link_tables.specs.declared.Lchan.{Lchan}
use Rattle.link_states.specs.declared.calls.CallNote.{CallNote}
use Rattle.link_states.specs.declared.channels.BarNote.{BarNote}
use Rattle.link_states.specs.declared.channels.ChannelNote.{ChannelNote}
use Rattle.link_states.specs.declared.fault.StateFault.{StateFault}
use Rattle.link_states.specs.declared.fault.StateFault.TheVariants as fault
use Rattle.link_states.specs.Forms.{states, fault_of}
use Rattle.link_states.specs.Values.{flag_in, flag_octet, lchan_in, lchan_octet, bar_in, bar_octet, bar_number, timer_in, timer_octet}

-- whether something is so
abbrev pub flag : ℕ → Row Bool
flag i = record { read = λ found. flag_in i (found.first i); written = λ is_so. (i, flag_octet is_so ∷ []) ∷ [] }

abbrev pub lchan : Row Lchan
lchan = record { read = λ found. lchan_in (found.first 1); written = λ l. (1, lchan_octet l ∷ []) ∷ [] }

-- a bar: its kind, and its call's number
abbrev pub bar : Row (Option BarNote)
bar = record {
  read = λ found. (octet 3 ▸ u16_be 4).read found >>= λ (kind, call). bar_in kind call;
  written = λ b. (octet 3 ▸ u16_be 4).written (bar_octet b, bar_number b);
}

abbrev pub timer : Row (Option Timer)
timer = record { read = λ found. timer_in (found.first 11); written = λ t. (11, timer_octet t ∷ []) ∷ [] }

-- a channel: what its station was told, its link, its bar, whether the bar's clock runs, it is to be barred, a failure is kept
abbrev pub channel_rows : Row (Lchan × (Bool × (Option BarNote × (Bool × (Bool × Bool)))))
channel_rows = lchan ▸ flag 2 ▸ bar ▸ flag 5 ▸ flag 6 ▸ flag 7

abbrev pub channel_said : Lookup → Result ChannelNote ValueFault
channel_said found =
    channel_rows.read found >>= λ (l, (has_link, (b, (runs, (to_be, keeps))))). Ok (record { lchan = l; has_link = has_link; bar = b; bar_runs = runs; is_to_be_barred = to_be; keeps_failure = keeps })

abbrev pub channel_elements : ChannelNote → List Element
channel_elements note = channel_rows.written (note.lchan, (note.has_link, (note.bar, (note.bar_runs, (note.is_to_be_barred, note.keeps_failure)))))

-- a call: whether its mobile is away, its reports are heeded, it came from the air, and its timer
abbrev pub call_rows : Row (Bool × (Bool × (Bool × Option Timer)))
call_rows = flag 8 ▸ flag 9 ▸ flag 10 ▸ timer

abbrev pub call_said : Lookup → Result CallNote ValueFault
call_said found = call_rows.read found >>= λ (away, (reports, (air, t))). Ok (record { is_away = away; reports = reports; is_from_air = air; timer = t })

abbrev pub call_elements : CallNote → List Element
call_elements note = call_rows.written (note.is_away, (note.reports, (note.is_from_air, note.timer)))

-- a note that elements say: it has no head, and keeps no list
abbrev pub codec_of : {V : Type 0} → (Lookup → Result V ValueFault) → Codec (Unit {0}) V StateFault
codec_of said = record {
  forms = states;
  Begins = λ kind octets body. octets ≡ body;
  HasHeadFault = λ octets f. ⊥;
  said = λ kind found. said found;
  KeepsList = λ v. ⊥;
  torn = fault.Torn;
  fault_of = fault_of;
  no_memory = fault.NoMemory;
}

abbrev pub channel_codec : Codec (Unit {0}) ChannelNote StateFault
channel_codec = codec_of channel_said

abbrev pub call_codec : Codec (Unit {0}) CallNote StateFault
call_codec = codec_of call_said

-- what is written
abbrev pub channel_text : ChannelNote → List ℕ
channel_text note = all_octets states (channel_elements note)

abbrev pub call_text : CallNote → List ℕ
call_text note = all_octets states (call_elements note)

-- the number of a bar's call is one
abbrev pub FitsBar : BarNote → Type 0
FitsBar b = b.call < 65536

-- what is written of a note is a text of it
abbrev pub ChannelsAreReadBack : Type 0
ChannelsAreReadBack = (note : ChannelNote) → IfSome note.bar FitsBar → IsTextOf channel_codec note (channel_text note)

abbrev pub CallsAreReadBack : Type 0
CallsAreReadBack = (note : CallNote) → IsTextOf call_codec note (call_text note)
