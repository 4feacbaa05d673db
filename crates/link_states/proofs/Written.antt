-- What is written is read.
use Rattle.std.proofs.Common.{◌≡◌, ℕ, ◌+◌, ◌*◌, ◌/◌, ◌%◌, Bool, true, false, Option, Some, None, Ok, refl, ap, ◌∙◌, arith, [], ◌∷◌}
use Rattle.std.specs.List.{AllByRecursion}
use Rattle.octet_elements.specs.Elements.{Fits}
use Rattle.octet_elements.specs.Lookup.{values_in}
use Rattle.attempt_journal.specs.declared.Timer.{Timer}
use Rattle.attempt_journal.specs.declared.Timer.TheVariants.{T3103, T7, T8}
use Rattle.link_tables.specs.declared.Lchan.{Lchan}
use Rattle.link_tables.specs.declared.Lchan.TheVariants as state
use Rattle.link_states.specs.declared.calls.CallNote.{CallNote}
use Rattle.link_states.specs.declared.channels.BarNote.{BarNote}
use Rattle.link_states.specs.declared.channels.ChannelNote.{ChannelNote}
use Rattle.link_states.specs.Forms.{states}
use Rattle.link_states.specs.Values.{named, flag_octet, lchan_octet, kind_octet, bar_in, bar_octet, bar_number, timer_octet}
use Rattle.link_states.specs.Notes.{channel_said, channel_elements, channel_text, call_said, call_elements, call_text, ChannelsAreReadBack, CallsAreReadBack}

-- VALUES

flag_again : (i : ℕ) (is_so : Bool) → named i (false ∷ true ∷ []) (flag_octet is_so) ≡ Ok is_so
flag_again i true = refl
flag_again i false = refl

lchan_again : (l : Lchan) → named 1 (state.Rest ∷ state.Activating ∷ state.On ∷ state.Mobile ∷ state.Guard ∷ state.Releasing ∷ state.Closing ∷ state.Reopening ∷ state.Lost ∷ []) (lchan_octet l) ≡ Ok l
lchan_again state.Rest = refl
lchan_again state.Activating = refl
lchan_again state.On = refl
lchan_again state.Mobile = refl
lchan_again state.Guard = refl
lchan_again state.Releasing = refl
lchan_again state.Closing = refl
lchan_again state.Reopening = refl
lchan_again state.Lost = refl

timer_again : (t : Option Timer) → named 11 (None ∷ Some T3103 ∷ Some T7 ∷ Some T8 ∷ []) (timer_octet t) ≡ Ok t
timer_again None = refl
timer_again (Some T3103) = refl
timer_again (Some T7) = refl
timer_again (Some T8) = refl

number_again : (n : ℕ) → 256 * (n / 256) + n % 256 ≡ n
number_again n = omega arith

bar_again : (b : Option BarNote) → bar_in (bar_octet b) (256 * (bar_number b / 256) + bar_number b % 256) ≡ Ok b
bar_again None = refl
bar_again (Some b) = ap (bar_in (kind_octet b.is_lasting)) (number_again b.call) ∙ by_kind b.call b.is_lasting
  where
    by_kind : (call : ℕ) (is_lasting : Bool) → bar_in (kind_octet is_lasting) call ≡ Ok (Some (record { call = call; is_lasting = is_lasting }))
    by_kind call true = refl
    by_kind call false = refl

-- NOTES

channel_fits : (note : ChannelNote) → AllByRecursion (Fits states) (channel_elements note)
channel_fits note = (refl, (refl, (refl, (refl, (refl, (refl, (refl, tt)))))))

channel_says : (note : ChannelNote) → channel_said (values_in (channel_elements note)) ≡ Ok note
channel_says note =
    rw (lchan_again note.lchan, flag_again 2 note.has_link, bar_again note.bar, flag_again 5 note.bar_runs, flag_again 6 note.is_to_be_barred, flag_again 7 note.keeps_failure) refl

pub channels_are_read_back : ChannelsAreReadBack
channels_are_read_back note f = record {
  kind = tt;
  body = channel_text note;
  head = refl;
  says = record { elements = channel_elements note; split = record { each = channel_fits note; spelling = refl }; says = channel_says note };
}

call_fits : (note : CallNote) → AllByRecursion (Fits states) (call_elements note)
call_fits note = (refl, (refl, (refl, (refl, tt))))

call_says : (note : CallNote) → call_said (values_in (call_elements note)) ≡ Ok note
call_says note = rw (flag_again 8 note.is_away, flag_again 9 note.reports, flag_again 10 note.is_from_air, timer_again note.timer) refl

pub calls_are_read_back : CallsAreReadBack
calls_are_read_back note = record {
  kind = tt;
  body = call_text note;
  head = refl;
  says = record { elements = call_elements note; split = record { each = call_fits note; spelling = refl }; says = call_says note };
}
