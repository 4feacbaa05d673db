-- What the controller is owed about channels, the first one first.
use Rattle.std.proofs.Common.{◌≡◌, ◌↔◌, ℕ, ◌<◌, true, is_some, List, length, get_or, set, slice_get, Option, Some, None, refl, sym, ◌∙◌, ap}
use Rattle.std.specs.List.{position}
use Rattle.std.specs.Option.{option_and_then, option_map}
use Rattle.std.proofs.lemmas.Bool.{true≢false}
use Rattle.std.proofs.lemmas.Option.{none-some, slice_get-get_or, slice_get_read, slice_get_within, get_or_from_slice_get}
use Rattle.channel_fsm.specs.declared.ChanId.{ChanId}
use Rattle.cell_table.proofs.Positions.{position_is, position_none}
use Rattle.link_machine.specs.declared.channel.Channel.{Channel}
use Rattle.link_machine.specs.declared.channel.InPlace.{InPlace}
use Rattle.link_machine.specs.Channels.{owes}
use Rattle.link_machine.specs.Machine.{with_change, changed_at, owed_of, paid, first_owed, first_paid, IsOwedNothing}

-- what is owed about the channel at this place, if any is
abbrev owed_at : List Channel → Option ℕ → Option (ChanId × InPlace)
owed_at cs o = option_and_then (λ n. option_and_then owed_of (slice_get cs n)) o

-- something is owed about it
owing_is_owed : (c : Channel) → owes c ≡ true → owed_of c ≡ None → ⊥
owing_is_owed c = by c.owed
  where
    by : (what : Option InPlace) → is_some what ≡ true → option_map {U = ChanId × InPlace} (λ (w : InPlace). (c.chan, w)) what ≡ None → ⊥
    by None owing none = true≢false (sym owing)
    by (Some w) owing none = none-some (c.chan, w) (sym none)

-- nothing is owed where there is no first
owed_nothing : (cs : List Channel) → first_owed cs ≡ None → IsOwedNothing cs
owed_nothing cs = by (position owes cs) (sym (λ i. position owes cs))
  where
    by : (o : Option ℕ) → position owes cs ≡ o → owed_at cs o ≡ None → IsOwedNothing cs
    by None at none = λ k d within. position_none owes cs k (get_or cs k d) at (slice_get-get_or cs k d within)
    by (Some n) at none =
        let it = position_is owes cs n at in
        absurd (owing_is_owed it.element it.passes (sym (ap (option_and_then owed_of) it.there) ∙ none))

-- there is no first where nothing is owed
nothing_owed : (cs : List Channel) → IsOwedNothing cs → first_owed cs ≡ None
nothing_owed cs nothing = by (position owes cs) (λ i. position owes cs)
  where
    by : (o : Option ℕ) → position owes cs ≡ o → owed_at cs o ≡ None
    by None at = λ i. None
    by (Some n) at =
        let it = position_is owes cs n at in
        let there = get_or_from_slice_get cs n it.element it.element it.there in
        absurd (true≢false (sym it.passes ∙ ap owes (sym there) ∙ nothing n it.element (slice_get_within cs n it.element it.there)))

-- what is read in a list of the same channels stands there
pub read_there : (cs xs : List Channel) (n : ℕ) (c : Channel) → xs ≡ cs → n < length xs → c ≡ get_or xs n c → slice_get cs n ≡ Some c
read_there cs xs n c same within read = ap (λ (list : List Channel). slice_get list n) (sym same) ∙ slice_get_read xs (length xs) n c refl within read

-- what is answered is owed first
pub none_owed : (cs : List Channel) (r : Option (ChanId × InPlace)) → r ≡ first_owed cs → (r ≡ None) ↔ IsOwedNothing cs
none_owed cs r same = (λ none. owed_nothing cs (sym same ∙ none), λ nothing. same ∙ nothing_owed cs nothing)

pub owed_first : (cs : List Channel) (n : ℕ) (c : Channel) → Some n ≡ position owes cs → slice_get cs n ≡ Some c → owed_of c ≡ first_owed cs
owed_first cs n c at there = sym (ap (owed_at cs) (sym at) ∙ ap (option_and_then owed_of) there)

pub paid_first : (fresh : ℕ) (cs : List Channel) (n : ℕ) (c : Channel) → Some n ≡ position owes cs → slice_get cs n ≡ Some c → set cs n (paid fresh c) ≡ first_paid fresh cs
paid_first fresh cs n c at there = sym (ap (λ o. changed_at (paid fresh) o cs) (sym at) ∙ ap (with_change (paid fresh) cs n) there)
