-- All channels of a site. Ours, of no standard.
use Rattle.std.specs.Prelude.{◌≡◌, ℕ, zero, suc, Bool, true, false, List, [], ◌∷◌, ◌++◌, All, map, flat_map, position, Option, Some, None, slice_get, slice_set, is_none, if◌then◌else◌, ◌&&◌}
use Rattle.std.specs.Option.{option_and_then, option_map}
use Rattle.channel_fsm.specs.declared.ChanId.{ChanId}
use Rattle.cell_table.specs.Site.{SiteView, index_of}
use Rattle.link_tables.specs.declared.Act.{Act}
use Rattle.link_machine.specs.declared.channel.Channel.{Channel}
use Rattle.link_machine.specs.declared.channel.Bar.{Bar}
use Rattle.link_machine.specs.declared.channel.InPlace.{InPlace}
use Rattle.link_machine.specs.declared.channel.InPlace.TheVariants as owed
use Rattle.link_machine.specs.declared.moving.Done.{Done}
use Rattle.link_machine.specs.declared.moving.Moved.{Moved}
use Rattle.link_machine.specs.Channels.{owes}

-- how each channel moves
abbrev pub Moves : Type 0
Moves = Channel → Moved

-- these are no acts
abbrev pub quiet : List (Option Act) → Bool
quiet [] = true
quiet (None ∷ acts) = quiet acts
quiet (Some act ∷ acts) = false

abbrev pub is_quiet : Done → Bool
is_quiet done = quiet done.acts && quiet done.bar && is_none done.clock

-- what is told of a channel: what it does, where it is anything
abbrev pub told_of : Done → List Done
told_of done = if is_quiet done then [] else done ∷ []

-- the first so many channels have moved
unfoldable pub moved_until : Moves → ℕ → List Channel → List Channel
moved_until f zero cs = cs
moved_until f (suc n) [] = []
moved_until f (suc n) (c ∷ cs) = (f c).channel ∷ moved_until f n cs

-- and this is what they did
unfoldable pub done_until : Moves → ℕ → List Channel → List Done
done_until f zero cs = []
done_until f (suc n) [] = []
done_until f (suc n) (c ∷ cs) = told_of (f c).done ++ done_until f n cs

-- all of them
abbrev pub all_moved : Moves → List Channel → List Channel
all_moved f cs = map (λ c. (f c).channel) cs

abbrev pub all_done : Moves → List Channel → List Done
all_done f cs = flat_map (λ c. told_of (f c).done) cs

-- what is known of a channel of a site
abbrev pub channel_at : SiteView → List Channel → ChanId → Option Channel
channel_at site cs x = option_and_then (slice_get cs) (index_of site x)

-- the channel at a place is made another, where there is one
abbrev pub with_change : (Channel → Channel) → List Channel → ℕ → Option Channel → List Channel
with_change f cs n None = cs
with_change f cs n (Some c) = slice_set cs n (f c)

abbrev pub changed_at : (Channel → Channel) → Option ℕ → List Channel → List Channel
changed_at f None cs = cs
changed_at f (Some n) cs = with_change f cs n (slice_get cs n)

-- one of them has moved
abbrev pub one_moved : Moves → SiteView → List Channel → ChanId → List Channel
one_moved f site cs x = changed_at (λ c. (f c).channel) (index_of site x) cs

-- and this is what it did
abbrev pub one_done : Moves → SiteView → List Channel → ChanId → Option Done
one_done f site cs x = option_map (λ c. (f c).done) (channel_at site cs x)

-- what the controller is owed about a channel
abbrev pub owed_of : Channel → Option (ChanId × InPlace)
owed_of c = option_map (λ (what : InPlace). (c.chan, what)) c.owed

-- its bar, once a call of this number is opened for one that is owed
abbrev pub opened : ℕ → Option InPlace → Option Bar → Option Bar
opened fresh None bar = bar
opened fresh (Some owed.Refusal) bar = bar
opened fresh (Some owed.Release) bar = bar
opened fresh (Some owed.Failure) bar = bar
opened fresh (Some (owed.OpenBar kind)) bar = Some (record { call = fresh; kind = kind })
opened fresh (Some (owed.EndBar c)) bar = bar

-- it is owed nothing about it
abbrev pub paid : ℕ → Channel → Channel
paid fresh c = record c { owed = None; bar = opened fresh c.owed c.bar }

-- what it is owed about the first channel of which it is owed anything
abbrev pub first_owed : List Channel → Option (ChanId × InPlace)
first_owed cs = option_and_then (λ n. option_and_then owed_of (slice_get cs n)) (position owes cs)

-- it is owed nothing about that one
abbrev pub first_paid : ℕ → List Channel → List Channel
first_paid fresh cs = changed_at (paid fresh) (position owes cs) cs

-- it is owed nothing
abbrev pub IsOwedNothing : List Channel → Type 0
IsOwedNothing cs = All (λ c. owes c ≡ false) cs
