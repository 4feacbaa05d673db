-- What rows are made of: lists of acts, states told apart, and the timer of a state. Ours, of no standard.
use Rattle.std.specs.Prelude.{ℕ, ◌==◌, Bool, List, [], ◌∷◌, Option, Some, None}
use Rattle.std.specs.Option.{option_map}
use Rattle.link_tables.specs.declared.Lchan.{Lchan}
use Rattle.link_tables.specs.declared.Lchan.TheVariants.{Rest, Activating, On, Mobile, Guard, Releasing, Closing, Reopening, Lost}
use Rattle.link_tables.specs.declared.Act.{Act}
use Rattle.link_tables.specs.declared.Act.TheVariants as act
use Rattle.link_tables.specs.declared.Timer.{Timer}
use Rattle.link_tables.specs.declared.Timer.TheVariants as timer

-- what a row does, in order: nothing, or up to three things
abbrev pub Acts : Type 0
Acts = List (Option Act)

abbrev pub nothing : Acts
nothing = None ∷ None ∷ None ∷ []

abbrev pub one : Act → Acts
one a = Some a ∷ None ∷ None ∷ []

abbrev pub two : Act → Act → Acts
two a b = Some a ∷ Some b ∷ None ∷ []

abbrev pub three : Act → Act → Act → Acts
three a b c = Some a ∷ Some b ∷ Some c ∷ []

-- the timer that runs in a state
abbrev pub timer_of : Lchan → Option Timer
timer_of Rest = None
timer_of Activating = Some timer.Activation
timer_of On = None
timer_of Mobile = Some timer.T3109
timer_of Guard = Some timer.T3111
timer_of Releasing = Some timer.Release
timer_of Closing = None
timer_of Reopening = Some timer.Activation
timer_of Lost = None

-- it stops, if one runs
abbrev pub stopped : Lchan → Option Act
stopped lchan = option_map act.Stop (timer_of lchan)

-- all states
abbrev pub lchans : List Lchan
lchans = Rest ∷ Activating ∷ On ∷ Mobile ∷ Guard ∷ Releasing ∷ Closing ∷ Reopening ∷ Lost ∷ []

abbrev pub lchan_number : Lchan → ℕ
lchan_number Rest = 0
lchan_number Activating = 1
lchan_number On = 2
lchan_number Mobile = 3
lchan_number Guard = 4
lchan_number Releasing = 5
lchan_number Closing = 6
lchan_number Reopening = 7
lchan_number Lost = 8

abbrev pub same_lchan : Lchan → Lchan → Bool
same_lchan one other = lchan_number one == lchan_number other
