-- What the words of a line say, beyond those of scripts. A text is the list of its bytes. Ours, of no standard.
use Rattle.std.specs.Prelude.{ℕ, Bool, true, false, if◌then◌else◌, List, [], ◌∷◌, codes, Option, Some, None, bytes_eq}
use Rattle.attempt_journal.specs.declared.Timer.TheVariants as of_call
use Rattle.link_tables.specs.declared.Timer.TheVariants as of_channel
use Rattle.link_lines.specs.declared.words.TimerName.{TimerName}
use Rattle.link_lines.specs.declared.words.TimerName.TheVariants.{Call, Channel}

-- the first of some names that a text is
abbrev pub named : {X : Type 0} → List (List ℕ × X) → List ℕ → Option X
named [] text = None
named (n ∷ names) text = if bytes_eq text n.0 then Some n.1 else named names text

abbrev pub switch_of : List ℕ → Option Bool
switch_of text = named ((codes "on", true) ∷ (codes "off", false) ∷ []) text

-- the timers: T3103 (TS 44.018 clause 11.1.2), T7 and T8 (TS 48.008 clause 3.1.5) of a call; those of a channel at its station
abbrev pub timer_named : List ℕ → Option TimerName
timer_named text =
    named ((codes "T3103", Call of_call.T3103) ∷ (codes "T7", Call of_call.T7) ∷ (codes "T8", Call of_call.T8)
    ∷ (codes "activation", Channel of_channel.Activation) ∷ (codes "T3109", Channel of_channel.T3109) ∷ (codes "T3111", Channel of_channel.T3111)
    ∷ (codes "release", Channel of_channel.Release) ∷ (codes "bar", Channel of_channel.Bar) ∷ []) text

-- the one word of its place
abbrev pub only : List ℕ → List ℕ → Option (Unit {0})
only word text = if bytes_eq text word then Some tt else None
