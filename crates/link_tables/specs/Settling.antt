-- What a channel does behind a turn of the controller in which the book has moved: the difference between what the book says of
-- it and what its station was told is what is sent. The numbers are those of docs/LINKS.md.
use Rattle.std.specs.Prelude.{◌&&◌, ◌||◌, Bool, true, false, List, [], ◌∷◌, ◌++◌, map, find, Option, Some, None}
use Rattle.std.proofs.Math.Bool.{not}
use Rattle.channel_fsm.specs.declared.ChanState.{ChanState}
use Rattle.channel_fsm.specs.declared.ChanState.TheVariants as book
use Rattle.link_tables.specs.declared.Lchan.{Lchan}
use Rattle.link_tables.specs.declared.Lchan.TheVariants.{Rest, Activating, On, Mobile, Guard, Releasing, Closing, Reopening, Lost}
use Rattle.link_tables.specs.declared.Timer.TheVariants.{Activation, T3109, Release}
use Rattle.link_tables.specs.declared.Act.TheVariants as act
use Rattle.link_tables.specs.declared.Act.TheVariants.{RefuseInPlace, ReleaseInPlace, SendActivation, KeepActivation, SendRelease, SendChannelRelease, SendDeactivateSacch, Start, Stop}
use Rattle.link_tables.specs.declared.Circumstances.{Circumstances}
use Rattle.link_tables.specs.declared.Step.{Step}
use Rattle.link_tables.specs.Acts.{Acts, nothing, one, two, three, stopped, lchans, same_lchan}

-- THE BOOK

-- no call has it, or one that doesn't use it
abbrev pub is_idle : ChanState → Bool
is_idle book.Free = true
is_idle (book.Held c) = true
is_idle (book.Pending c) = false
is_idle (book.On c) = false
is_idle book.Off = false

abbrev pub is_pending : ChanState → Bool
is_pending book.Free = false
is_pending (book.Held c) = false
is_pending (book.Pending c) = true
is_pending (book.On c) = false
is_pending book.Off = false

abbrev pub is_on : ChanState → Bool
is_on book.Free = false
is_on (book.Held c) = false
is_on (book.Pending c) = false
is_on (book.On c) = true
is_on book.Off = false

abbrev pub is_off : ChanState → Bool
is_off book.Free = false
is_off (book.Held c) = false
is_off (book.Pending c) = false
is_off (book.On c) = false
is_off book.Off = true

-- HOW THINGS STAND

abbrev pub When : Type 0
When = ChanState → Circumstances → Bool

abbrev pub always : When
always before c = true

-- the link isn't there
abbrev pub unlinked : When
unlinked before c = not c.has_link

-- the controller was told that the channel is refused, and hasn't read it; or a bar has it, which uses it never
abbrev pub refused : When
refused before c = is_pending before || c.is_bar

-- in this turn the controller said CHANNEL RELEASE
abbrev pub said : When
said before c = c.said_channel_release

-- ROWS

-- in this state, where the book has the channel so now, and things stand so: these acts, and the state behind them
pub record Row : Type 0 where
  pub state : Lchan
  pub now : ChanState → Bool
  pub when : When
  pub acts : Acts
  pub next : Lchan

abbrev row : Lchan → (ChanState → Bool) → When → Acts → Lchan → Row
row state now when acts next = record { state = state; now = now; when = when; acts = acts; next = next }

-- L2, L11, and L28 without a link: nothing is sent, and who waits for the station's answer is given one in its place
abbrev absent : List Row
absent =
    map (λ s. row s is_pending unlinked (stopped s ∷ Some RefuseInPlace ∷ None ∷ []) Rest) lchans ++
    map (λ s. row s is_off unlinked (stopped s ∷ Some ReleaseInPlace ∷ None ∷ []) Rest) lchans ++
    map (λ s. row s is_idle unlinked (stopped s ∷ None ∷ None ∷ []) Rest) lchans

-- a call asks for the channel (48.058 clauses 4.1 and 8.4.1)
abbrev asked : List Row
asked =
    -- L6, B1: refused without asking
    row Rest is_pending refused (one RefuseInPlace) Rest ∷
    row Closing is_pending refused (one RefuseInPlace) Closing ∷
    -- L1
    row Rest is_pending always (two SendActivation (Start Activation)) Activating ∷
    -- L3: a release is awaited, so that the activation waits behind it
    row Closing is_pending always (two KeepActivation (Start Activation)) Reopening ∷
    -- L5: the station's answer couldn't be read
    row On is_pending always (three SendRelease RefuseInPlace act.Bar) Closing ∷ []

-- the book's call has ended (48.058 clauses 4.7 and 8.4.14)
abbrev ended : List Row
ended =
    -- L8: it may be active; where a release is awaited, none is sent
    row Activating is_off always (three (Stop Activation) SendRelease (Start Release)) Releasing ∷
    row Reopening is_off always (two (Stop Activation) (Start Release)) Releasing ∷
    -- L9: the mobile leaves the link first (44.018 clause 3.4.13.1, 48.058 clause 8.4.5)
    row On is_off said (three SendChannelRelease SendDeactivateSacch (Start T3109)) Mobile ∷
    -- L10
    row On is_off always (two SendRelease (Start Release)) Releasing ∷
    row Lost is_off always (two SendRelease (Start Release)) Releasing ∷
    -- L14: it is at rest already
    row Rest is_off always (one ReleaseInPlace) Rest ∷
    row Closing is_off always (one ReleaseInPlace) Closing ∷ []

-- L28 to L30: moves that no turn makes where channel and book agreed before. They agree again, and what may be active is
-- released.
abbrev others : List Row
others =
    map (λ s. row s is_idle always (stopped s ∷ Some SendRelease ∷ None ∷ []) Closing)
    (Activating ∷ On ∷ Mobile ∷ Guard ∷ Lost ∷ []) ++
    map (λ s. row s is_idle always (stopped s ∷ None ∷ None ∷ []) Closing) (Releasing ∷ Reopening ∷ []) ++
    map (λ s. row s is_on always (stopped s ∷ None ∷ None ∷ []) Lost)
    (Rest ∷ Activating ∷ Mobile ∷ Guard ∷ Releasing ∷ Closing ∷ Reopening ∷ []) ++
    map (λ s. row s is_pending always (stopped s ∷ Some SendRelease ∷ Some RefuseInPlace ∷ []) Closing)
    (Mobile ∷ Guard ∷ Lost ∷ []) ++
    row Releasing is_pending always (three (Stop Release) KeepActivation (Start Activation)) Reopening ∷ []

-- The rows: the first that fits counts.
abbrev pub rows : List Row
rows = absent ++ asked ++ ended ++ others

-- THE STEP

abbrev pub fits : Lchan → ChanState → ChanState → Circumstances → Row → Bool
fits lchan before now c r = same_lchan r.state lchan && (r.now now && r.when before c)

-- what a row does; where there is none, nothing is done, since channel and book agree
abbrev pub step_of : Lchan → Option Row → Step
step_of lchan (Some r) = record { acts = r.acts; next = r.next }
step_of lchan None = record { acts = nothing; next = lchan }

-- what a channel does behind a turn that found the book at one state of it, and left another
abbrev pub settled_step : Lchan → ChanState → ChanState → Circumstances → Step
settled_step lchan before now c = step_of lchan (find (fits lchan before now c) rows)
