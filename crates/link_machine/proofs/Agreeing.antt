-- Behind a turn a channel agrees with the book, and so does one that is told something; its bar has it; the clock of that follows.
use Rattle.std.proofs.Common.{◌≡◌, ◌&&◌, ◌||◌, ◌==◌, ℕ, Bool, true, false, List, [], ◌∷◌, Option, Some, None, refl, sym, ◌∙◌, ap, cond, arith}
use Rattle.std.proofs.Math.Bool.{not}
use Rattle.std.specs.List.{list_all}
use Rattle.std.proofs.lemmas.Bool.{true≢false, false≢true}
use Rattle.std.proofs.lemmas.Bool.Decides.{nat_tests}
use Rattle.std.proofs.lemmas.Option.{same_Some, none-some}
use Rattle.std.proofs.lemmas.List.Elements.{All-nil, All-cons, All-head, All-tail}
use Rattle.channel_fsm.specs.declared.ChanState.{ChanState}
use Rattle.radio_book.specs.State.{State, state_of}
use Rattle.radio_book.specs.Table.{owner}
use Rattle.link_tables.specs.declared.Act.{Act}
use Rattle.link_tables.specs.declared.Act.TheVariants as act
use Rattle.link_tables.specs.declared.Act.TheVariants.{Give, Pass, Count, RefuseInPlace, ReleaseInPlace, FailInPlace, KeepFailure, SendActivation, KeepActivation, SendRelease, SendChannelRelease, SendDeactivateSacch, Start, Stop, Bar, BarByHolder, OpenBar, EndBar}
use Rattle.link_tables.specs.declared.AttemptEnd.{AttemptEnd}
use Rattle.link_tables.specs.declared.BarKind.TheVariants.{Timed, Lasting}
use Rattle.link_tables.specs.declared.Heard.{Heard}
use Rattle.link_tables.specs.declared.Heard.TheVariants.{LinkLost, LinkUp}
use Rattle.link_tables.specs.declared.Holder.{Holder}
use Rattle.link_tables.specs.declared.Lchan.{Lchan}
use Rattle.link_tables.specs.declared.Step.{Step}
use Rattle.link_tables.specs.declared.Timer.TheVariants as timer
use Rattle.link_tables.specs.Acts.{nothing, one}
use Rattle.link_tables.specs.Bars.{bar_step}
use Rattle.link_tables.specs.Failures.{is_told, ended_step}
use Rattle.link_tables.specs.Hearing.{heard_step}
use Rattle.link_tables.specs.Laws.{agrees, agrees_behind, answered, does}
use Rattle.link_tables.proofs.Cases.{settled_agree, heard_agree, clock_runs}
use Rattle.link_tables.proofs.Every.{every_lchan, every_holder, holders}
use Rattle.link_machine.specs.declared.calls.CallFacts.{CallFacts}
use Rattle.link_machine.specs.declared.channel.Bar.{Bar as TheBar}
use Rattle.link_machine.specs.declared.channel.Channel.{Channel}
use Rattle.link_machine.specs.declared.moving.Moved.{Moved}
use Rattle.link_machine.specs.declared.moving.TurnFacts.{TurnFacts}
use Rattle.link_machine.specs.declared.moving.Word.TheVariants as word
use Rattle.link_machine.specs.declared.pass.Pass.TheVariants.{Link, Turn}
use Rattle.link_machine.specs.Calls.{holder_by}
use Rattle.link_machine.specs.Channels.{owes, timed_by, ends_bar, noting, noting_all, after, is_to_run}
use Rattle.link_machine.specs.Laws.{Agrees, AllAgree, SettledAgrees, ToldAgrees, LinkedAgrees, BarsHold, ClockIs, ToldClocks, LinkedClocks, SettledClocks}
use Rattle.link_machine.specs.Machine.{all_moved}
use Rattle.link_machine.specs.Moving.{still, moved_by, clocked, is_unheard, counted, hears, is_clock, ended, told, linked, before_of, standing, kept, is_from_air, barred, bar_phase, is_call, still_barred, with_bar_of, turned, settled_by, settled}
use Rattle.link_machine.specs.Passes.{is_of, passed}

-- what is owed stays owed
end_stays : (c : Channel) (bar : Option TheBar) → owes c ≡ true → owes (ends_bar c bar) ≡ true
end_stays c None h = h
end_stays c (Some bar) h = refl

stays : (who : Option ℕ) (c : Channel) (a : Option Act) → owes c ≡ true → owes (noting who c a) ≡ true
unfolding noting
stays who c None h = h
stays who c (Some Give) h = h
stays who c (Some Pass) h = h
stays who c (Some Count) h = h
stays who c (Some SendActivation) h = h
stays who c (Some KeepActivation) h = h
stays who c (Some SendRelease) h = h
stays who c (Some SendChannelRelease) h = h
stays who c (Some SendDeactivateSacch) h = h
stays who c (Some RefuseInPlace) h = refl
stays who c (Some ReleaseInPlace) h = refl
stays who c (Some FailInPlace) h = refl
stays who c (Some KeepFailure) h = h
stays who c (Some (Start t)) h = h
stays who c (Some (Stop t)) h = h
stays who c (Some Bar) h = h
stays who c (Some BarByHolder) h = h
stays who c (Some (OpenBar kind)) h = refl
stays who c (Some EndBar) h = end_stays c c.bar h

all_stays : (who : Option ℕ) (c : Channel) (acts : List (Option Act)) → owes c ≡ true → owes (noting_all who c acts) ≡ true
all_stays who c [] h = h
all_stays who c (a ∷ acts) h = all_stays who (noting who c a) acts (stays who c a h)

-- where nothing is owed, the controller isn't answered in a station's place
neither : (who : Option ℕ) (c : Channel) (acts : List (Option Act)) → owes (noting_all who c acts) ≡ false → (does acts act.RefuseInPlace ≡ false) × (does acts act.ReleaseInPlace ≡ false)
unfolding noting
neither who c [] h = (refl, refl)
neither who c (None ∷ acts) h = neither who c acts h
neither who c (Some Give ∷ acts) h = neither who c acts h
neither who c (Some Pass ∷ acts) h = neither who c acts h
neither who c (Some Count ∷ acts) h = neither who c acts h
neither who c (Some SendActivation ∷ acts) h = neither who c acts h
neither who c (Some KeepActivation ∷ acts) h = neither who c acts h
neither who c (Some SendRelease ∷ acts) h = neither who c acts h
neither who c (Some SendChannelRelease ∷ acts) h = neither who c acts h
neither who c (Some SendDeactivateSacch ∷ acts) h = neither who c acts h
neither who c (Some RefuseInPlace ∷ acts) h = absurd (true≢false (sym (all_stays who (noting who c (Some RefuseInPlace)) acts refl) ∙ h))
neither who c (Some ReleaseInPlace ∷ acts) h = absurd (true≢false (sym (all_stays who (noting who c (Some ReleaseInPlace)) acts refl) ∙ h))
neither who c (Some FailInPlace ∷ acts) h = neither who (noting who c (Some FailInPlace)) acts h
neither who c (Some KeepFailure ∷ acts) h = neither who (noting who c (Some KeepFailure)) acts h
neither who c (Some Bar ∷ acts) h = neither who (noting who c (Some Bar)) acts h
neither who c (Some BarByHolder ∷ acts) h = neither who (noting who c (Some BarByHolder)) acts h
neither who c (Some (OpenBar Timed) ∷ acts) h = neither who (noting who c (Some (OpenBar Timed))) acts h
neither who c (Some (OpenBar Lasting) ∷ acts) h = neither who (noting who c (Some (OpenBar Lasting))) acts h
neither who c (Some EndBar ∷ acts) h = neither who (noting who c (Some EndBar)) acts h
neither who c (Some (Start timer.Activation) ∷ acts) h = neither who c acts h
neither who c (Some (Start timer.T3109) ∷ acts) h = neither who c acts h
neither who c (Some (Start timer.T3111) ∷ acts) h = neither who c acts h
neither who c (Some (Start timer.Release) ∷ acts) h = neither who c acts h
neither who c (Some (Start timer.Bar) ∷ acts) h = neither who c acts h
neither who c (Some (Stop timer.Activation) ∷ acts) h = neither who c acts h
neither who c (Some (Stop timer.T3109) ∷ acts) h = neither who c acts h
neither who c (Some (Stop timer.T3111) ∷ acts) h = neither who c acts h
neither who c (Some (Stop timer.Release) ∷ acts) h = neither who c acts h
neither who c (Some (Stop timer.Bar) ∷ acts) h = neither who c acts h

unanswered : (acts : List (Option Act)) (s : ChanState) → (does acts act.RefuseInPlace ≡ false) × (does acts act.ReleaseInPlace ≡ false) → answered acts s ≡ s
unanswered acts s (refuse, release) = cc

-- an act leaves the state of a channel, and its name
end_fixed : (c : Channel) (bar : Option TheBar) → ((ends_bar c bar).lchan ≡ c.lchan) × ((ends_bar c bar).chan ≡ c.chan)
end_fixed c None = (refl, refl)
end_fixed c (Some bar) = (refl, refl)

fixed : (who : Option ℕ) (c : Channel) (a : Option Act) → ((noting who c a).lchan ≡ c.lchan) × ((noting who c a).chan ≡ c.chan)
unfolding noting
fixed who c None = (refl, refl)
fixed who c (Some Give) = (refl, refl)
fixed who c (Some Pass) = (refl, refl)
fixed who c (Some Count) = (refl, refl)
fixed who c (Some SendActivation) = (refl, refl)
fixed who c (Some KeepActivation) = (refl, refl)
fixed who c (Some SendRelease) = (refl, refl)
fixed who c (Some SendChannelRelease) = (refl, refl)
fixed who c (Some SendDeactivateSacch) = (refl, refl)
fixed who c (Some RefuseInPlace) = (refl, refl)
fixed who c (Some ReleaseInPlace) = (refl, refl)
fixed who c (Some FailInPlace) = (refl, refl)
fixed who c (Some KeepFailure) = (refl, refl)
fixed who c (Some (Start t)) = (refl, refl)
fixed who c (Some (Stop t)) = (refl, refl)
fixed who c (Some Bar) = (refl, refl)
fixed who c (Some BarByHolder) = (refl, refl)
fixed who c (Some (OpenBar kind)) = (refl, refl)
fixed who c (Some EndBar) = end_fixed c c.bar

all_fixed : (who : Option ℕ) (c : Channel) (acts : List (Option Act)) → ((noting_all who c acts).lchan ≡ c.lchan) × ((noting_all who c acts).chan ≡ c.chan)
all_fixed who c [] = (refl, refl)
all_fixed who c (a ∷ acts) =
    let rest = all_fixed who (noting who c a) acts in
    let here = fixed who c a in
    (rest.0 ∙ here.0, rest.1 ∙ here.1)

-- it keeps its name
after_named : (who : Option ℕ) (c : Channel) (step : Step) → (after who c step).chan ≡ c.chan
after_named who c step = (all_fixed who (record c { lchan = step.next }) step.acts).1

-- where it owes nothing behind a step, it owed nothing before
unowing : (who : Option ℕ) (c : Channel) (step : Step) → owes (after who c step) ≡ false → owes c ≡ false
unowing who c step none = by (owes c) refl
  where
    by : (t : Bool) → owes c ≡ t → owes c ≡ false
    by true is = absurd (true≢false (sym (all_stays who (record c { lchan = step.next }) step.acts is) ∙ none))
    by false is = is

abbrev resting : Channel → Step → Moved
resting c step = record { channel = c; done = record { chan = c.chan; acts = step.acts; bar = nothing; clock = None } }

phase_named : (who : Option ℕ) (c : Channel) (step : Step) (s : ChanState) (air : Bool) → (bar_phase who c step s air).channel.chan ≡ c.chan
phase_named who c step s air = by (not c.is_to_be_barred || owes c)
  where
    by : (t : Bool) → (cond t (resting c step) (barred who (record c { is_to_be_barred = false }) step (bar_step c.lchan s air))).channel.chan ≡ c.chan
    by true = refl
    by false = after_named who (record c { is_to_be_barred = false }) (bar_step c.lchan s air)

-- a step of its row leads to a state that agrees, where nothing is owed behind it
stepped : (s : ChanState) (who : Option ℕ) (c : Channel) (step : Step) → agrees_behind s step ≡ true → owes (after who c step) ≡ false → agrees s (after who c step).lchan ≡ true
stepped s who c step behind none =
    let quiet = unanswered step.acts s (neither who (record c { lchan = step.next }) step.acts none) in
    let lchan = (all_fixed who (record c { lchan = step.next }) step.acts).0 in
    ap (agrees s) lchan ∙ ap (λ t. agrees t step.next) (sym quiet) ∙ behind

-- so it does where it is barred behind that
phased : (who : Option ℕ) (c : Channel) (step : Step) (s : ChanState) (air : Bool) → (owes c ≡ false → agrees s c.lchan ≡ true) → owes (bar_phase who c step s air).channel ≡ false → agrees s (bar_phase who c step s air).channel.lchan ≡ true
phased who c step s air h = by (not c.is_to_be_barred || owes c)
  where
    by : (t : Bool) → owes (cond t (resting c step) (barred who (record c { is_to_be_barred = false }) step (bar_step c.lchan s air))).channel ≡ false →
        agrees s (cond t (resting c step) (barred who (record c { is_to_be_barred = false }) step (bar_step c.lchan s air))).channel.lchan ≡ true
    by true none = h none
    by false none =
        let lchan = (all_fixed who (record c { is_to_be_barred = false }) (bar_step c.lchan s air).acts).0 in
        ap (agrees s) lchan ∙ h (unowing who (record c { is_to_be_barred = false }) (bar_step c.lchan s air) none)

-- what is settled
by_named : (calls : List CallFacts) (turn : TurnFacts) (c : Channel) (s : ChanState) (who : Option ℕ) → (settled_by calls turn c s who).channel.chan ≡ c.chan
by_named calls turn c s who =
    let d = with_bar_of who c in
    phase_named who (kept (after who d (turned turn d s))) (turned turn d s) s (is_from_air calls who) ∙ after_named who d (turned turn d s)

by_agrees : (calls : List CallFacts) (turn : TurnFacts) (c : Channel) (s : ChanState) (who : Option ℕ) → owes (settled_by calls turn c s who).channel ≡ false → agrees s (settled_by calls turn c s who).channel.lchan ≡ true
by_agrees calls turn c s who =
    let d = with_bar_of who c in
    phased who (kept (after who d (turned turn d s))) (turned turn d s) s (is_from_air calls who)
    (stepped s who d (turned turn d s) (settled_agree d.lchan (before_of turn.about d) s (standing turn d)))

named : (b : State) (calls : List CallFacts) (turn : TurnFacts) (c : Channel) → (settled b calls turn c).channel.chan ≡ c.chan
named b calls turn c = by (owes c)
  where
    by : (t : Bool) → (cond t (still c) (settled_by calls turn c (state_of b c.chan) (owner (state_of b c.chan)))).channel.chan ≡ c.chan
    by true = refl
    by false = by_named calls turn c (state_of b c.chan) (owner (state_of b c.chan))

agreeing : (b : State) (calls : List CallFacts) (turn : TurnFacts) (c : Channel) → owes (settled b calls turn c).channel ≡ false → agrees (state_of b c.chan) (settled b calls turn c).channel.lchan ≡ true
agreeing b calls turn c = by (owes c) refl
  where
    by : (t : Bool) → owes c ≡ t → owes (cond t (still c) (settled_by calls turn c (state_of b c.chan) (owner (state_of b c.chan)))).channel ≡ false →
        agrees (state_of b c.chan) (cond t (still c) (settled_by calls turn c (state_of b c.chan) (owner (state_of b c.chan)))).channel.lchan ≡ true
    by true is none = absurd (true≢false (sym is ∙ none))
    by false is none = by_agrees calls turn c (state_of b c.chan) (owner (state_of b c.chan)) none

pub settled_agrees : SettledAgrees
settled_agrees b calls turn c none =
    ap (λ x. agrees (state_of b x) (settled b calls turn c).channel.lchan) (named b calls turn c) ∙ agreeing b calls turn c none

-- all of them
pub each_settled : (b : State) (calls : List CallFacts) (turn : TurnFacts) (cs : List Channel) → AllAgree b (all_moved (passed b calls (Turn turn)) cs)
each_settled b calls turn [] = All-nil (Agrees b)
each_settled b calls turn (c ∷ cs) =
    All-cons (Agrees b) (settled b calls turn c).channel (all_moved (passed b calls (Turn turn)) cs) (settled_agrees b calls turn c)
    (each_settled b calls turn cs)

-- WHAT IS TOLD

-- a channel that does a step keeps agreeing, if its state does
moves_agree : (b : State) (who : Option ℕ) (c : Channel) (step : Step) → (agrees (state_of b c.chan) c.lchan ≡ true → agrees_behind (state_of b c.chan) step ≡ true) →
    Agrees b c → owes (after who c step) ≡ false → agrees (state_of b (after who c step).chan) (after who c step).lchan ≡ true
moves_agree b who c step go agreed none =
    ap (λ x. agrees (state_of b x) (after who c step).lchan) (after_named who c step)
    ∙ stepped (state_of b c.chan) who c step (go (agreed (unowing who c step none))) none

-- what isn't heard changes nothing
unheard_agrees : (s : ChanState) (c : Channel) (h : Heard) (w : Holder) (t : Bool) → does (cond t (counted c) (heard_step c.lchan h w)).acts Give ≡ false →
    agrees s c.lchan ≡ true → agrees_behind s (cond t (counted c) (heard_step c.lchan h w)) ≡ true
unheard_agrees s c h w true given is = is
unheard_agrees s c h w false given is = heard_agree c.lchan h w s is given

ended_behind : (s : ChanState) (l : Lchan) (end : AttemptEnd) → agrees s l ≡ true → agrees_behind s (ended_step l end) ≡ true
ended_behind s l end is = by (is_told l end)
  where
    by : (t : Bool) → agrees (answered (cond t (one FailInPlace) nothing) s) l ≡ true
    by true = is
    by false = is

ended_agrees : (b : State) (who : Option ℕ) (c : Channel) (end : AttemptEnd) → Agrees b c → Agrees b (ended who c end).channel
ended_agrees b who c end agreed = by c.keeps_failure
  where
    by : (t : Bool) → Agrees b (cond t (moved_by who (record c { keeps_failure = false }) (ended_step c.lchan end)) (still c)).channel
    by true = moves_agree b who (record c { keeps_failure = false }) (ended_step c.lchan end) (ended_behind (state_of b c.chan) c.lchan end) agreed
    by false = agreed

pub ended_keeps : (b : State) (calls : List CallFacts) (end : AttemptEnd) (c : Channel) → Agrees b c → Agrees b (told b calls (word.AttemptEnded end) c).channel
ended_keeps b calls end c agreed = ended_agrees b (owner (state_of b c.chan)) c end agreed

pub told_agrees : ToldAgrees
told_agrees b calls (word.Heard h) c agreed given =
    let who = owner (state_of b c.chan) in
    let w = holder_by b calls c.chan c.bar in
    moves_agree b who c (cond (is_unheard c h) (counted c) (heard_step c.lchan h w)) (unheard_agrees (state_of b c.chan) c h w (is_unheard c h) given) agreed
told_agrees b calls (word.AttemptEnded end) c agreed given = ended_keeps b calls end c agreed

-- the end of a link is given to nobody, and neither is that it comes
unsaid : (t : Bool) → not t ≡ true → t ≡ false
unsaid true h = absurd (false≢true h)
unsaid false h = refl

abbrev quiet_where : Heard → Lchan → Holder → Bool
quiet_where h l w = not (does (heard_step l h w).acts Give)

lost_is_quiet : (l : Lchan) (w : Holder) → does (heard_step l LinkLost w).acts Give ≡ false
lost_is_quiet l w = unsaid (does (heard_step l LinkLost w).acts Give) (every_holder (quiet_where LinkLost l) (every_lchan (λ l. list_all (quiet_where LinkLost l) holders) refl l) w)

up_is_quiet : (l : Lchan) (w : Holder) → does (heard_step l LinkUp w).acts Give ≡ false
up_is_quiet l w = unsaid (does (heard_step l LinkUp w).acts Give) (every_holder (quiet_where LinkUp l) (every_lchan (λ l. list_all (quiet_where LinkUp l) holders) refl l) w)

pub linked_agrees : LinkedAgrees
linked_agrees b calls true c agreed =
    let w = holder_by b calls c.chan c.bar in
    moves_agree b (owner (state_of b c.chan)) (record c { has_link = true }) (heard_step c.lchan LinkUp w) (λ is. heard_agree c.lchan LinkUp w (state_of b c.chan) is (up_is_quiet c.lchan w)) agreed
linked_agrees b calls false c agreed =
    let w = holder_by b calls c.chan c.bar in
    moves_agree b (owner (state_of b c.chan)) (record c { has_link = false }) (heard_step c.lchan LinkLost w) (λ is. heard_agree c.lchan LinkLost w (state_of b c.chan) is (lost_is_quiet c.lchan w)) agreed

one_linked : (b : State) (calls : List CallFacts) (is_up : Bool) (c : Channel) (t : Bool) → Agrees b c → Agrees b (cond t (linked b calls is_up c) (still c)).channel
one_linked b calls is_up c true agreed = linked_agrees b calls is_up c agreed
one_linked b calls is_up c false agreed = agreed

-- all of them
pub each_linked : (b : State) (calls : List CallFacts) (cell trx : ℕ) (is_up : Bool) (cs : List Channel) → AllAgree b cs → AllAgree b (all_moved (passed b calls (Link cell trx is_up)) cs)
each_linked b calls cell trx is_up [] agreed = All-nil (Agrees b)
each_linked b calls cell trx is_up (c ∷ cs) agreed =
    All-cons (Agrees b) (passed b calls (Link cell trx is_up) c).channel (all_moved (passed b calls (Link cell trx is_up)) cs)
    (one_linked b calls is_up c (is_of cell trx c.chan) (All-head (Agrees b) c cs agreed))
    (each_linked b calls cell trx is_up cs (All-tail (Agrees b) c cs agreed))

-- BARS

-- whoever is the bar has the channel
Held : Option ℕ → Option TheBar → Type 0
Held who bar = (it : TheBar) → bar ≡ Some it → who ≡ Some it.call

no_bar : (who : Option ℕ) → Held who None
unfolding Held
no_bar who it is = absurd (none-some it is)

has_it : (who : Option ℕ) (bar : TheBar) → who ≡ Some bar.call → Held who (Some bar)
unfolding Held
has_it who bar has it is = has ∙ ap (λ (b : TheBar). Some b.call) (same_Some bar it is)

equal : (n m : ℕ) → (n == m) ≡ true → n ≡ m
equal n m e = grind (arith, nat_tests)

is_the_call : (n : ℕ) (who : Option ℕ) → is_call n who ≡ true → who ≡ Some n
is_the_call n None is = absurd (false≢true is)
is_the_call n (Some m) is = ap Some (equal m n is)

still_held : (who : Option ℕ) (bar : Option TheBar) → Held who (still_barred who bar)
still_held who None = no_bar who
still_held who (Some bar) = by (is_call bar.call who) refl
  where
    by : (t : Bool) → is_call bar.call who ≡ t → Held who (cond t (Some bar) None)
    by true is = has_it who bar (is_the_call bar.call who is)
    by false is = no_bar who

becomes : (who : Option ℕ) → Held who (timed_by who)
becomes None = no_bar None
becomes (Some n) = has_it (Some n) (record { call = n; kind = Timed }) refl

ends_held : (who : Option ℕ) (c : Channel) (bar : Option TheBar) → Held who c.bar → c.bar ≡ bar → Held who (ends_bar c bar).bar
unfolding Held
ends_held who c None held is = held
ends_held who c (Some bar) held is = has_it who (record bar { kind = Lasting }) (held bar is)

noted : (who : Option ℕ) (c : Channel) (a : Option Act) → Held who c.bar → Held who (noting who c a).bar
unfolding noting
noted who c None held = held
noted who c (Some Give) held = held
noted who c (Some Pass) held = held
noted who c (Some Count) held = held
noted who c (Some SendActivation) held = held
noted who c (Some KeepActivation) held = held
noted who c (Some SendRelease) held = held
noted who c (Some SendChannelRelease) held = held
noted who c (Some SendDeactivateSacch) held = held
noted who c (Some RefuseInPlace) held = held
noted who c (Some ReleaseInPlace) held = held
noted who c (Some FailInPlace) held = held
noted who c (Some KeepFailure) held = held
noted who c (Some (Start t)) held = held
noted who c (Some (Stop t)) held = held
noted who c (Some Bar) held = held
noted who c (Some (OpenBar kind)) held = held
noted who c (Some BarByHolder) held = becomes who
noted who c (Some EndBar) held = ends_held who c c.bar held refl

all_noted : (who : Option ℕ) (c : Channel) (acts : List (Option Act)) → Held who c.bar → Held who (noting_all who c acts).bar
all_noted who c [] held = held
all_noted who c (a ∷ acts) held = all_noted who (noting who c a) acts (noted who c a held)

phase_held : (who : Option ℕ) (c : Channel) (step : Step) (s : ChanState) (air : Bool) → Held who c.bar → Held who (bar_phase who c step s air).channel.bar
phase_held who c step s air held = by (not c.is_to_be_barred || owes c)
  where
    by : (t : Bool) → Held who (cond t (resting c step) (barred who (record c { is_to_be_barred = false }) step (bar_step c.lchan s air))).channel.bar
    by true = held
    by false = all_noted who (record c { is_to_be_barred = false; lchan = c.lchan }) (bar_step c.lchan s air).acts held

by_held : (calls : List CallFacts) (turn : TurnFacts) (c : Channel) (s : ChanState) (who : Option ℕ) → Held who (settled_by calls turn c s who).channel.bar
by_held calls turn c s who =
    let d = with_bar_of who c in
    let step = turned turn d s in
    phase_held who (kept (after who d step)) step s (is_from_air calls who) (all_noted who (record d { lchan = step.next }) step.acts (still_held who c.bar))

pub bars_hold : BarsHold
unfolding Held
bars_hold b calls turn c bar none is = by (owes c) refl none is
  where
    by : (t : Bool) → owes c ≡ t → owes (cond t (still c) (settled_by calls turn c (state_of b c.chan) (owner (state_of b c.chan)))).channel ≡ false →
        (cond t (still c) (settled_by calls turn c (state_of b c.chan) (owner (state_of b c.chan)))).channel.bar ≡ Some bar → owner (state_of b c.chan) ≡ Some bar.call
    by true owing none is = absurd (true≢false (sym owing ∙ none))
    by false owing none is = by_held calls turn c (state_of b c.chan) (owner (state_of b c.chan)) bar is

-- THE CLOCK OF A BAR

clock_is : (ran : Bool) (m : Moved) → ClockIs ran (clocked ran m)
clock_is ran m = (refl, clock_runs ran (is_to_run m.channel))

pub told_clocks : ToldClocks
told_clocks b calls (word.Heard h) c = clock_is (c.bar_runs && not (is_clock h)) (hears b calls c h)
told_clocks b calls (word.AttemptEnded end) c = clock_is c.bar_runs (ended (owner (state_of b c.chan)) c end)

pub linked_clocks : LinkedClocks
linked_clocks b calls true c = clock_is c.bar_runs (hears b calls (record c { has_link = true }) LinkUp)
linked_clocks b calls false c = clock_is c.bar_runs (hears b calls (record c { has_link = false }) LinkLost)

pub settled_clocks : SettledClocks
settled_clocks b calls turn c = clock_is c.bar_runs (cond (owes c) (still c) (settled_by calls turn c (state_of b c.chan) (owner (state_of b c.chan))))
