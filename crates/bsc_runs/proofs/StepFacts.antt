-- What follows of a turn's steps at the links.
use Rattle.std.proofs.Common.{◌≡◌, inl, inr, ℕ, List, [], ◌∷◌, ◌++◌, length, slice_get, Option, Some, None, Result, Ok, Err, IfOk, IfErr, OnOk, OnErr, refl, sym, ◌∙◌, ap, subst, append_assoc, arith}
use Rattle.std.proofs.lemmas.List.Elements.{All-set}
use Rattle.std.proofs.lemmas.Option.{slice_get_within, get_or_from_slice_get}
use Rattle.attempt_journal.specs.declared.Timer.{Timer}
use Rattle.radio_book.specs.declared.event.Event.{Event}
use Rattle.radio_book.specs.declared.event.Reply.{Reply}
use Rattle.radio_book.specs.Run.{Leads}
use Rattle.radio_book.specs.State.{State}
use Rattle.radio_book.specs.Table.{step}
use Rattle.channel_fsm.specs.declared.ChanId.{ChanId}
use Rattle.channel_fsm.specs.declared.ChanState.{ChanState}
use Rattle.exchange.specs.declared.Inbound.{Inbound}
use Rattle.link_tables.specs.declared.AttemptEnd.{AttemptEnd}
use Rattle.lab_runs.specs.Turns.{Position, IsTurn, asked_in}
use Rattle.run_listeners.specs.declared.turn.Turn.{Turn}
use Rattle.link_machine.specs.declared.stations.Said.{Said}
use Rattle.trace_text.specs.declared.trace.Step.{Step}
use Rattle.trace_text.specs.declared.trace.Step.TheVariants.{Asked, NoneFree}
use Rattle.link_machine.specs.declared.calls.CallFacts.{CallFacts}
use Rattle.cell_table.specs.Site.{SiteView, index_of}
use Rattle.link_machine.specs.declared.channel.Channel.{Channel}
use Rattle.link_machine.specs.declared.moving.Done.{Done}
use Rattle.link_machine.specs.declared.moving.TurnFacts.{TurnFacts}
use Rattle.link_machine.specs.declared.moving.Word.TheVariants.{AttemptEnded}
use Rattle.link_machine.specs.declared.timers.TimerChange.{TimerChange}
use Rattle.link_machine.specs.Attempts.{undone_on, end_on, ended_at}
use Rattle.link_machine.specs.Laws.{Agrees, AllAgree}
use Rattle.link_machine.specs.Machine.{with_change, changed_at, one_moved, all_moved, all_done, moved_until, done_until}
use Rattle.link_machine.specs.Moving.{told}
use Rattle.link_machine.specs.Timers.{followed, followed_by, ran_out, TimersRun}
use Rattle.link_machine.proofs.Agreeing.{ended_keeps}
use Rattle.link_machine.proofs.TimersRun.{timers_follow, expired_follow}
use Rattle.link_machine.proofs.Walks.{all_have_moved, all_are_done}
use Rattle.bsc_runs.specs.Steps.{followed_step, followed_steps, steps_changes, ended_steps, steps_done, refollowed, expiry_changes, calls_behind, changes_behind}
use Rattle.bsc_runs.specs.Heard.{Says, chan_of, back_on, expired_of}
use Rattle.bsc_runs.specs.Sent.{sent_away}
use Rattle.bsc_runs.specs.Turns.{Links, known_before, settling, channels_behind, done_behind, TimersSoFar, ChannelsSoFar, Follows, FollowsSoFar, Gives, Stops}
use Rattle.bsc_runs.specs.declared.links.LinksFault.{LinksFault}
use Rattle.bsc_runs.specs.declared.links.LinksFault.TheVariants as fault

-- WHERE MEMORY IS REFUSED, OR NOT

pub both_ok : {T E : Type 0} (P Q R : Type 0) (r : Result T E) → (P → Q → R) → OnOk r P → OnOk r Q → OnOk r R
both_ok P Q R (Ok v) go p q = go p q
both_ok P Q R (Err e) go p q = tt

pub where_err : {T E : Type 0} (P Q : Type 0) (r : Result T E) → (P → Q) → OnErr r P → OnErr r Q
where_err P Q (Ok v) go p = tt
where_err P Q (Err e) go p = go p

-- TIMERS

-- the steps that are events are followed
steps_are_followed : (b : State) (calls : List CallFacts) (steps : List Step) → followed_steps b calls steps ≡ followed b calls (asked_in steps)
steps_are_followed b calls [] = refl
steps_are_followed b calls (Asked e reply ∷ steps) = steps_are_followed b (followed_step b calls (Asked e reply)) steps
steps_are_followed b calls (NoneFree cell rate ∷ steps) = steps_are_followed b calls steps

-- what leads on behind what was asked before
leads_on : (b m b' : State) (xs ys : List (Event × Reply)) → Leads b xs m → Leads b (xs ++ ys) b' → Leads m ys b'
leads_on b m b' [] ys first all = subst (λ (s : State). Leads s ys b') (sym first) all
leads_on b m b' (x ∷ xs) ys first all = leads_on (step b x.0) m b' xs ys first.1 all.1

run_behind : (m b' : State) (expired : Option (ℕ × Timer)) (steps : List Step) (calls : List CallFacts) → Leads m (asked_in steps) b' → TimersRun m calls → TimersRun b' (calls_behind b' expired calls steps)
run_behind m b' None steps calls leads run = subst (TimersRun b') (sym (steps_are_followed b' calls steps)) (timers_follow m b' (asked_in steps) calls leads run)
run_behind m b' (Some (c, t)) steps calls leads run =
    subst (TimersRun b') (sym (steps_are_followed b' (followed_by b' (ran_out calls c t) (Some c)) steps)) (expired_follow m b' (asked_in steps) calls c t leads run)

-- timers run just where they are armed behind a turn whose steps were followed, if they did before
pub timers_run : (opening m opening' b' : State) (history history' : List (Event × Reply)) (expired : Option (ℕ × Timer)) (steps : List Step) (calls calls' : List CallFacts) →
    Leads opening history m → Leads opening' history' b' → opening' ≡ opening → history' ≡ history ++ asked_in steps → calls' ≡ calls_behind b' expired calls steps →
    TimersRun m calls → TimersRun b' calls'
timers_run opening m opening' b' history history' expired steps calls calls' before behind opened grown known run =
    let all : Leads opening (history ++ asked_in steps) b' = subst (λ (s : State). Leads s (history ++ asked_in steps) b') opened (subst (λ (h : List (Event × Reply)). Leads opening' h b') grown behind) in
    subst (TimersRun b') (sym known) (run_behind m b' expired steps calls (leads_on opening m b' history (asked_in steps) before all) run)

-- what starts and stops: for the input's timer, and then for those of steps
pub all_changes : (b : State) (expired : Option (ℕ × Timer)) (steps : List Step) (calls mid : List CallFacts) (out out' new : List TimerChange) → mid ≡ refollowed b expired calls → out' ≡ out ++ expiry_changes b expired calls →
    new ≡ out' ++ steps_changes b mid steps → new ≡ out ++ changes_behind b expired calls steps
all_changes b expired steps calls mid out out' new first told then =
    then ∙ (λ i. told i ++ steps_changes b (first i) steps) ∙ append_assoc out (expiry_changes b expired calls) (steps_changes b (refollowed b expired calls) steps)

-- ATTEMPTS

-- an attempt's end moves no state, so that agreement stays
one_keeps : (b : State) (calls : List CallFacts) (end : AttemptEnd) (site : SiteView) (cs : List Channel) (x : ChanId) → AllAgree b cs → AllAgree b (one_moved (told b calls (AttemptEnded end)) site cs x)
one_keeps b calls end site cs x agreed = by (index_of site x)
  where
    there : (n : ℕ) (o : Option Channel) → slice_get cs n ≡ o → AllAgree b (with_change (λ c. (told b calls (AttemptEnded end) c).channel) cs n o)
    there n None is = agreed
    there n (Some c) is =
        let found = get_or_from_slice_get cs n c c is in
        All-set (Agrees b) cs n (told b calls (AttemptEnded end) c).channel (ended_keeps b calls end c (subst (Agrees b) found (agreed n c (slice_get_within cs n c is)))) agreed

    by : (o : Option ℕ) → AllAgree b (changed_at (λ c. (told b calls (AttemptEnded end) c).channel) o cs)
    by None = agreed
    by (Some n) = there n (slice_get cs n) refl

at_keeps : (b : State) (calls : List CallFacts) (back : Option ChanId) (site : SiteView) (cs : List Channel) (o : Option ChanId) → AllAgree b cs → AllAgree b (ended_at b calls back site cs o)
at_keeps b calls back site cs None agreed = agreed
at_keeps b calls back site cs (Some x) agreed = one_keeps b calls (end_on back x) site cs x agreed

pub all_keep : (b : State) (calls : List CallFacts) (back : Option ChanId) (site : SiteView) (cs : List Channel) (steps : List Step) → AllAgree b cs → AllAgree b (ended_steps b calls back site cs steps)
all_keep b calls back site cs [] agreed = agreed
all_keep b calls back site cs (Asked e reply ∷ steps) agreed = all_keep b calls back site (ended_at b calls back site cs (undone_on e reply)) steps (at_keeps b calls back site cs (undone_on e reply) agreed)
all_keep b calls back site cs (NoneFree cell rate ∷ steps) agreed = all_keep b calls back site cs steps agreed

-- CHANNELS

pub channels_so : (b : State) (turn : TurnFacts) (back : Option ChanId) (site site' : SiteView) (steps : List Step) (calls calls' : List CallFacts) (cs settled new : List Channel) →
    site' ≡ site → calls' ≡ calls → settled ≡ all_moved (settling b turn calls) cs → new ≡ ended_steps b calls' back site' settled steps → new ≡ channels_behind b turn back site steps calls cs
channels_so b turn back site site' steps calls calls' cs settled new same_site same_calls moved is = is ∙ (λ i. ended_steps b (same_calls i) back (same_site i) (moved i) steps)

pub done_so : (b : State) (turn : TurnFacts) (back : Option ChanId) (site site' : SiteView) (steps : List Step) (calls calls' : List CallFacts) (cs settled : List Channel) (out out' new : List Done) →
    site' ≡ site → calls' ≡ calls → settled ≡ all_moved (settling b turn calls) cs → out' ≡ out ++ all_done (settling b turn calls) cs → new ≡ out' ++ steps_done b calls' back site' settled steps →
    new ≡ out ++ done_behind b turn back site steps calls cs
done_so b turn back site site' steps calls calls' cs settled out out' new same_site same_calls moved told is =
    is ∙ (λ i. told i ++ steps_done b (same_calls i) back (same_site i) (moved i) steps)
    ∙ append_assoc out (all_done (settling b turn calls) cs) (steps_done b calls back site (all_moved (settling b turn calls) cs) steps)

-- all have moved, and no attempt has ended
pub all_settled : (b : State) (turn : TurnFacts) (calls : List CallFacts) (cs settled : List Channel) (out out' : List Done) → settled ≡ all_moved (settling b turn calls) cs →
    out' ≡ out ++ all_done (settling b turn calls) cs → ChannelsSoFar b turn calls cs out settled out'
all_settled b turn calls cs settled out out' moved told =
    let f = settling b turn calls in
    let n = length cs in
    (n, moved ∙ sym (all_have_moved f n cs (omega arith)), told ∙ ap (λ (l : List Done). out ++ l) (sym (all_are_done f n cs (omega arith))))

-- THE LINKS BEHIND A TURN

pub all_follow : (b : State) (expired : Option (ℕ × Timer)) (turn : TurnFacts) (back : Option ChanId) (site site' : SiteView) (steps : List Step) (l : Links) (calls calls' : List CallFacts) (cs cs' : List Channel) (timers : List TimerChange) (done : List Done) →
    site' ≡ site → cs ≡ l.channels → calls ≡ calls_behind b expired l.calls steps → timers ≡ l.timers ++ changes_behind b expired l.calls steps → calls' ≡ calls →
    cs' ≡ channels_behind b turn back site' steps calls cs → done ≡ l.done ++ done_behind b turn back site' steps calls cs →
    Follows b expired turn back site steps l (record { calls = calls'; channels = cs'; timers = timers; done = done })
all_follow b expired turn back site site' steps l calls calls' cs cs' timers done same_site same_cs first started same are told = record {
  calls = same ∙ first;
  timers = started;
  channels = are ∙ (λ i. channels_behind b turn back (same_site i) steps (sym same i) (same_cs i));
  done = told ∙ (λ i. l.done ++ done_behind b turn back (same_site i) steps (sym same i) (same_cs i));
}

-- where memory is refused for a timer
pub timers_stop : (b : State) (expired : Option (ℕ × Timer)) (turn : TurnFacts) (steps : List Step) (l : Links) (calls : List CallFacts) (cs : List Channel) (timers : List TimerChange) (done : List Done) →
    TimersSoFar b expired l.calls l.timers calls timers → cs ≡ l.channels → done ≡ l.done → FollowsSoFar b expired turn steps l (record { calls = calls; channels = cs; timers = timers; done = done })
timers_stop b expired turn steps l calls cs timers done so same_cs same_done = inl (so, same_cs, same_done)

-- and for a channel
pub channels_stop : (b : State) (expired : Option (ℕ × Timer)) (turn : TurnFacts) (steps : List Step) (l : Links) (calls calls' : List CallFacts) (cs cs' : List Channel) (timers : List TimerChange) (done : List Done) →
    cs ≡ l.channels → calls ≡ calls_behind b expired l.calls steps → timers ≡ l.timers ++ changes_behind b expired l.calls steps → calls' ≡ calls →
    ChannelsSoFar b turn calls cs l.done cs' done → FollowsSoFar b expired turn steps l (record { calls = calls'; channels = cs'; timers = timers; done = done })
channels_stop b expired turn steps l calls calls' cs cs' timers done same_cs first started same (n, are, so) =
    inr (same ∙ first, started, (n, are ∙ (λ i. moved_until (settling b turn (sym same i)) n (same_cs i)), so ∙ (λ i. l.done ++ done_until (settling b turn (sym same i)) n (same_cs i))))

-- THE TURN THAT IS ANSWERED

pub follows_as : (b b' : State) (e e' : Option (ℕ × Timer)) (known : Option (ChanId × ChanState)) (away away' back back' : Option ChanId) (site : SiteView) (steps steps' : List Step) (l l' : Links) →
    b' ≡ b → e' ≡ e → away' ≡ away → back' ≡ back → steps' ≡ steps →
    Follows b' e' (record { about = known; sent_away = away' }) back' site steps' l l' → Follows b e (record { about = known; sent_away = away }) back site steps l l'
follows_as b b' e e' known away away' back back' site steps steps' l l' same_b same_e same_away same_back same_steps h =
    subst (λ (x : State). Follows x e (record { about = known; sent_away = away }) back site steps l l') same_b
    (subst (λ (x : Option (ℕ × Timer)). Follows b' x (record { about = known; sent_away = away }) back site steps l l') same_e
    (subst (λ (x : Option ChanId). Follows b' e' (record { about = known; sent_away = x }) back site steps l l') same_away
    (subst (λ (x : Option ChanId). Follows b' e' (record { about = known; sent_away = away' }) x site steps l l') same_back
    (subst (λ (x : List Step). Follows b' e' (record { about = known; sent_away = away' }) back' site x l l') same_steps h))))

pub so_far_as : (b b' : State) (e e' : Option (ℕ × Timer)) (known : Option (ChanId × ChanState)) (away away' : Option ChanId) (steps steps' : List Step) (l l' : Links) →
    b' ≡ b → e' ≡ e → away' ≡ away → steps' ≡ steps →
    FollowsSoFar b' e' (record { about = known; sent_away = away' }) steps' l l' → FollowsSoFar b e (record { about = known; sent_away = away }) steps l l'
so_far_as b b' e e' known away away' steps steps' l l' same_b same_e same_away same_steps h =
    subst (λ (x : State). FollowsSoFar x e (record { about = known; sent_away = away }) steps l l') same_b
    (subst (λ (x : Option (ℕ × Timer)). FollowsSoFar b' x (record { about = known; sent_away = away }) steps l l') same_e
    (subst (λ (x : Option ChanId). FollowsSoFar b' e' (record { about = known; sent_away = x }) steps l l') same_away
    (subst (λ (x : List Step). FollowsSoFar b' e' (record { about = known; sent_away = away' }) x l l') same_steps h)))

-- the links behind the turn that is answered
pub gives_so : {A E : Type 0} (r : Result (Turn A) E) (turn : Turn A) (input : Inbound A) (said : Option Said) (b : State) (p p' : Position) (known : Option (ChanId × ChanState)) (site : SiteView) (l l' : Links) →
    IfOk r (λ (t : Turn A). t ≡ turn) → turn.input ≡ input → Says input said → p' ≡ p → known ≡ known_before b (chan_of said) →
    OnOk r (Follows p.0.desk.book (expired_of turn.input) (record { about = known; sent_away = sent_away turn.answer }) (back_on said) site turn.steps.items l l') →
    IfOk r (λ (t : Turn A). Gives b t p'.0.desk.book site l l')
gives_so (Ok t) turn input said b p p' known site l l' same same_input says same_p same_known is =
    subst (λ (u : Turn _). Gives b u p'.0.desk.book site l l') (sym same) (
      said,
      subst (λ (i : Inbound _). Says i said) (sym same_input) says,
      subst (λ (q : Position). Follows q.0.desk.book (expired_of turn.input) (record { about = known_before b (chan_of said); sent_away = sent_away turn.answer }) (back_on said) site turn.steps.items l l') (sym same_p)
          (subst (λ (k : Option (ChanId × ChanState)). Follows p.0.desk.book (expired_of turn.input) (record { about = k; sent_away = sent_away turn.answer }) (back_on said) site turn.steps.items l l') same_known is),
    )
gives_so (Err e) turn input said b p p' known site l l' same same_input says same_p same_known is = tt

-- and where memory is refused behind it
pub stops_so : {A : Type 0} (r : Result (Turn A) (LinksFault A)) (turn : Turn A) (input : Inbound A) (said : Option Said) (s p p' : Position) (known : Option (ChanId × ChanState)) (l l' : Links) →
    IfErr r (λ (f : LinksFault A). f ≡ fault.Links turn) → IsTurn s turn p → turn.input ≡ input → Says input said → p' ≡ p → known ≡ known_before s.0.desk.book (chan_of said) →
    OnErr r (FollowsSoFar p.0.desk.book (expired_of turn.input) (record { about = known; sent_away = sent_away turn.answer }) turn.steps.items l l') →
    IfErr r (λ (f : LinksFault A). Stops s input p' l l' f)
stops_so (Ok t) turn input said s p p' known l l' same is_turn same_input says same_p same_known is = tt
stops_so (Err e) turn input said s p p' known l l' same is_turn same_input says same_p same_known is =
    subst (λ (f : LinksFault _). Stops s input p' l l' f) (sym same) (
      subst (λ (q : Position). IsTurn s turn q) (sym same_p) is_turn,
      same_input,
      (
        said,
        subst (λ (i : Inbound _). Says i said) (sym same_input) says,
        subst (λ (q : Position). FollowsSoFar q.0.desk.book (expired_of turn.input) (record { about = known_before s.0.desk.book (chan_of said); sent_away = sent_away turn.answer }) turn.steps.items l l') (sym same_p)
            (subst (λ (k : Option (ChanId × ChanState)). FollowsSoFar p.0.desk.book (expired_of turn.input) (record { about = k; sent_away = sent_away turn.answer }) turn.steps.items l l') same_known is),
      ),
    )
