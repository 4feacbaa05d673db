-- The laws, by computing each of their cases.
use Rattle.std.proofs.Common.{◌≡◌, ◌≢◌, ◌&&◌, ◌||◌, ℕ, Bool, true, false, refl, sym, inl, inr}
use Rattle.std.proofs.Math.Bool.{not}
use Rattle.std.specs.List.{list_all}
use Rattle.std.proofs.lemmas.Bool.{false≢true, true≢false}
use Rattle.channel_fsm.specs.declared.ChanState.{ChanState}
use Rattle.link_tables.specs.declared.Lchan.{Lchan}
use Rattle.link_tables.specs.declared.Heard.{Heard}
use Rattle.link_tables.specs.declared.Heard.TheVariants.{ActivationAck, ActivationNack, ReleaseAck, ConnectionFailure, HandoverDetection, HandoverComplete, HandoverFailure, MeasurementResult, DataIndication, EstablishIndication, ReleaseIndication, Expired, LinkLost, LinkUp, BarAsked, UnbarAsked}
use Rattle.link_tables.specs.declared.Holder.{Holder}
use Rattle.link_tables.specs.declared.Holder.TheVariants.{Nobody, Past, Barred, Call}
use Rattle.link_tables.specs.declared.Timer.{Timer}
use Rattle.link_tables.specs.declared.Timer.TheVariants.{Activation, T3109, T3111, Release, Bar}
use Rattle.link_tables.specs.declared.Act.TheVariants as act
use Rattle.link_tables.specs.declared.Circumstances.{Circumstances}
use Rattle.link_tables.specs.Acts.{lchans}
use Rattle.link_tables.specs.Hearing.{heard_step, same_heard}
use Rattle.link_tables.specs.Settling.{settled_step, is_on}
use Rattle.link_tables.specs.Laws.{SettledAgrees, HeardAgrees, HeardAsksOnce, SettledAsksOnce, HeardAwaits, SettledAwaits, ClosingEnds, HeardRuns, SettledRuns, ClockRuns, agrees, agrees_behind, asks, awaits, awaited, does, runs, runs_behind}
use Rattle.link_tables.proofs.Every.{every_lchan, every_heard, every_holder, every_standing, every_book, heards, holders, standings, books}

-- TESTS

abbrev same : Bool → Bool → Bool
same true b = b
same false b = not b

same_is : (a b : Bool) → same a b ≡ true → a ≡ b
same_is true b is = sym is
same_is false true is = absurd (false≢true is)
same_is false false is = refl

never_both : (a b : Bool) → not (a && b) ≡ true → a ≡ true → b ≡ false
never_both true true is a = absurd (false≢true is)
never_both true false is a = refl
never_both false b is a = absurd (false≢true a)

where_so : (a b x : Bool) → (not a || (b || x)) ≡ true → a ≡ true → b ≡ false → x ≡ true
where_so true true x is a b = absurd (true≢false b)
where_so true false x is a b = is
where_so false b x is a so = absurd (false≢true a)

heard_each : (p : Lchan → Heard → Holder → Bool) → list_all (λ l. list_all (λ h. list_all (p l h) holders) heards) lchans ≡ true → (l : Lchan) (h : Heard) (w : Holder) → p l h w ≡ true
heard_each p all l h w =
    every_holder (p l h) (every_heard (λ h. list_all (p l h) holders) (every_lchan (λ l. list_all (λ h. list_all (p l h) holders) heards) all l) h) w

settled_each : (p : Lchan → ChanState → ChanState → Circumstances → Bool) →
    ((c d : ℕ) → list_all (λ l. list_all (λ b. list_all (λ n. list_all (p l b n) standings) (books d)) (books c)) lchans ≡ true) →
    (l : Lchan) (b n : ChanState) (s : Circumstances) → p l b n s ≡ true
settled_each p all l b n s =
    every_standing (p l b n) (every_book (λ n. list_all (p l b n) standings) (λ d. every_book (λ b. list_all (λ n. list_all (p l b n) standings) (books d)) (λ c. every_lchan (λ l. list_all (λ b. list_all (λ n. list_all (p l b n) standings) (books d)) (books c)) (all c d) l) b) n) s

-- THE LAWS

pub settled_agree : SettledAgrees
settled_agree = settled_each (λ l b n s. agrees_behind n (settled_step l b n s)) (λ c d. refl)

abbrev keeps_agreement : Lchan → Heard → Holder → ChanState → Bool
keeps_agreement l h w b = not (agrees b l) || (does (heard_step l h w).acts act.Give || agrees_behind b (heard_step l h w))

-- the same of each state of the book
agreement_kept : (c : ℕ) → (l : Lchan) (h : Heard) (w : Holder) → list_all (keeps_agreement l h w) (books c) ≡ true
agreement_kept c = heard_each (λ l h w. list_all (keeps_agreement l h w) (books c)) refl

pub heard_agree : HeardAgrees
heard_agree l h w b agreed given =
    where_so (agrees b l) (does (heard_step l h w).acts act.Give) (agrees_behind b (heard_step l h w))
    (every_book (keeps_agreement l h w) (λ c. agreement_kept c l h w) b) agreed given

pub heard_asks_once : HeardAsksOnce
heard_asks_once l h w = never_both (asks (heard_step l h w)) (awaited l h) (heard_each (λ l h w. not (asks (heard_step l h w) && awaited l h)) refl l h w)

pub settled_asks_once : SettledAsksOnce
settled_asks_once l b n s = never_both (asks (settled_step l b n s)) (awaits l) (settled_each (λ l b n s. not (asks (settled_step l b n s) && awaits l)) (λ c d. refl) l b n s)

pub heard_awaits : HeardAwaits
heard_awaits l h w =
    same_is (awaits (heard_step l h w).next) (does (heard_step l h w).acts act.SendRelease || awaited l h)
    (heard_each (λ l h w. same (awaits (heard_step l h w).next) (does (heard_step l h w).acts act.SendRelease || awaited l h)) refl l h w)

abbrev awaits_so : Lchan → ChanState → ChanState → Circumstances → Bool
awaits_so l b n s = same (awaits (settled_step l b n s).next) (does (settled_step l b n s).acts act.SendRelease || awaits l)

pub settled_awaits : SettledAwaits
settled_awaits l b n s linked off =
    same_is (awaits (settled_step l b n s).next) (does (settled_step l b n s).acts act.SendRelease || awaits l)
    (where_so s.has_link (is_on n) (awaits_so l b n s) (settled_each (λ l b n s. not s.has_link || (is_on n || awaits_so l b n s)) (λ c d. refl) l b n s) linked off)

pub closing_ends : ClosingEnds
closing_ends ActivationAck w = inl refl
closing_ends ActivationNack w = inl refl
closing_ends ReleaseAck w = inr (inl refl)
closing_ends ConnectionFailure w = inl refl
closing_ends HandoverDetection w = inl refl
closing_ends HandoverComplete w = inl refl
closing_ends HandoverFailure w = inl refl
closing_ends MeasurementResult w = inl refl
closing_ends DataIndication w = inl refl
closing_ends EstablishIndication w = inl refl
closing_ends ReleaseIndication w = inl refl
closing_ends LinkLost w = inr (inr refl)
closing_ends LinkUp w = inl refl
closing_ends BarAsked w = inl refl
closing_ends UnbarAsked Nobody = inl refl
closing_ends UnbarAsked Past = inl refl
closing_ends UnbarAsked (Barred kind) = inl refl
closing_ends UnbarAsked (Call u) = inl refl
closing_ends (Expired Activation) w = inl refl
closing_ends (Expired T3109) w = inl refl
closing_ends (Expired T3111) w = inl refl
closing_ends (Expired Release) w = inl refl
closing_ends (Expired Bar) w = inl refl

abbrev heard_runs_so : Timer → Lchan → Heard → Holder → Bool
heard_runs_so t l h w = same (runs_behind (heard_step l h w).acts t (runs l t && not (same_heard h (Expired t)))) (runs (heard_step l h w).next t)

abbrev settled_runs_so : Timer → Lchan → ChanState → ChanState → Circumstances → Bool
settled_runs_so t l b n s = same (runs_behind (settled_step l b n s).acts t (runs l t)) (runs (settled_step l b n s).next t)

heard_runs_each : (t : Timer) → t ≢ Bar → (l : Lchan) (h : Heard) (w : Holder) → heard_runs_so t l h w ≡ true
heard_runs_each Activation own = heard_each (heard_runs_so Activation) refl
heard_runs_each T3109 own = heard_each (heard_runs_so T3109) refl
heard_runs_each T3111 own = heard_each (heard_runs_so T3111) refl
heard_runs_each Release own = heard_each (heard_runs_so Release) refl
heard_runs_each Bar own = absurd (own refl)

settled_runs_each : (t : Timer) → t ≢ Bar → (l : Lchan) (b n : ChanState) (s : Circumstances) → settled_runs_so t l b n s ≡ true
settled_runs_each Activation own = settled_each (settled_runs_so Activation) (λ c d. refl)
settled_runs_each T3109 own = settled_each (settled_runs_so T3109) (λ c d. refl)
settled_runs_each T3111 own = settled_each (settled_runs_so T3111) (λ c d. refl)
settled_runs_each Release own = settled_each (settled_runs_so Release) (λ c d. refl)
settled_runs_each Bar own = absurd (own refl)

pub heard_runs : HeardRuns
heard_runs l h w t own =
    same_is (runs_behind (heard_step l h w).acts t (runs l t && not (same_heard h (Expired t)))) (runs (heard_step l h w).next t) (heard_runs_each t own l h w)

pub settled_runs : SettledRuns
settled_runs l b n s t own =
    same_is (runs_behind (settled_step l b n s).acts t (runs l t)) (runs (settled_step l b n s).next t) (settled_runs_each t own l b n s)

pub clock_runs : ClockRuns
clock_runs false false = refl
clock_runs false true = refl
clock_runs true false = refl
clock_runs true true = refl
