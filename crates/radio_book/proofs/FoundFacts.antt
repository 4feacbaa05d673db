-- What opens and what takes back an attempt, by event; and the events with their replies as steps.
use Rattle.std.proofs.Common.{◌≡◌, inl, inr, ◌+◌, ℕ, List, [], ◌∷◌, map, Option, Some, None, refl, sym, ap}
use Rattle.std.specs.List.{enumerate_from, zip}
use Rattle.channel_fsm.specs.declared.ChanId.{ChanId}
use Rattle.radio_book.specs.declared.event.Event.{Event}
use Rattle.radio_book.specs.declared.event.Event.TheVariants as event
use Rattle.radio_book.specs.declared.event.Reply.{Reply}
use Rattle.radio_book.specs.State.{State}
use Rattle.radio_book.specs.Table.{step, reply_to}
use Rattle.radio_book.specs.Run.{run_replies}
use Rattle.radio_book.specs.Undone.{Opens, Undoes, steps_from, events_of}
use Rattle.radio_book.specs.Found.{opened_by, undone_by}
use Rattle.radio_book.proofs.Frame.{same_some}

pub opens_from : (c : ℕ) (t : Option ChanId) (e : Event) → opened_by e ≡ Some (c, t) → Opens c t e
opens_from c t (event.Take d k x) is =
    let pair = same_some _ _ is in
    let same : d ≡ c = ap (λ (p : ℕ × Option ChanId). p.0) pair in
    let aims : Some x ≡ t = ap (λ (p : ℕ × Option ChanId). p.1) pair in
    inl (k, x, ap (λ d. event.Take d k x) same, sym aims)
opens_from c t (event.Require d) is =
    let pair = same_some _ _ is in
    let same : d ≡ c = ap (λ (p : ℕ × Option ChanId). p.0) pair in
    let none : None ≡ t = ap (λ (p : ℕ × Option ChanId). p.1) pair in
    inr (ap event.Require same, sym none)
opens_from c t (event.Open d x) is = cc
opens_from c t (event.Clear d) is = cc
opens_from c t (event.Look d) is = cc
opens_from c t (event.Reserve d n) is = cc
opens_from c t (event.Activate d) is = cc
opens_from c t (event.Command d) is = cc
opens_from c t (event.Complete d) is = cc
opens_from c t (event.Undo d why) is = cc
opens_from c t (event.Confirm x) is = cc
opens_from c t (event.Refuse x) is = cc
opens_from c t (event.Detect x) is = cc
opens_from c t (event.Released x) is = cc
opens_from c t (event.Owner x) is = cc
opens_from c t (event.Order d) is = cc
opens_from c t (event.Left d) is = cc

pub undoes_from : (c : ℕ) (e : Event) → undone_by e ≡ Some c → Undoes c e
undoes_from c (event.Undo d why) is = let same : d ≡ c = cc in (why, ap (λ d. event.Undo d why) same)
undoes_from c (event.Open d x) is = cc
undoes_from c (event.Clear d) is = cc
undoes_from c (event.Look d) is = cc
undoes_from c (event.Take d k x) is = cc
undoes_from c (event.Reserve d n) is = cc
undoes_from c (event.Activate d) is = cc
undoes_from c (event.Command d) is = cc
undoes_from c (event.Complete d) is = cc
undoes_from c (event.Confirm x) is = cc
undoes_from c (event.Refuse x) is = cc
undoes_from c (event.Detect x) is = cc
undoes_from c (event.Released x) is = cc
undoes_from c (event.Owner x) is = cc
undoes_from c (event.Require d) is = cc
undoes_from c (event.Order d) is = cc
undoes_from c (event.Left d) is = cc

-- the events with their replies, each at its place
pub steps_are : (n : ℕ) (b : State) (es : List Event) →
    map (λ (p : ℕ × (Event × Reply)). record { place = p.0; event = p.1.0; reply = p.1.1 }) (enumerate_from n (zip es (run_replies b es))) ≡ steps_from n b es
steps_are n b [] = refl
steps_are n b (e ∷ es) = ap (λ ss. record { place = n; event = e; reply = reply_to b e } ∷ ss) (steps_are (n + 1) (step b e) es)

pub events_same : (n : ℕ) (b : State) (es : List Event) → events_of (steps_from n b es) ≡ es
events_same n b [] = refl
events_same n b (e ∷ es) = ap (λ es. e ∷ es) (events_same (n + 1) (step b e) es)
