-- What the facts of an event say of one another.
use Rattle.std.proofs.Common.{◌≡◌, ◌⊎◌, inl, inr, ℕ, true, false, Option, None, Some, is_some, refl, sym, ◌∙◌, ap}
use Rattle.channel_fsm.specs.declared.ChanId.{ChanId}
use Rattle.radio_book.specs.declared.event.Event.{Event}
use Rattle.radio_book.specs.declared.event.Event.TheVariants as event
use Rattle.radio_book.specs.declared.facts.About.{About}
use Rattle.radio_book.specs.declared.facts.About.TheVariants.{Call, Channel}
use Rattle.radio_book.specs.declared.facts.EventFacts.{EventFacts}
use Rattle.radio_book.specs.Facts.{event_facts}
use Rattle.radio_book.specs.Kinds.{call_in, channel_in, call_of, channel_of, released_by, number_of}
use Rattle.radio_book.specs.Found.{ended_by, undone_by}

pub record Agrees (f : EventFacts) : Type 0 where
  -- an attempt ends by an event of its call, and is taken back by one that ends it
  pub ends : (f.ends ≡ None) ⊎ (f.ends ≡ call_in f.about)
  pub undoes : (f.undoes ≡ None) ⊎ (f.undoes ≡ f.ends)
  -- a call's event reserves a number, and a station's acknowledges the release of its channel
  pub reserves : (f.reserves ≡ None) ⊎ (channel_in f.about ≡ None)
  pub releases : (f.releases ≡ None) ⊎ (f.releases ≡ channel_in f.about)

pub facts_agree : (e : Event) → Agrees (event_facts e)
facts_agree (event.Open c x) = record { ends = inl refl; undoes = inl refl; reserves = inl refl; releases = inl refl }
facts_agree (event.Clear c) = record { ends = inl refl; undoes = inl refl; reserves = inl refl; releases = inl refl }
facts_agree (event.Look c) = record { ends = inl refl; undoes = inl refl; reserves = inl refl; releases = inl refl }
facts_agree (event.Take c k x) = record { ends = inl refl; undoes = inl refl; reserves = inl refl; releases = inl refl }
facts_agree (event.Reserve c n) = record { ends = inl refl; undoes = inl refl; reserves = inr refl; releases = inl refl }
facts_agree (event.Activate c) = record { ends = inl refl; undoes = inl refl; reserves = inl refl; releases = inl refl }
facts_agree (event.Command c) = record { ends = inl refl; undoes = inl refl; reserves = inl refl; releases = inl refl }
facts_agree (event.Complete c) = record { ends = inr refl; undoes = inl refl; reserves = inl refl; releases = inl refl }
facts_agree (event.Undo c why) = record { ends = inr refl; undoes = inr refl; reserves = inl refl; releases = inl refl }
facts_agree (event.Confirm x) = record { ends = inl refl; undoes = inl refl; reserves = inl refl; releases = inl refl }
facts_agree (event.Refuse x) = record { ends = inl refl; undoes = inl refl; reserves = inl refl; releases = inl refl }
facts_agree (event.Detect x) = record { ends = inl refl; undoes = inl refl; reserves = inl refl; releases = inl refl }
facts_agree (event.Released x) = record { ends = inl refl; undoes = inl refl; reserves = inl refl; releases = inr refl }
facts_agree (event.Owner x) = record { ends = inl refl; undoes = inl refl; reserves = inl refl; releases = inl refl }
facts_agree (event.Require c) = record { ends = inl refl; undoes = inl refl; reserves = inl refl; releases = inl refl }
facts_agree (event.Order c) = record { ends = inl refl; undoes = inl refl; reserves = inl refl; releases = inl refl }
facts_agree (event.Left c) = record { ends = inr refl; undoes = inl refl; reserves = inl refl; releases = inl refl }

-- one of two that is there is the other
is_other : {X : Type 0} (o p : Option X) (x : X) → (o ≡ None) ⊎ (o ≡ p) → o ≡ Some x → p ≡ Some x
is_other o p x (inl none) is = let bad : None ≡ Some x = sym none ∙ is in cc
is_other o p x (inr same) is = sym same ∙ is

-- an event that ends an attempt of a call is asked for it
pub ends_by_call : (c : ℕ) (e : Event) → ended_by e ≡ Some c → call_of e ≡ Some c
ends_by_call c e is = is_other (ended_by e) (call_of e) c (facts_agree e).ends is

-- an event that takes back an attempt ends it
pub undo_is_end : (e : Event) → is_some (undone_by e) ≡ true → undone_by e ≡ ended_by e
undo_is_end e undoes = by (undone_by e) refl (facts_agree e).undoes
  where
    by : (o : Option ℕ) → undone_by e ≡ o → (undone_by e ≡ None) ⊎ (undone_by e ≡ ended_by e) → undone_by e ≡ ended_by e
    by o is (inl none) = let bad : false ≡ true = sym (ap is_some none) ∙ undoes in cc
    by o is (inr same) = same

-- a station's event reserves no number
pub station_reserves_none : (e : Event) (x : ChanId) → channel_of e ≡ Some x → number_of e ≡ None
station_reserves_none e x on = by (facts_agree e).reserves
  where
    by : (number_of e ≡ None) ⊎ (channel_of e ≡ None) → number_of e ≡ None
    by (inl none) = none
    by (inr none) = let bad : None ≡ Some x = sym none ∙ on in cc

-- an event that acknowledges the release of a channel is about it
pub released_on : (e : Event) (x : ChanId) → released_by e ≡ Some x → channel_of e ≡ Some x
released_on e x is = is_other (released_by e) (channel_of e) x (facts_agree e).releases is

-- no event is both asked for a call and a station's
pub one_or_other : (e : Event) (c : ℕ) (x : ChanId) → call_of e ≡ Some c → channel_of e ≡ Some x → ⊥
one_or_other e c x = by (event_facts e).about
  where
    by : (about : About) → call_in about ≡ Some c → channel_in about ≡ Some x → ⊥
    by (Call d) = λ asked on. let bad : None ≡ Some x = on in cc
    by (Channel y) = λ asked on. let bad : None ≡ Some c = asked in cc
