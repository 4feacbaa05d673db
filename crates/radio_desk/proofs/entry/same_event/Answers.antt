use Rattle.std.proofs.Common.{◌≡◌, ℕ, sym, ◌∙◌, rules}
use Rattle.std.specs.Bool.{Decides}
use Rattle.channel_fsm.specs.declared.ChanId.{ChanId}
use Rattle.radio_book.specs.declared.event.Kind.{Kind}
use Rattle.radio_book.specs.declared.event.Why.{Why}
use Rattle.radio_book.specs.declared.event.Event.{Event}
use Rattle.radio_book.specs.declared.event.Event.TheVariants as event
use Rattle.radio_book.specs.contracts.event.EventPartialEq.TheImpl.{eq-value as event_eq}
use Rattle.radio_desk.proofs.entry.same_event.Goals as goal

-- `==` tells an event of each kind
like_open : (c : ℕ) (x : ChanId) (e : Event) → Decides (event_eq.it (event.Open c x) e) (event.Open c x ≡ e)
like_open c x e = search rules

like_clear : (c : ℕ) (e : Event) → Decides (event_eq.it (event.Clear c) e) (event.Clear c ≡ e)
like_clear c e = search rules

like_look : (c : ℕ) (e : Event) → Decides (event_eq.it (event.Look c) e) (event.Look c ≡ e)
like_look c e = search rules

like_take : (c : ℕ) (k : Kind) (x : ChanId) (e : Event) → Decides (event_eq.it (event.Take c k x) e) (event.Take c k x ≡ e)
like_take c k x e = search rules

like_reserve : (c : ℕ) (n : ℕ) (e : Event) → Decides (event_eq.it (event.Reserve c n) e) (event.Reserve c n ≡ e)
like_reserve c n e = search rules

like_activate : (c : ℕ) (e : Event) → Decides (event_eq.it (event.Activate c) e) (event.Activate c ≡ e)
like_activate c e = search rules

like_command : (c : ℕ) (e : Event) → Decides (event_eq.it (event.Command c) e) (event.Command c ≡ e)
like_command c e = search rules

like_complete : (c : ℕ) (e : Event) → Decides (event_eq.it (event.Complete c) e) (event.Complete c ≡ e)
like_complete c e = search rules

like_undo : (c : ℕ) (why : Why) (e : Event) → Decides (event_eq.it (event.Undo c why) e) (event.Undo c why ≡ e)
like_undo c why e = search rules

like_confirm : (x : ChanId) (e : Event) → Decides (event_eq.it (event.Confirm x) e) (event.Confirm x ≡ e)
like_confirm x e = search rules

like_refuse : (x : ChanId) (e : Event) → Decides (event_eq.it (event.Refuse x) e) (event.Refuse x ≡ e)
like_refuse x e = search rules

like_detect : (x : ChanId) (e : Event) → Decides (event_eq.it (event.Detect x) e) (event.Detect x ≡ e)
like_detect x e = search rules

like_released : (x : ChanId) (e : Event) → Decides (event_eq.it (event.Released x) e) (event.Released x ≡ e)
like_released x e = search rules

like_owner : (x : ChanId) (e : Event) → Decides (event_eq.it (event.Owner x) e) (event.Owner x ≡ e)
like_owner x e = search rules

like_require : (c : ℕ) (e : Event) → Decides (event_eq.it (event.Require c) e) (event.Require c ≡ e)
like_require c e = search rules

like_order : (c : ℕ) (e : Event) → Decides (event_eq.it (event.Order c) e) (event.Order c ≡ e)
like_order c e = search rules

like_left : (c : ℕ) (e : Event) → Decides (event_eq.it (event.Left c) e) (event.Left c ≡ e)
like_left c e = search rules

event_eq-Decides : (one other : Event) → Decides (event_eq.it one other) (one ≡ other)
event_eq-Decides (event.Open c x) other = like_open c x other
event_eq-Decides (event.Clear c) other = like_clear c other
event_eq-Decides (event.Look c) other = like_look c other
event_eq-Decides (event.Take c k x) other = like_take c k x other
event_eq-Decides (event.Reserve c n) other = like_reserve c n other
event_eq-Decides (event.Activate c) other = like_activate c other
event_eq-Decides (event.Command c) other = like_command c other
event_eq-Decides (event.Complete c) other = like_complete c other
event_eq-Decides (event.Undo c why) other = like_undo c why other
event_eq-Decides (event.Confirm x) other = like_confirm x other
event_eq-Decides (event.Refuse x) other = like_refuse x other
event_eq-Decides (event.Detect x) other = like_detect x other
event_eq-Decides (event.Released x) other = like_released x other
event_eq-Decides (event.Owner x) other = like_owner x other
event_eq-Decides (event.Require c) other = like_require c other
event_eq-Decides (event.Order c) other = like_order c other
event_eq-Decides (event.Left c) other = like_left c other

pub returns : goal.returns
returns c =
    let decides = event_eq-Decides c.args.one c.args.other in
    ((λ t. decides.0 (sym c.eq.ensures ∙ t)), λ e. c.eq.ensures ∙ decides.1 e)
