-- What `next` answers is what the table says.
use Rattle.std.proofs.Common.{◌≡◌, ◌==◌, ℕ, Bool, true, false, if◌then◌else◌, Some, None, refl, ap, subst, arith}
use Rattle.std.proofs.lemmas.Bool.Decides.{nat_tests}
use Rattle.std.proofs.lemmas.Option.{same_Some, none-some}
use Rattle.channel_fsm.specs.declared.ChanState.{ChanState}
use Rattle.channel_fsm.specs.declared.ChanState.TheVariants.{Free, Held, Pending, On, Off}
use Rattle.channel_fsm.specs.declared.ChanEvent.{ChanEvent}
use Rattle.channel_fsm.specs.declared.ChanEvent.TheVariants.{Take, Begin, Send, Confirm, Refuse, SwitchOff, Drop, Released}
use Rattle.channel_fsm.specs.Table.{IsStep, take, begin, send, confirm, refuse, switch_off_pending, switch_off_on, drop, release, next_state, NextIsTheTable}

same : (c d : ℕ) → (c == d) ≡ true → c ≡ d
same c d e = grind (arith, nat_tests)

itself : (c : ℕ) → (c == c) ≡ true
itself c = grind (arith, nat_tests)

sent_by : (c d : ℕ) (after : ChanState) (b : Bool) → (c == d) ≡ b → (if b then Some (Pending c) else None) ≡ Some after → IsStep (Held c) (Send d) after
sent_by c d after true is leads = subst (λ e. IsStep (Held c) (Send e) after) (same c d is) (subst (IsStep (Held c) (Send c)) (same_Some (Pending c) after leads) send)
sent_by c d after false is leads = absurd (none-some after leads)

there : (state : ChanState) (event : ChanEvent) (after : ChanState) → next_state state event ≡ Some after → IsStep state event after
there Free (Take d) after leads = subst (IsStep Free (Take d)) (same_Some (Held d) after leads) take
there Free (Begin d) after leads = subst (IsStep Free (Begin d)) (same_Some (Pending d) after leads) begin
there Free (Send d) after leads = absurd (none-some after leads)
there Free Confirm after leads = absurd (none-some after leads)
there Free Refuse after leads = absurd (none-some after leads)
there Free SwitchOff after leads = absurd (none-some after leads)
there Free Drop after leads = absurd (none-some after leads)
there Free Released after leads = absurd (none-some after leads)
there (Held c) (Take d) after leads = absurd (none-some after leads)
there (Held c) (Begin d) after leads = absurd (none-some after leads)
there (Held c) (Send d) after leads = sent_by c d after (c == d) refl leads
there (Held c) Confirm after leads = absurd (none-some after leads)
there (Held c) Refuse after leads = absurd (none-some after leads)
there (Held c) SwitchOff after leads = absurd (none-some after leads)
there (Held c) Drop after leads = subst (IsStep (Held c) Drop) (same_Some Free after leads) drop
there (Held c) Released after leads = absurd (none-some after leads)
there (Pending c) (Take d) after leads = absurd (none-some after leads)
there (Pending c) (Begin d) after leads = absurd (none-some after leads)
there (Pending c) (Send d) after leads = absurd (none-some after leads)
there (Pending c) Confirm after leads = subst (IsStep (Pending c) Confirm) (same_Some (On c) after leads) confirm
there (Pending c) Refuse after leads = subst (IsStep (Pending c) Refuse) (same_Some (Held c) after leads) refuse
there (Pending c) SwitchOff after leads = subst (IsStep (Pending c) SwitchOff) (same_Some Off after leads) switch_off_pending
there (Pending c) Drop after leads = absurd (none-some after leads)
there (Pending c) Released after leads = absurd (none-some after leads)
there (On c) (Take d) after leads = absurd (none-some after leads)
there (On c) (Begin d) after leads = absurd (none-some after leads)
there (On c) (Send d) after leads = absurd (none-some after leads)
there (On c) Confirm after leads = absurd (none-some after leads)
there (On c) Refuse after leads = absurd (none-some after leads)
there (On c) SwitchOff after leads = subst (IsStep (On c) SwitchOff) (same_Some Off after leads) switch_off_on
there (On c) Drop after leads = absurd (none-some after leads)
there (On c) Released after leads = absurd (none-some after leads)
there Off (Take d) after leads = absurd (none-some after leads)
there Off (Begin d) after leads = absurd (none-some after leads)
there Off (Send d) after leads = absurd (none-some after leads)
there Off Confirm after leads = absurd (none-some after leads)
there Off Refuse after leads = absurd (none-some after leads)
there Off SwitchOff after leads = absurd (none-some after leads)
there Off Drop after leads = absurd (none-some after leads)
there Off Released after leads = subst (IsStep Off Released) (same_Some Free after leads) release

back : {state : ChanState} {event : ChanEvent} {after : ChanState} → IsStep state event after → next_state state event ≡ Some after
back take = refl
back begin = refl
back (send {c = c}) = ap (λ b. if b then Some (Pending c) else None) (itself c)
back confirm = refl
back refuse = refl
back switch_off_pending = refl
back switch_off_on = refl
back drop = refl
back release = refl

pub next_rows : NextIsTheTable
next_rows state event after = (there state event after, λ is. back is)
