-- The lists of an office, with one more.
use Rattle.std.proofs.Common.{◌≡◌, ◌≢◌, ℕ, ◌<◌, ◌%◌, List, [], ◌∷◌, ◌++◌, length, get_or, set, map, ap, sym, ◌∙◌, arith, Option, Some, None, MatchOption, All, append_assoc, refl, suc}
use Rattle.std.proofs.lemmas.List.{get_or_default, set-get_or, map-append, append-nil, length-map}
use Rattle.cell_table.specs.Site.{SiteView}
use Rattle.radio_book.specs.State.{State}
use Rattle.radio_book.specs.declared.event.Event.{Event}
use Rattle.radio_book.specs.declared.event.Reply.{Reply}
use Rattle.radio_desk.specs.Receipts.{Receipt}
use Rattle.radio_desk.specs.Desk.{DeskState}
use Rattle.exchange.specs.declared.Inbound.{Inbound}
use Rattle.ho_procedure.specs.Sent.{Sent}
use Rattle.receipt_check.specs.declared.CloseFault.{CloseFault}
use Rattle.receipt_check.specs.declared.CloseFault.TheVariants.{Missing, Twice, Count, Opening, NoMemory}
use Rattle.receipt_check.specs.Gathering.{FirstWrong, IsGatherFault, StandsAt}
use Rattle.receipt_check.proofs.Gathered.{stands_both, wrong_behind}
use Rattle.call_worker.specs.declared.posted.WorkerEnd.{WorkerEnd}
use Rattle.call_worker.specs.States.{WorkerState, new_worker, with_input}
use Rattle.call_worker.specs.Ending.{IsEnd}
use Rattle.call_worker.specs.Giving.{GivesTo}
use Rattle.call_worker.specs.Closing.{AreEnds, IsCloseFault}

-- two lists of which one isn't empty
module _ {A : Type 0} where
  pub some_before : (a b : List A) → a ≢ [] → (a ++ b) ≢ []
  some_before [] b some = λ e. some refl
  some_before (x ∷ a) b some = λ e. (cc)

  pub some_behind : (a b : List A) → b ≢ [] → (a ++ b) ≢ []
  some_behind [] b some = some
  some_behind (x ∷ a) b some = λ e. (cc)

-- a list that is gone through by value: what is done, and what is left
module _ {L : Type 0} where
  pub fresh_rest : (refused : L → ℕ) (all rest : List L) (x : L) → all ≡ x ∷ rest → All (λ l. refused l ≡ 0) all → All (λ l. refused l ≡ 0) rest
  fresh_rest refused all rest x e h k d lt = let h' = rw e at h in h' (suc k) d (omega arith)

  pub fresh_first : (refused : L → ℕ) (all rest : List L) (x : L) → all ≡ x ∷ rest → All (λ l. refused l ≡ 0) all → refused x ≡ 0
  fresh_first refused all rest x e h = let h' = rw e at h in h' 0 x (omega arith)

  pub done_all : (all done rest : List L) → all ≡ done ++ rest → rest ≡ [] → all ≡ done
  done_all all done rest a b = a ∙ (ap (λ l. done ++ l) b ∙ append-nil done)

  pub step_of : (all done old new : List L) (x : L) → all ≡ done ++ old → old ≡ x ∷ new → all ≡ (done ++ x ∷ []) ++ new
  step_of all done old new x a b = a ∙ (ap (λ l. done ++ l) b ∙ sym (append_assoc done (x ∷ []) new))

module _ {L A : Type 0} where
  pub ends_more : (passed : L → List Sent) (refused : L → ℕ) (ws : List (WorkerState L A)) (es : List (WorkerEnd L A)) (w : WorkerState L A) (e : WorkerEnd L A)
      → AreEnds passed refused ws es → IsEnd passed refused w e → AreEnds passed refused (ws ++ w ∷ []) (es ++ e ∷ [])
  ends_more passed refused [] [] w e a i = (i, tt)
  ends_more passed refused [] (x ∷ es) w e a i = absurd a
  ends_more passed refused (v ∷ ws) [] w e a i = absurd a
  ends_more passed refused (v ∷ ws) (x ∷ es) w e a i = (a.0, ends_more passed refused ws es w e a.1 i)

  pub gives : (number number' n : ℕ) (input : Inbound A) (old items : List (WorkerState L A)) (p q x : WorkerState L A)
      → items ≡ old → number' ≡ number → n ≡ length items → 0 < n → p ≡ get_or items (number' % n) x → q ≡ with_input input p
      → GivesTo (number % length old) input old (set items (number' % n) q)
  gives number number' n input old items p q x a b c some at is =
      let i : ℕ = number % length items in
      let within : i < length items = omega arith in
      let found : p ≡ get_or items i x = rw (← b, ← c) at in
      rw (← a, b, c) (within, λ d. ap (λ y. set items i y) (is ∙ ap (with_input input) (found ∙ sym (get_or_default items i d x within))))

  pub keeps : (i : ℕ) (old items : List (WorkerState L A)) (p q x : WorkerState L A) → items ≡ old → p ≡ get_or items i x → q ≡ p → set items i q ≡ old
  keeps i old items p q x a at is = rw (is, at) (set-get_or items i x ∙ a)

  -- workers that were started at a site, one for each of the links
  pub start_done : (site : SiteView) (links done : List L) (workers : List (WorkerState L A)) → links ≡ done → workers ≡ map (new_worker site) done → workers ≡ map (new_worker site) links
  start_done site links done workers e f = f ∙ ap (λ ls. map (new_worker site) ls) (sym e)

  pub start_more : (site : SiteView) (done : List L) (workers workers' : List (WorkerState L A)) (x : L) (w : WorkerState L A)
      → workers ≡ map (new_worker site) done → workers' ≡ workers ++ w ∷ [] → w ≡ new_worker site x → workers' ≡ map (new_worker site) (done ++ x ∷ [])
  start_more site done workers workers' x w a b c = b ∙ (rw (a, c) (sym (map-append (new_worker site) done (x ∷ []))))

  pub start_count : (site : SiteView) (links : List L) (workers : List (WorkerState L A)) (n m : ℕ) → workers ≡ map (new_worker site) links → m ≡ length workers → n ≡ length links → m ≡ n
  start_count site links workers n m e a b = a ∙ (ap (λ l. length l) e ∙ (length-map links (new_worker site) ∙ sym b))

  pub start_site : (opening book : State) (links : List L) (workers workers' : List (WorkerState L A)) → workers ≡ workers' → workers' ≡ map (new_worker opening.site) links → opening ≡ book → workers ≡ map (new_worker book.site) links
  start_site opening book links workers workers' a b e = a ∙ (b ∙ ap (λ (o : State). map (new_worker o.site) links) e)

-- what is found in the second part of receipts, where the first has nothing wrong
pub found_behind : (history : List (Event × Reply)) (a b : List Receipt) (found : Option Receipt) → StandsAt history a (length a)
    → MatchOption found (StandsAt history b (length b)) (λ r. FirstWrong history b r) → MatchOption found (StandsAt history (a ++ b) (length (a ++ b))) (λ r. FirstWrong history (a ++ b) r)
found_behind history a b None first f = stands_both history a b first f
found_behind history a b (Some r) first f = wrong_behind history a b r first f

-- what the check of the receipts finds is a fault of a closing
pub closing_fault : (opening : State) (d : DeskState) (all : List Receipt) (e : CloseFault) → IsGatherFault d.history all e → IsCloseFault opening d all e
closing_fault opening d all (Missing r) f = f
closing_fault opening d all (Twice place) f = f
closing_fault opening d all Count f = f
closing_fault opening d all Opening f = absurd f
closing_fault opening d all NoMemory f = f
