-- While the release of an undone attempt's target is awaited: the steps that stay lead alike with the target and without it.
use Rattle.std.proofs.Common.{◌≡◌, Bool, true, false, not, cond, ◌||◌, if◌then◌else◌, List, [], ◌∷◌, ◌++◌, Some, None, refl, sym, ◌∙◌, ap, subst}
use Rattle.std.specs.Prelude.{filter}
use Rattle.std.specs.List.{list_any}
use Rattle.channel_fsm.specs.declared.ChanId.{ChanId}
use Rattle.channel_fsm.specs.declared.ChanState.TheVariants.{Off}
use Rattle.radio_book.specs.declared.event.Event.{Event}
use Rattle.radio_book.specs.declared.event.Event.TheVariants as event
use Rattle.radio_book.specs.declared.undone.StepAt.{StepAt}
use Rattle.radio_book.specs.State.{State, apply, state_of, record_of}
use Rattle.radio_book.specs.Table.{owner, step, reply_to, book_after, confirm_row, refuse_row, detect_row, released_row, owner_row}
use Rattle.radio_book.specs.Sound.{IsSound}
use Rattle.radio_book.specs.Kinds.{channel_of, released_by, refusal_of}
use Rattle.radio_book.specs.Others.{without_channel, LeavesAlone}
use Rattle.radio_book.specs.Undone.{is_channel, is_on_target, releases, comes_from, refused_for, up_to_first, after_first}
use Rattle.radio_book.proofs.OthersPhases.{commutes_with_undone, leaves_off_targets}
use Rattle.radio_book.proofs.EachAgrees.{each_agrees}
use Rattle.radio_book.proofs.Frame.{same_some}
use Rattle.radio_book.proofs.SoundSteps.{sound_step}
use Rattle.radio_book.proofs.StepFacts.{Runs, none_found, tested_channel, same_channel, release_of, for_no_channel}

module _ (t : ChanId) where
  abbrev pub without : State → State
  without b = apply (without_channel (Some t)) b

  -- a station's event on the target is refused, or is the release
  module _ (b : State) (off : state_of b t ≡ Off) where
    pub refused_or_released : (e : Event) → channel_of e ≡ Some t → (released_by e ≡ Some t → ⊥) → step b e ≡ b
    refused_or_released (event.Open d x) on other = cc
    refused_or_released (event.Clear d) on other = cc
    refused_or_released (event.Look d) on other = cc
    refused_or_released (event.Take d k x) on other = cc
    refused_or_released (event.Reserve d n) on other = cc
    refused_or_released (event.Activate d) on other = cc
    refused_or_released (event.Command d) on other = cc
    refused_or_released (event.Complete d) on other = cc
    refused_or_released (event.Undo d why) on other = cc
    refused_or_released (event.Confirm x) on other = ap (λ s. book_after (confirm_row x s (record_of b)) b) (ap (state_of b) (same_some x t on) ∙ off)
    refused_or_released (event.Refuse x) on other = ap (λ s. book_after (refuse_row x s (record_of b)) b) (ap (state_of b) (same_some x t on) ∙ off)
    refused_or_released (event.Detect x) on other = ap (λ s. book_after (detect_row x s (record_of b)) b) (ap (state_of b) (same_some x t on) ∙ off)
    refused_or_released (event.Released x) on other = absurd (other on)
    refused_or_released (event.Owner x) on other = ap (λ s. book_after (owner_row x (owner s)) b) (ap (state_of b) (same_some x t on) ∙ off)
    refused_or_released (event.Require d) on other = cc
    refused_or_released (event.Order d) on other = cc
    refused_or_released (event.Left d) on other = cc

    pub freed : step b (event.Released t) ≡ without b
    freed = ap (λ s. book_after (released_row t s) b) off

  abbrev is_release : StepAt → Bool
  is_release s = releases (Some t) s

  abbrev stays : StepAt → Bool
  stays s = not (is_on_target (Some t) s)

  -- what stays of the steps up to the release, and all of them after it
  abbrev pub kept : List StepAt → List StepAt
  kept ss = filter stays (up_to_first is_release ss) ++ after_first is_release ss

  -- what is claimed of the steps from a book in which the target is off
  abbrev pub LeadsOff : List StepAt → Type 0
  LeadsOff ss =
      (b b' : State) → IsSound b → state_of b t ≡ Off → Runs b ss b' → list_any is_release ss ≡ true →
      refused_for (Some t) None (filter stays (up_to_first is_release ss)) ≡ [] → Runs (without b) (kept ss) b'

  module _ (s : StepAt) (ss : List StepAt) (rest : LeadsOff ss) (b b' : State) (sound : IsSound b) (off : state_of b t ≡ Off) (answered : s.reply ≡ reply_to b s.event) (runs : Runs (step b s.event) ss b') where
    -- the release: nothing is left of the attempt
    released : is_release s ≡ true → Runs (without b) (filter stays (s ∷ []) ++ ss) b'
    released test =
        let here = tested_channel (Some t) (released_by s.event) test in
        let is : s.event ≡ event.Released t = release_of s.event t (here.2 ∙ sym here.1) in
        let on : is_on_target (Some t) s ≡ true = ap (λ e. is_channel (Some t) (channel_of e)) is ∙ same_channel (Some t) (Some t) t refl refl in
        subst (λ q. Runs (without b) (cond (not q) (s ∷ []) [] ++ ss) b') (sym on)
        (subst (λ v. Runs v ss b') (ap (step b) is ∙ freed b off) runs)

    -- another step of the station's on it is refused
    left_out : is_release s ≡ false → is_on_target (Some t) s ≡ true → list_any is_release ss ≡ true → refused_for (Some t) None (filter stays (up_to_first is_release ss)) ≡ [] → Runs (without b) (kept ss) b'
    left_out test on settled none =
        let here = tested_channel (Some t) (channel_of s.event) on in
        let same : step b s.event ≡ b = refused_or_released b off s.event (here.2 ∙ sym here.1)
        (λ is. let bad : true ≡ false = sym (same_channel (Some t) (released_by s.event) t refl is) ∙ test in cc) in
        rest b b' sound off (subst (λ v. Runs v ss b') same runs) settled none

    -- a step of others
    kept_step : is_on_target (Some t) s ≡ false → comes_from (Some t) None (refusal_of s.reply) ≡ false → list_any is_release ss ≡ true → refused_for (Some t) None (filter stays (up_to_first is_release ss)) ≡ [] → Runs (without b) (s ∷ kept ss) b'
    kept_step other free settled none =
        let free_here : comes_from (Some t) None (refusal_of (reply_to b s.event)) ≡ false
        = ap (λ reply. comes_from (Some t) None (refusal_of reply)) (sym answered) ∙ free in
        let alone : LeavesAlone t b s.event
        = record {
          event = λ on. let bad : true ≡ false = sym (same_channel (Some t) (channel_of s.event) t refl on) ∙ other in cc;
          reply = for_no_channel (Some t) None (reply_to b s.event) free_here t refl;
        } in
        let commutes = (commutes_with_undone s.event (each_agrees s.event)).while_off t b sound off alone in (
          answered ∙ sym commutes.reply,
          subst (λ v. Runs v (kept ss) b') commutes.book
              (rest (step b s.event) b' (sound_step b s.event sound) (leaves_off_targets s.event (each_agrees s.event) t b sound off alone) runs settled none),
        )

    awaited : is_release s ≡ false → (on : Bool) → is_on_target (Some t) s ≡ on → list_any is_release ss ≡ true →
        refused_for (Some t) None (cond (not on) (s ∷ filter stays (up_to_first is_release ss)) (filter stays (up_to_first is_release ss))) ≡ [] →
        Runs (without b) (cond (not on) (s ∷ filter stays (up_to_first is_release ss)) (filter stays (up_to_first is_release ss)) ++ after_first is_release ss) b'
    awaited test true on settled none = left_out test on settled none
    awaited test false on settled none =
        let found = none_found (comes_from (Some t) None (refusal_of s.reply)) s (refused_for (Some t) None (filter stays (up_to_first is_release ss))) none in
        kept_step on found.0 settled found.1

    by : (q : Bool) → is_release s ≡ q → q || list_any is_release ss ≡ true →
        refused_for (Some t) None (filter stays (s ∷ (if q then [] else up_to_first is_release ss))) ≡ [] →
        Runs (without b) (filter stays (s ∷ (if q then [] else up_to_first is_release ss)) ++ (if q then ss else after_first is_release ss)) b'
    by true test settled none = released test
    by false test settled none = awaited test (is_on_target (Some t) s) refl settled none

  pub leads_off : (ss : List StepAt) → LeadsOff ss
  leads_off [] b b' sound off runs settled none = cc
  leads_off (s ∷ ss) b b' sound off runs settled none = by s ss (leads_off ss) b b' sound off runs.0 runs.1 (is_release s) refl settled none
