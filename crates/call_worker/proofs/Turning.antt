-- One turn more.
use Rattle.std.proofs.Common.{◌≡◌, ℕ, ◌+◌, List, [], ◌∷◌, ◌++◌, length, Bool, true, false, true≢false, refl, ap, sym, ◌∙◌, subst, arith, append_assoc, length-append}
use Rattle.std.proofs.lemmas.List.{append-nil, map-append, length-map}
use Rattle.cell_table.specs.Site.{SiteView}
use Rattle.radio_desk.specs.Receipts.{Receipt, receipted}
use Rattle.exchange.specs.declared.Inbound.{Inbound}
use Rattle.ho_procedure.specs.Claims.{Entry}
use Rattle.ho_procedure.specs.Sent.{Sent}
use Rattle.ho_procedure.specs.Plan.{Step, entries_of, messages_of}
use Rattle.ho_procedure.proofs.Going.{entries_of-append, messages_of-append, reports_after-append}
use Rattle.call_worker.specs.declared.worker.Turn.{Turn}
use Rattle.call_worker.specs.declared.letter.Letter.{Letter}
use Rattle.call_worker.specs.declared.letter.Letter.TheVariants.{Input, Last}
use Rattle.call_worker.specs.Sending.{Delivered, Carries}
use Rattle.call_worker.specs.Turns.{Reports, no_reports, reports_left, IsTurn, AreTurns, Took, IsWork, Follows, inputs_of, inputs_of_turns}

pub left-append : (t u : List Step) (reports : Reports) → reports_left (t ++ u) reports ≡ reports_left u (reports_left t reports)
left-append t u reports = λ i call. reports_after-append call t u (reports call) i

-- so many receipts as entries
pub upto_is : (rs : List Receipt) (n : ℕ) → n ≡ length rs → n ≡ length (receipted rs)
upto_is rs n e = e ∙ sym (length-map rs (λ (r : Receipt). (r.event, r.reply)))

module _ {A : Type 0} where
  pub turns-more : (site : SiteView) (reports : Reports) (before : ℕ) (ts : List (Turn A)) (steps : List Step) (t : Turn A) (here : List Step)
      → AreTurns site reports before ts steps → IsTurn site (reports_left steps reports) t.input t.ok here → t.upto ≡ before + length (entries_of (steps ++ here)) → AreTurns site reports before (ts ++ t ∷ []) (steps ++ here)
  turns-more site reports before [] steps t here none turn upto = (
    here,
    [],
    ap (λ l. l ++ here) none ∙ sym (append-nil here),
    subst (λ (l : List Step). IsTurn site (reports_left l reports) t.input t.ok here) none turn,
    upto ∙ ap (λ l. before + length (entries_of (l ++ here))) none,
    refl,
  )
  turns-more site reports before (x ∷ ts) steps t here f turn upto =
      let h : List Step = f.0 in
      let l : List Step = f.1 in
      let e : steps ≡ h ++ l = f.2 in
      let whole : steps ++ here ≡ h ++ (l ++ here) = ap (λ z. z ++ here) e ∙ append_assoc h l here in
      let parts : length (entries_of (steps ++ here)) ≡ length (entries_of h) + length (entries_of (l ++ here)) =
      ap (λ z. length (entries_of z)) whole ∙ (ap (λ z. length z) (entries_of-append h (l ++ here)) ∙ length-append (entries_of h) (entries_of (l ++ here))) in
      let cut : x.upto ≡ before + length (entries_of h) = f.4 in
      let left : reports_left steps reports ≡ reports_left l (reports_left h reports) = ap (λ z. reports_left z reports) e ∙ left-append h l reports in (
        h,
        l ++ here,
        whole,
        f.3,
        f.4,
        turns-more site (reports_left h reports) x.upto ts l t here f.5 (subst (λ (r : Reports). IsTurn site r t.input t.ok here) left turn) (omega arith),
      )

  pub inputs-more : (ts : List (Turn A)) (t : Turn A) → inputs_of_turns (ts ++ t ∷ []) ≡ inputs_of_turns ts ++ t.input ∷ []
  inputs-more ts t = map-append (λ (t : Turn A). t.input) ts (t ∷ [])

  pub work-more : (site : SiteView) (start : List Sent) (ts ts' : List (Turn A)) (entries entries' : List Entry) (reports reports' : Reports) (passed passed' : List Sent) (r r' : ℕ) (kept input : Inbound A) (ok : Bool) (n : ℕ) (messages : List Sent) (w : IsWork site start ts entries passed r)
      → reports ≡ reports_left w.steps no_reports → (took : Took site entries reports input ok entries' reports' messages) → kept ≡ input → ts' ≡ ts ++ record { input = kept; upto = n; ok = ok } ∷ [] → n ≡ length entries' → Carries passed r messages passed' r'
      → (w' : IsWork site start ts' entries' passed' r') × (reports' ≡ reports_left w'.steps no_reports)
  work-more site start ts ts' entries entries' reports reports' passed passed' r r' kept input ok n messages w left took is more upto carries =
      let t : Turn A = record { input = kept; upto = n; ok = ok } in
      let whole : List Step = w.steps ++ took.steps in
      let turn : IsTurn site (reports_left w.steps no_reports) kept ok took.steps = subst (λ (x : Inbound A). IsTurn site (reports_left w.steps no_reports) x ok took.steps) (sym is) (subst (λ (x : Reports). IsTurn site x input ok took.steps) left took.turn) in
      let entries_are : entries' ≡ entries_of whole = took.entries ∙ (ap (λ l. l ++ entries_of took.steps) w.entries ∙ sym (entries_of-append w.steps took.steps)) in
      let long : n ≡ length (entries_of whole) = upto ∙ ap (λ l. length l) entries_are in
      let cut : n ≡ 0 + length (entries_of whole) = omega (arith, long) in
      let owed : messages_of w.steps ++ messages ≡ messages_of whole = ap (λ l. messages_of w.steps ++ l) took.messages ∙ sym (messages_of-append w.steps took.steps) in
      let after : reports' ≡ reports_left took.steps reports = λ i call. took.reports call i in (
        record {
          steps = whole;
          turns = subst (λ (l : List (Turn A)). AreTurns site no_reports 0 l whole) (sym more) (turns-more site no_reports 0 ts w.steps t took.steps w.turns turn cut);
          entries = entries_are;
          delivered = subst (λ (l : List Sent). Delivered start passed' r' l) owed (carries.carries start (messages_of w.steps) w.delivered);
        },
        after ∙ (ap (λ (x : Reports). reports_left took.steps x) left ∙ sym (left-append w.steps took.steps no_reports)),
      )

  pub follows-more : (site : SiteView) (start : List Sent) (got : List (Inbound A)) (ts ts' : List (Turn A)) (entries entries' : List Entry) (reports reports' : Reports) (passed passed' : List Sent) (r r' : ℕ) (kept input : Inbound A) (ok : Bool) (n : ℕ) (messages : List Sent) (keeps keeps' : Bool)
      → keeps ≡ true → keeps' ≡ keeps → Follows site start got entries reports ts passed r keeps → Took site entries reports input ok entries' reports' messages → kept ≡ input → ts' ≡ ts ++ record { input = kept; upto = n; ok = ok } ∷ [] → n ≡ length entries' → Carries passed r messages passed' r'
      → Follows site start (got ++ input ∷ []) entries' reports' ts' passed' r' keeps'
  follows-more site start got ts ts' entries entries' reports reports' passed passed' r r' kept input ok n messages keeps keeps' k k' f took is more upto carries =
      let t : Turn A = record { input = kept; upto = n; ok = ok } in
      let all : got ≡ inputs_of_turns ts = f.in_order.1 ∙ (ap (λ l. inputs_of_turns ts ++ l) (f.in_order.2 k) ∙ append-nil (inputs_of_turns ts)) in
      let inputs : inputs_of_turns ts' ≡ inputs_of_turns ts ++ input ∷ [] = ap inputs_of_turns more ∙ (inputs-more ts t ∙ ap (λ y. inputs_of_turns ts ++ y ∷ []) is) in
      let w = work-more site start ts ts' entries entries' reports reports' passed passed' r r' kept input ok n messages f.work f.left took is more upto carries in
      record {
        in_order = ([], ap (λ l. l ++ input ∷ []) all ∙ (sym inputs ∙ sym (append-nil (inputs_of_turns ts'))), λ _. refl);
        work = w.0;
        left = w.1;
      }

  -- an input that isn't kept
  pub follows-lost : (site : SiteView) (start : List Sent) (got : List (Inbound A)) (entries : List Entry) (reports : Reports) (ts ts' : List (Turn A)) (passed : List Sent) (r : ℕ) (input : Inbound A) (keeps keeps' : Bool)
      → ts' ≡ ts → keeps' ≡ false → Follows site start got entries reports ts passed r keeps → Follows site start (got ++ input ∷ []) entries reports ts' passed r keeps'
  follows-lost site start got entries reports ts ts' passed r input keeps keeps' same lost f = rw same (record {
    in_order = (f.in_order.0 ++ input ∷ [], ap (λ l. l ++ input ∷ []) f.in_order.1 ∙ append_assoc (inputs_of_turns ts) f.in_order.0 (input ∷ []), λ e. absurd (true≢false (sym e ∙ lost)));
    work = f.work;
    left = f.left;
  })

  pub follows-none : (site : SiteView) (start : List Sent) (got : List (Inbound A)) (entries : List Entry) (reports : Reports) (ts : List (Turn A)) (r : ℕ)
      → got ≡ [] → entries ≡ [] → ((call : ℕ) → reports call ≡ []) → ts ≡ [] → r ≡ 0 → Follows site start got entries reports ts start r true
  follows-none site start got entries reports ts r a b c d e = rw (a, b, d, e) (record {
    in_order = ([], refl, λ _. refl);
    work = record { steps = []; turns = refl; entries = refl; delivered = record { since = []; now_is = sym (append-nil start); all = λ _. refl; counted = λ _. refl } };
    left = λ i call. c call i;
  })

  pub input_more : (xs : List (Letter A)) (x : Inbound A) → inputs_of (xs ++ Input x ∷ []) ≡ inputs_of xs ++ x ∷ []
  input_more [] x = refl
  input_more (Input y ∷ xs) x = ap (λ l. y ∷ l) (input_more xs x)
  input_more (Last ∷ xs) x = input_more xs x

  pub last_more : (xs : List (Letter A)) → inputs_of (xs ++ Last ∷ []) ≡ inputs_of xs
  last_more [] = refl
  last_more (Input y ∷ xs) = ap (λ l. y ∷ l) (last_more xs)
  last_more (Last ∷ xs) = last_more xs

  pub inputs_of-append : (xs ys : List (Letter A)) → inputs_of (xs ++ ys) ≡ inputs_of xs ++ inputs_of ys
  inputs_of-append [] ys = refl
  inputs_of-append (Input x ∷ xs) ys = ap (λ l. x ∷ l) (inputs_of-append xs ys)
  inputs_of-append (Last ∷ xs) ys = inputs_of-append xs ys

  -- what was taken begins what was given
  pub taken_of : (sent taken left : List (Letter A)) (given : List (Inbound A)) (turns rest : List (Inbound A)) → inputs_of sent ≡ given → sent ≡ taken ++ left → inputs_of taken ≡ turns ++ rest → given ≡ turns ++ (rest ++ inputs_of left)
  taken_of sent taken left given turns rest a b c = sym a ∙ (ap inputs_of b ∙ (inputs_of-append taken left ∙ (ap (λ l. l ++ inputs_of left) c ∙ append_assoc turns rest (inputs_of left))))
