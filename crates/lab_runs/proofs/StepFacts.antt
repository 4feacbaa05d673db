-- Facts of what was asked of a desk, from a place on.
use Rattle.std.proofs.Common.{◌≡◌, ◌+◌, ◌++◌, ◌∷◌, ◌<◌, ◌==◌, ℕ, zero, suc, Bool, true, false, if◌then◌else◌, List, [], Some, drop, take, get_or, length, refl, sym, ap, subst, ◌∙◌, append_assoc, append-nil, add-one, rules, arith, slice_get}
use Rattle.std.specs.List.{All}
use Rattle.std.proofs.lemmas.Bool.{eqb-true, eq-eqb, ne_eqb}
use Rattle.std.proofs.lemmas.List.{length_push, take_more}
use Rattle.std.proofs.lemmas.List.Elements.{All-head, All-tail}
use Rattle.radio_book.specs.State.{State}
use Rattle.radio_desk.specs.Desk.{DeskState}
use Rattle.ho_procedure.specs.Claims.{Entry, IsTrueAfter}
use Rattle.timeslots.specs.declared.Rate.{Rate}
use Rattle.ho_procedure.specs.Claims as claim
use Rattle.trace_text.specs.declared.trace.Step.{Step}
use Rattle.trace_text.specs.declared.trace.Step.TheVariants.{Asked, NoneFree}
use Rattle.lab_runs.specs.declared.noting.Note.{Note}
use Rattle.lab_runs.specs.Notes.{IsTrueNote, AreTrueSteps, noted_at, step_of, with_notes}
use Rattle.lab_runs.specs.Turns.{asked_in}

-- one more note
one_noted : (b : Bool) (cell : ℕ) (rate : Rate) (steps more : List Step) → (if b then NoneFree cell rate ∷ steps else steps) ++ more ≡ (if b then NoneFree cell rate ∷ (steps ++ more) else steps ++ more)
one_noted true cell rate steps more = refl
one_noted false cell rate steps more = refl

noted_more : (place : ℕ) (notes : List Note) (n : Note) → noted_at place (notes ++ n ∷ []) ≡ noted_at place notes ++ (if n.place == place then NoneFree n.cell n.rate ∷ [] else [])
noted_more place [] n = refl
noted_more place (m ∷ notes) n =
    ap (λ rest. if m.place == place then NoneFree m.cell m.rate ∷ rest else rest) (noted_more place notes n) ∙ sym (one_noted (m.place == place) m.cell m.rate (noted_at place notes) _)

-- what a place has of one note more
noted_next : (place : ℕ) (notes : List Note) (i : ℕ) (d : Note) (b : Bool) → i < length notes → ((get_or notes i d).place == place) ≡ b
    → noted_at place (take (i + 1) notes) ≡ noted_at place (take i notes) ++ (if b then NoneFree (get_or notes i d).cell (get_or notes i d).rate ∷ [] else [])
noted_next place notes i d b l test =
    ap (noted_at place) (take_more notes i d l) ∙ (noted_more place (take i notes) (get_or notes i d)
    ∙ ap (λ test. noted_at place (take i notes) ++ (if test then NoneFree (get_or notes i d).cell (get_or notes i d).rate ∷ [] else [])) test)

-- a note of the place was told
pub noted_told : (told steps more : List Step) (place : ℕ) (notes : List Note) (i : ℕ) (d : Note) → i < length notes → steps ≡ told ++ noted_at place (take i notes)
    → (get_or notes i d).place ≡ place → more ≡ steps ++ NoneFree (get_or notes i d).cell (get_or notes i d).rate ∷ [] → more ≡ told ++ noted_at place (take (i + 1) notes)
noted_told told steps more place notes i d l before is e =
    rw (noted_next place notes i d true l (eq-eqb _ _ is)) (e ∙ (ap (λ front. front ++ NoneFree (get_or notes i d).cell (get_or notes i d).rate ∷ []) before ∙ append_assoc told _ _))

-- a note of another place wasn't
pub noted_passed : (told steps : List Step) (place : ℕ) (notes : List Note) (i : ℕ) (d : Note) → i < length notes → steps ≡ told ++ noted_at place (take i notes)
    → ((get_or notes i d).place ≡ place → ⊥) → steps ≡ told ++ noted_at place (take (i + 1) notes)
noted_passed told steps place notes i d l before other =
    rw (noted_next place notes i d false l (ne_eqb _ _ other)) (before ∙ ap (λ rest. told ++ rest) (sym (append-nil _)))

-- notes are no events
one_asks_nothing : (b : Bool) (cell : ℕ) (rate : Rate) (steps more : List Step) → asked_in ((if b then NoneFree cell rate ∷ steps else steps) ++ more) ≡ asked_in (steps ++ more)
one_asks_nothing true cell rate steps more = refl
one_asks_nothing false cell rate steps more = refl

ask_nothing : (place : ℕ) (notes : List Note) (more : List Step) → asked_in (noted_at place notes ++ more) ≡ asked_in more
ask_nothing place [] more = refl
ask_nothing place (n ∷ notes) more = one_asks_nothing (n.place == place) n.cell n.rate (noted_at place notes) more ∙ ask_nothing place notes more

pub asked_with_notes : (place : ℕ) (notes : List Note) (entries : List Entry) → asked_in (with_notes place notes entries) ≡ entries
asked_with_notes place notes [] = ap asked_in (sym (append-nil (noted_at place notes))) ∙ ask_nothing place notes []
asked_with_notes place notes ((event, reply) ∷ entries) =
    ask_nothing place notes (Asked event reply ∷ with_notes (suc place) notes entries) ∙ ap (λ rest. (event, reply) ∷ rest) (asked_with_notes (suc place) notes entries)

-- what stands at a place, and behind it
pub drop_next : {X : Type 0} (xs : List X) (n : ℕ) (x : X) → slice_get xs n ≡ Some x → drop n xs ≡ x ∷ drop (suc n) xs
drop_next [] n x e = absurd (search (rules, e))
drop_next (y ∷ xs) zero x e = search (rules, e)
drop_next (y ∷ xs) (suc n) x e = drop_next xs n x e

pub there : {X : Type 0} (xs : List X) (n : ℕ) → n < length xs → (x : X) × (slice_get xs n ≡ Some x)
there [] n l = absurd (omega arith)
there (x ∷ xs) zero l = (x, refl)
there (x ∷ xs) (suc n) l = there xs n (omega arith)

-- one more of a history was told, behind the notes of its place
pub entry_told : (told noted more : List Step) (place : ℕ) (notes : List Note) (history : List Entry) → place < length history
    → noted ≡ told ++ noted_at place notes → more ≡ noted ++ step_of (slice_get history place)
    → more ++ with_notes (place + 1) notes (drop (place + 1) history) ≡ told ++ with_notes place notes (drop place history)
entry_told told noted more place notes history l n m =
    let at = there history place l in
    rw (m, n, at.1, add-one place, drop_next history place at.0 at.1)
    (append_assoc (told ++ noted_at place notes) _ _ ∙ append_assoc told (noted_at place notes) _)

-- the first parts of one list that are equally long
front_of : {X : Type 0} (xs ys us vs : List X) → length xs ≡ length us → xs ++ ys ≡ us ++ vs → xs ≡ us
front_of [] ys [] vs l e = refl
front_of [] ys (u ∷ us) vs l e = absurd (omega arith)
front_of (x ∷ xs) ys [] vs l e = absurd (omega arith)
front_of (x ∷ xs) ys (u ∷ us) vs l e =
    let first : x ≡ u = cc in
    let rest : xs ++ ys ≡ us ++ vs = cc in
    let fronts : xs ≡ us = front_of xs ys us vs (omega arith) rest in
    cc

-- a true note is true of the log that is as long
true_here : (d : DeskState) (log behind : List Entry) (n : Note) → d.history ≡ log ++ behind → n.place ≡ length log → IsTrueNote d n → IsTrueAfter d.opening log (claim.NoneFree n.cell n.rate)
true_here d log behind n history place h =
    subst (λ front. IsTrueAfter d.opening front (claim.NoneFree n.cell n.rate)) (front_of h.before h.behind log behind (h.place ∙ place) (sym h.history ∙ history)) h.none_free

true_step : (opening : State) (log : List Entry) (b : Bool) (cell : ℕ) (rate : Rate) (steps more : List Step) → (b ≡ true → IsTrueAfter opening log (claim.NoneFree cell rate))
    → AreTrueSteps opening log (steps ++ more) → AreTrueSteps opening log ((if b then NoneFree cell rate ∷ steps else steps) ++ more)
true_step opening log true cell rate steps more here h = (here refl, h)
true_step opening log false cell rate steps more here h = h

true_at : (d : DeskState) (log behind : List Entry) (place : ℕ) (notes : List Note) (more : List Step) → d.history ≡ log ++ behind → place ≡ length log → All (IsTrueNote d) notes
    → AreTrueSteps d.opening log more → AreTrueSteps d.opening log (noted_at place notes ++ more)
true_at d log behind place [] more history p all h = h
true_at d log behind place (n ∷ notes) more history p all h =
    true_step d.opening log (n.place == place) n.cell n.rate (noted_at place notes) more
    (λ e. true_here d log behind n history (eqb-true n.place place e ∙ p) (All-head (IsTrueNote d) n notes all))
    (true_at d log behind place notes more history p (All-tail (IsTrueNote d) n notes all) h)

-- where the notes are true, what is told with them is
pub true_with_notes : (d : DeskState) (log entries : List Entry) (place : ℕ) (notes : List Note) → d.history ≡ log ++ entries → place ≡ length log → All (IsTrueNote d) notes
    → AreTrueSteps d.opening log (with_notes place notes entries)
true_with_notes d log [] place notes history p all =
    subst (AreTrueSteps d.opening log) (append-nil (noted_at place notes)) (true_at d log [] place notes [] history p all tt)
true_with_notes d log ((event, reply) ∷ entries) place notes history p all =
    let longer : suc place ≡ length (log ++ (event, reply) ∷ []) = omega (arith, length_push log (event, reply)) in
    true_at d log ((event, reply) ∷ entries) place notes _ history p all
    (true_with_notes d (log ++ (event, reply) ∷ []) entries (suc place) notes (history ∙ sym (append_assoc log ((event, reply) ∷ []) entries)) longer all)
