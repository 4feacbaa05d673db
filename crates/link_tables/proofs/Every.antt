-- A test that all values of a type pass, by computing, is passed by each.
use Rattle.std.proofs.Common.{◌≡◌, ℕ, zero, suc, Bool, true, false, List, [], ◌∷◌, Option, Some, None, refl, subst}
use Rattle.std.specs.List.{list_all}
use Rattle.std.proofs.lemmas.Bool.{and_parts}
use Rattle.std.proofs.lemmas.Option.{same_Some, none-some}
use Rattle.channel_fsm.specs.declared.ChanState.{ChanState}
use Rattle.channel_fsm.specs.declared.ChanState.TheVariants as book
use Rattle.link_tables.specs.declared.Lchan.{Lchan}
use Rattle.link_tables.specs.declared.Lchan.TheVariants.{Rest, Activating, On, Mobile, Guard, Releasing, Closing, Reopening, Lost}
use Rattle.link_tables.specs.declared.Heard.{Heard}
use Rattle.link_tables.specs.declared.Heard.TheVariants.{ActivationAck, ActivationNack, ReleaseAck, ConnectionFailure, HandoverDetection, HandoverComplete, MeasurementResult, DataIndication, EstablishIndication, ReleaseIndication, Expired, LinkLost, LinkUp, BarAsked, UnbarAsked, HandoverFailure}
use Rattle.link_tables.specs.declared.Timer.TheVariants.{Activation, T3109, T3111, Release, Bar}
use Rattle.link_tables.specs.declared.BarKind.TheVariants.{Timed, Lasting}
use Rattle.link_tables.specs.declared.Holder.{Holder}
use Rattle.link_tables.specs.declared.Holder.TheVariants.{Nobody, Past, Barred, Call}
use Rattle.link_tables.specs.declared.Circumstances.{Circumstances}
use Rattle.link_tables.specs.Acts.{lchans}

-- what stands at a place
abbrev nth : {X : Type 0} → List X → ℕ → Option X
nth [] k = None
nth (x ∷ xs) zero = Some x
nth (x ∷ xs) (suc k) = nth xs k

at : {X : Type 0} (p : X → Bool) (xs : List X) → list_all p xs ≡ true → (k : ℕ) (x : X) → nth xs k ≡ Some x → p x ≡ true
at p [] all k x is = absurd (none-some x is)
at p (y ∷ ys) all zero x is = subst (λ z. p z ≡ true) (same_Some y x is) (and_parts (p y) (list_all p ys) all).0
at p (y ∷ ys) all (suc k) x is = at p ys (and_parts (p y) (list_all p ys) all).1 k x is

pub every_lchan : (p : Lchan → Bool) → list_all p lchans ≡ true → (x : Lchan) → p x ≡ true
every_lchan p all Rest = at p lchans all 0 Rest refl
every_lchan p all Activating = at p lchans all 1 Activating refl
every_lchan p all On = at p lchans all 2 On refl
every_lchan p all Mobile = at p lchans all 3 Mobile refl
every_lchan p all Guard = at p lchans all 4 Guard refl
every_lchan p all Releasing = at p lchans all 5 Releasing refl
every_lchan p all Closing = at p lchans all 6 Closing refl
every_lchan p all Reopening = at p lchans all 7 Reopening refl
every_lchan p all Lost = at p lchans all 8 Lost refl

abbrev pub heards : List Heard
heards = ActivationAck ∷ ActivationNack ∷ ReleaseAck ∷ ConnectionFailure ∷ HandoverDetection ∷ HandoverComplete ∷ MeasurementResult ∷ DataIndication ∷ EstablishIndication ∷ ReleaseIndication ∷ LinkLost ∷ LinkUp ∷ BarAsked ∷ UnbarAsked ∷ Expired Activation ∷ Expired T3109 ∷ Expired T3111 ∷ Expired Release ∷ Expired Bar ∷ HandoverFailure ∷ []

pub every_heard : (p : Heard → Bool) → list_all p heards ≡ true → (x : Heard) → p x ≡ true
every_heard p all ActivationAck = at p heards all 0 ActivationAck refl
every_heard p all ActivationNack = at p heards all 1 ActivationNack refl
every_heard p all ReleaseAck = at p heards all 2 ReleaseAck refl
every_heard p all ConnectionFailure = at p heards all 3 ConnectionFailure refl
every_heard p all HandoverDetection = at p heards all 4 HandoverDetection refl
every_heard p all HandoverComplete = at p heards all 5 HandoverComplete refl
every_heard p all MeasurementResult = at p heards all 6 MeasurementResult refl
every_heard p all DataIndication = at p heards all 7 DataIndication refl
every_heard p all EstablishIndication = at p heards all 8 EstablishIndication refl
every_heard p all ReleaseIndication = at p heards all 9 ReleaseIndication refl
every_heard p all LinkLost = at p heards all 10 LinkLost refl
every_heard p all LinkUp = at p heards all 11 LinkUp refl
every_heard p all BarAsked = at p heards all 12 BarAsked refl
every_heard p all UnbarAsked = at p heards all 13 UnbarAsked refl
every_heard p all (Expired Activation) = at p heards all 14 (Expired Activation) refl
every_heard p all (Expired T3109) = at p heards all 15 (Expired T3109) refl
every_heard p all (Expired T3111) = at p heards all 16 (Expired T3111) refl
every_heard p all (Expired Release) = at p heards all 17 (Expired Release) refl
every_heard p all (Expired Bar) = at p heards all 18 (Expired Bar) refl
every_heard p all HandoverFailure = at p heards all 19 HandoverFailure refl

abbrev use_of : Bool → Bool → Bool → Bool → Holder
use_of a b c d = Call (record { leaves = a; arrives = b; returns = c; reports = d })

abbrev pub holders : List Holder
holders = Nobody ∷ Past ∷ Barred Timed ∷ Barred Lasting ∷ use_of true true true true ∷ use_of true true true false ∷ use_of true true false true ∷ use_of true true false false ∷ use_of true false true true ∷ use_of true false true false ∷ use_of true false false true ∷ use_of true false false false ∷ use_of false true true true ∷ use_of false true true false ∷ use_of false true false true ∷ use_of false true false false ∷ use_of false false true true ∷ use_of false false true false ∷ use_of false false false true ∷ use_of false false false false ∷ []

calls : (p : Holder → Bool) → list_all p holders ≡ true → (a b c d : Bool) → p (use_of a b c d) ≡ true
calls p all true true true true = at p holders all 4 (use_of true true true true) refl
calls p all true true true false = at p holders all 5 (use_of true true true false) refl
calls p all true true false true = at p holders all 6 (use_of true true false true) refl
calls p all true true false false = at p holders all 7 (use_of true true false false) refl
calls p all true false true true = at p holders all 8 (use_of true false true true) refl
calls p all true false true false = at p holders all 9 (use_of true false true false) refl
calls p all true false false true = at p holders all 10 (use_of true false false true) refl
calls p all true false false false = at p holders all 11 (use_of true false false false) refl
calls p all false true true true = at p holders all 12 (use_of false true true true) refl
calls p all false true true false = at p holders all 13 (use_of false true true false) refl
calls p all false true false true = at p holders all 14 (use_of false true false true) refl
calls p all false true false false = at p holders all 15 (use_of false true false false) refl
calls p all false false true true = at p holders all 16 (use_of false false true true) refl
calls p all false false true false = at p holders all 17 (use_of false false true false) refl
calls p all false false false true = at p holders all 18 (use_of false false false true) refl
calls p all false false false false = at p holders all 19 (use_of false false false false) refl

pub every_holder : (p : Holder → Bool) → list_all p holders ≡ true → (x : Holder) → p x ≡ true
every_holder p all Nobody = at p holders all 0 Nobody refl
every_holder p all Past = at p holders all 1 Past refl
every_holder p all (Barred Timed) = at p holders all 2 (Barred Timed) refl
every_holder p all (Barred Lasting) = at p holders all 3 (Barred Lasting) refl
every_holder p all (Call u) = calls p all u.leaves u.arrives u.returns u.reports

abbrev standing : Bool → Bool → Bool → Circumstances
standing a b c = record { has_link = a; said_channel_release = b; is_bar = c }

abbrev pub standings : List Circumstances
standings = standing true true true ∷ standing true true false ∷ standing true false true ∷ standing true false false ∷ standing false true true ∷ standing false true false ∷ standing false false true ∷ standing false false false ∷ []

stands : (p : Circumstances → Bool) → list_all p standings ≡ true → (a b c : Bool) → p (standing a b c) ≡ true
stands p all true true true = at p standings all 0 (standing true true true) refl
stands p all true true false = at p standings all 1 (standing true true false) refl
stands p all true false true = at p standings all 2 (standing true false true) refl
stands p all true false false = at p standings all 3 (standing true false false) refl
stands p all false true true = at p standings all 4 (standing false true true) refl
stands p all false true false = at p standings all 5 (standing false true false) refl
stands p all false false true = at p standings all 6 (standing false false true) refl
stands p all false false false = at p standings all 7 (standing false false false) refl

pub every_standing : (p : Circumstances → Bool) → list_all p standings ≡ true → (x : Circumstances) → p x ≡ true
every_standing p all x = stands p all x.has_link x.said_channel_release x.is_bar

-- all states of the book, for one call
abbrev pub books : ℕ → List ChanState
books c = book.Free ∷ book.Held c ∷ book.Pending c ∷ book.On c ∷ book.Off ∷ []

pub every_book : (p : ChanState → Bool) → ((c : ℕ) → list_all p (books c) ≡ true) → (x : ChanState) → p x ≡ true
every_book p all book.Free = at p (books 0) (all 0) 0 book.Free refl
every_book p all (book.Held c) = at p (books c) (all c) 1 (book.Held c) refl
every_book p all (book.Pending c) = at p (books c) (all c) 2 (book.Pending c) refl
every_book p all (book.On c) = at p (books c) (all c) 3 (book.On c) refl
every_book p all book.Off = at p (books 0) (all 0) 4 book.Off refl
