-- What an office answers to octets on Abis that can't be read, and where its desk is foreign.
use Rattle.std.proofs.Common.{◌≡◌, ◌≢◌, ◌↔◌, ℕ, List, [], ◌∷◌, Some, None, Result, Ok, Err, refl, ap, sym, subst}
use Rattle.octet_elements.specs.Texts.{ReadingIsUnique}
use Rattle.radio_desk.specs.Receipts.{Receipt}
use Rattle.rsl_messages.specs.declared.message.Rsl.{Rsl}
use Rattle.rsl_messages.specs.declared.fault.RslFault.{RslFault}
use Rattle.rsl_messages.specs.declared.fault.RslFault.TheVariants.{NotRsl, UnknownType, Missing, BadElement, Torn, TooLong, NoMemory}
use Rattle.rsl_messages.specs.Messages.{HasOctets}
use Rattle.rsl_messages.specs.Texts.{codec, IsTextOf, HasFault}
use Rattle.ho_procedure.specs.Seats.{IsLastPlace}
use Rattle.call_worker.specs.declared.fault.GiveFault.{GiveFault}
use Rattle.call_worker.specs.declared.fault.GiveFault.TheVariants as give
use Rattle.call_worker.specs.Giving.{Tells}

-- a call that fails with this
abbrev pub fails : (X : Type 0) → GiveFault → Result X GiveFault
fails X g = Err g

pub not_ok : {X : Type 0} (P : Type 0) (x : X) (f : RslFault) → (P → ⊥) → (Ok x ≡ Err (give.Undecoded f)) ↔ P
not_ok P x f never = ((λ e. (cc)), λ p. absurd (never p))

pub not_memory : {X : Type 0} (P : Type 0) (f : RslFault) → (P → ⊥) → (fails X give.NoMemory ≡ fails X (give.Undecoded f)) ↔ P
not_memory {X} P f never = ((λ (e : fails X give.NoMemory ≡ fails X (give.Undecoded f)). (cc)), λ p. absurd (never p))

undecoded_by : {X : Type 0} (P : RslFault → Type 0) (f g : RslFault) → P g → ((h : RslFault) → P h → h ≡ g) → (fails X (give.Undecoded g) ≡ fails X (give.Undecoded f)) ↔ P f
undecoded_by {X} P f g p only = ((λ (e : fails X (give.Undecoded g) ≡ fails X (give.Undecoded f)). let same : g ≡ f = (cc) in subst P same p), λ q. ap (λ (h : RslFault). fails X (give.Undecoded h)) (sym (only f q)))

-- a text has no fault but refused memory
pub no_fault : {A : Type 0} (octets : List ℕ) → ReadingIsUnique (codec A) → (v : Rsl A) → IsTextOf v octets → (f : RslFault) → (f ≢ NoMemory) × HasFault A octets f → ⊥
no_fault octets u v t f h = h.0 (u.text v octets f t h.1)

told : {X A : Type 0} (octets : List ℕ) → ReadingIsUnique (codec A) → (fault : RslFault) (g : GiveFault) → fault ≢ NoMemory → g ≡ give.Undecoded fault → HasFault A octets fault → (f : RslFault) → (fails X g ≡ fails X (give.Undecoded f)) ↔ ((f ≢ NoMemory) × HasFault A octets f)
told {X} {A} octets u fault g never is h f = rw is (undecoded_by (λ f. (f ≢ NoMemory) × HasFault A octets f) f fault (never, h) (λ k p. u.fault octets k fault p.1 h))

pub fault_told : {X A : Type 0} (octets : List ℕ) → ReadingIsUnique (codec A) → (fault : RslFault) (g : GiveFault) → Tells fault g → HasFault A octets fault → (fault ≡ NoMemory → (v : Rsl A) × IsTextOf v octets × HasOctets v) → (f : RslFault) → (fails X g ≡ fails X (give.Undecoded f)) ↔ ((f ≢ NoMemory) × HasFault A octets f)
fault_told octets u NotRsl g is h m f = told octets u NotRsl g (λ e. (cc)) is h f
fault_told octets u (UnknownType k) g is h m f = told octets u (UnknownType k) g (λ e. (cc)) is h f
fault_told octets u (Missing k) g is h m f = told octets u (Missing k) g (λ e. (cc)) is h f
fault_told octets u (BadElement k) g is h m f = told octets u (BadElement k) g (λ e. (cc)) is h f
fault_told octets u (Torn k) g is h m f = told octets u (Torn k) g (λ e. (cc)) is h f
fault_told octets u TooLong g is h m f = told octets u TooLong g (λ e. (cc)) is h f
fault_told octets u NoMemory g is h m f = let t = m refl in rw is (not_memory _ f (no_fault octets u t.0 t.1 f))

-- where something was read, there is no fault
pub none_of : {X : Type 0} (m : X) (f : RslFault) (P : Type 0) → (Ok m ≡ Err (give.Undecoded f)) ↔ P → P → ⊥
none_of m f P h p = let e : Ok m ≡ Err (give.Undecoded f) = h.1 p in (cc)

-- a fault that a call hands on as another's
pub passed_on : {X Y : Type 0} (g : GiveFault) (f : RslFault) (P : Type 0) → (fails X g ≡ fails X (give.Undecoded f)) ↔ P → (fails Y g ≡ fails Y (give.Undecoded f)) ↔ P
passed_on {X} {Y} g f P h = ((λ (e : fails Y g ≡ fails Y (give.Undecoded f)). let same : g ≡ give.Undecoded f = (cc) in h.0 (ap (λ (k : GiveFault). fails X k) same)), λ p. let e : fails X g ≡ fails X (give.Undecoded f) = h.1 p in let same : g ≡ give.Undecoded f = (cc) in ap (λ (k : GiveFault). fails Y k) same)

-- a seat of whose receipts one is the last has a receipt
pub some_known : (known : List Receipt) (place : ℕ) → IsLastPlace known place → known ≢ []
some_known [] place l = λ e. let last : None ≡ Some l.0 = l.1 in (cc)
some_known (r ∷ rs) place l = λ e. (cc)
