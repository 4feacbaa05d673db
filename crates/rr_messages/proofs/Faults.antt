-- What is wrong with octets: a text has no fault, and no octets have two.
use Rattle.std.proofs.Common.{◌≡◌, ◌≢◌, ◌∙◌, sym, ℕ, ◌<◌, ◌≤◌, nat_lt, true, List, [], ◌∷◌, ◌++◌, length, take, None, Err, inl, inr, refl, ap, arith}
use Rattle.std.proofs.lemmas.List.{length-append}
use Rattle.std.proofs.lemmas.Bool.Decides.{nat_tests}
use Rattle.rr_elements.specs.declared.fault.ElementFault.{ElementFault}
use Rattle.rr_elements.proofs.Readers.{chan_said}
use Rattle.rr_elements.proofs.FaultLemmas.{differs, chan-fault}
use Rattle.rr_messages.specs.declared.fault.RrFault.{RrFault}
use Rattle.rr_messages.specs.declared.fault.RrFault.TheVariants.{NotRr, UnknownType, Short, Element, NoMemory}
use Rattle.rr_messages.specs.declared.kind.MessageType.{MessageType}
use Rattle.rr_messages.specs.declared.kind.MessageType.TheVariants as kind
use Rattle.rr_messages.specs.declared.message.Rr.{Rr}
use Rattle.rr_messages.specs.Kind.{type_of, part_len}
use Rattle.rr_messages.specs.Rr.{IsRrText, HasPartFault, HasRrFault}
use Rattle.rr_messages.proofs.Readers.{kind_at, command_said, part_said, body_said, in_message, rr_said}
use Rattle.rr_messages.proofs.Texts.{command-cut, kind_at-type_of, framed-said, framed-body, text-said}

no_kind : (t : ℕ) → ((k : MessageType) → t ≢ type_of k) → kind_at t ≡ None
no_kind t none =
    rw (differs t _ (none kind.ChannelRelease), differs t _ (none kind.MeasurementReport), differs t _ (none kind.HandoverFailure), differs t _ (none kind.HandoverCommand), differs t _ (none kind.HandoverComplete), differs t _ (none kind.PhysicalInformation)) refl

below : (a b : ℕ) → a < b → nat_lt a b ≡ true
below a b h = grind (arith, nat_tests)

two_left : (first second rest : List ℕ) → length first ≡ 2 → length second ≡ 3 → length (first ++ second ++ rest) ≡ 7 → length rest ≡ 2
two_left first second rest two three seven = omega (arith, length-append (first ++ second) rest, length-append first second)

command-fault : (first second rest : List ℕ) (fault : ElementFault) → length first ≡ 2 → length second ≡ 3 → length rest ≡ 2 → chan_said second ≡ Err fault → command_said (first ++ second ++ rest) ≡ Err fault
command-fault first second [] fault two three left bad = absurd (omega arith)
command-fault first second (reference ∷ last) fault two three left bad =
    command-cut first second last reference two three (omega arith) ∙ rw (two, bad) refl

-- a part with a bad element is read as that fault
part-fault : (k : MessageType) (part : List ℕ) (fault : ElementFault) → length part ≡ part_len k → HasPartFault k part fault → part_said k part ≡ Err fault
part-fault kind.HandoverCommand part fault long (first, second, rest, two, three, is, bad) =
    let seven : length (first ++ second ++ rest) ≡ 7 = sym (ap length is) ∙ long in
    ap command_said is ∙ command-fault first second rest fault two three (two_left first second rest two three seven) (chan-fault second fault bad)
part-fault kind.ChannelRelease part fault long h = absurd h
part-fault kind.MeasurementReport part fault long h = absurd h
part-fault kind.HandoverFailure part fault long h = absurd h
part-fault kind.HandoverComplete part fault long h = absurd h
part-fault kind.PhysicalInformation part fault long h = absurd h

-- octets with a fault are read as it
pub fault-said : (octets : List ℕ) (fault : RrFault) → HasRrFault octets fault → rr_said octets ≡ Err fault
fault-said octets NotRr (inl none) = ap rr_said none
fault-said octets NotRr (inr (d, rest, is, not)) = ap rr_said is ∙ rw (differs d 6 not) refl
fault-said octets Short (inl alone) = ap rr_said alone
fault-said octets Short (inr (k, body, is, short)) =
    ap rr_said is ∙ ap (λ found. body_said (type_of k) found body) (kind_at-type_of k) ∙ rw (below _ _ short) refl
fault-said octets (UnknownType t) (body, is, none) = ap rr_said is ∙ ap (λ found. body_said t found body) (no_kind t none)
fault-said octets (Element fault) (k, part, framed, bad) = framed-said k part octets framed ∙ ap in_message (part-fault k part fault framed.len bad)
fault-said octets NoMemory h = absurd h

pub no_fault : (v : Rr) (octets : List ℕ) (fault : RrFault) → IsRrText v octets → HasRrFault octets fault → ⊥
no_fault v octets fault text bad =
    let p = text-said v octets text in
    let q = fault-said octets fault bad in
    cc

pub one_fault : (octets : List ℕ) (f g : RrFault) → HasRrFault octets f → HasRrFault octets g → f ≡ g
one_fault octets f g p q =
    let first = fault-said octets f p in
    let second = fault-said octets g q in
    cc

-- what is wrong with what follows a type
pub element-fault : (k : MessageType) (body : List ℕ) (f : ElementFault) → part_len k ≤ length body → HasPartFault k (take (part_len k) body) f → HasRrFault (6 ∷ type_of k ∷ body) (Element f)
element-fault k body f long bad = (k, take (part_len k) body, framed-body k body long, bad)
