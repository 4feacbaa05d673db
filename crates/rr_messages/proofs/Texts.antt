-- A text of a message is read as the message.
use Rattle.std.proofs.Common.{◌≡◌, ◌∙◌, sym, ℕ, ◌+◌, ◌*◌, ◌≤◌, nat_lt, false, List, [], ◌∷◌, ◌++◌, length, take, drop, Some, Result, Ok, Err, OnOk, get_or, refl, ap, arith}
use Rattle.std.proofs.lemmas.List.{take_at, take-append-drop, length-take-le, length-append, append-nil}
use Rattle.std.proofs.lemmas.Bool.Decides.{nat_tests}
use Rattle.rr_elements.specs.CellDescription.{cell_text}
use Rattle.rr_elements.specs.ChanDescription.{chan_text}
use Rattle.rr_elements.specs.Power.{power_text}
use Rattle.rr_elements.proofs.Readers.{cell_said, chan_said, power_said}
use Rattle.rr_elements.proofs.ElementLemmas.{cell-said, chan-said, power-said, cause-said, cell-text, chan-text, power-text, cause-text}
use Rattle.rr_elements.proofs.ResultsLemmas.{text-said as results-said}
use Rattle.rr_elements.proofs.ResultsTexts.{results-text}
use Rattle.rr_messages.specs.declared.kind.MessageType.{MessageType}
use Rattle.rr_messages.specs.declared.kind.MessageType.TheVariants as kind
use Rattle.rr_messages.specs.declared.message.Rr.{Rr}
use Rattle.rr_messages.specs.declared.message.Rr.TheVariants.{HandoverCommand, HandoverComplete, HandoverFailure, ChannelRelease, PhysicalInformation, MeasurementReport}
use Rattle.rr_messages.specs.Kind.{type_of, part_len}
use Rattle.rr_messages.specs.Rr.{kind_of, Fits, IsFramed, IsPart, IsRrText, part_text, rr_text}
use Rattle.rr_messages.proofs.Readers.{kind_at, ◌>>=◌, command_said, advance_said, part_said, body_said, in_message, rr_said}

-- a handover command's part is cut into its elements
pub command-cut : (first second last : List ℕ) (reference : ℕ) → length first ≡ 2 → length second ≡ 3 → length last ≡ 1 → command_said (first ++ second ++ reference ∷ last) ≡ cell_said first >>= λ cell. chan_said second >>= λ channel. power_said last >>= λ power. Ok (HandoverCommand cell channel reference power)
command-cut (a ∷ b ∷ []) (c ∷ d ∷ e ∷ []) (f ∷ []) reference p q r = refl
command-cut (a ∷ b ∷ []) (c ∷ d ∷ e ∷ []) [] reference p q r = absurd (omega arith)
command-cut (a ∷ b ∷ []) (c ∷ d ∷ e ∷ []) (f ∷ g ∷ xs) reference p q r = absurd (omega arith)
command-cut [] second last reference p q r = absurd (omega arith)
command-cut (a ∷ []) second last reference p q r = absurd (omega arith)
command-cut (a ∷ b ∷ c ∷ xs) second last reference p q r = absurd (omega arith)
command-cut (a ∷ b ∷ []) [] last reference p q r = absurd (omega arith)
command-cut (a ∷ b ∷ []) (c ∷ []) last reference p q r = absurd (omega arith)
command-cut (a ∷ b ∷ []) (c ∷ d ∷ []) last reference p q r = absurd (omega arith)
command-cut (a ∷ b ∷ []) (c ∷ d ∷ e ∷ f ∷ xs) last reference p q r = absurd (omega arith)

octets_of_bits : (k n : ℕ) → 8 * n ≡ 8 * k → n ≡ k
octets_of_bits k n e = omega arith

-- a mandatory part is read as the value
part-said : (v : Rr) (part : List ℕ) → IsPart v part → part_said (kind_of v) part ≡ Ok v
part-said (HandoverCommand cell channel reference power) part p =
    let two : length p.0 ≡ 2 = octets_of_bits 2 _ p.3.len in
    let three : length p.1 ≡ 3 = octets_of_bits 3 _ p.4.1.len in
    let one : length p.2 ≡ 1 = octets_of_bits 1 _ p.5.1.len in
    ap command_said p.6 ∙ command-cut p.0 p.1 p.2 reference two three one ∙ rw (cell-said cell p.0 p.3, chan-said channel p.1 p.4, power-said power p.2 p.5) refl
part-said (HandoverComplete cause) part p = ap (λ r. r >>= λ cause. Ok (HandoverComplete cause)) (cause-said cause part p)
part-said (HandoverFailure cause) part p = ap (λ r. r >>= λ cause. Ok (HandoverFailure cause)) (cause-said cause part p)
part-said (ChannelRelease cause) part p = ap (λ r. r >>= λ cause. Ok (ChannelRelease cause)) (cause-said cause part p)
part-said (PhysicalInformation advance) part p = ap advance_said p
part-said (MeasurementReport results) part p = ap (λ r. r >>= λ results. Ok (MeasurementReport results)) (results-said results part p)

part-len : (v : Rr) (part : List ℕ) → IsPart v part → length part ≡ part_len (kind_of v)
part-len (HandoverCommand cell channel reference power) part p =
    let two : length p.0 ≡ 2 = octets_of_bits 2 _ p.3.len in
    let three : length p.1 ≡ 3 = octets_of_bits 3 _ p.4.1.len in
    let one : length p.2 ≡ 1 = octets_of_bits 1 _ p.5.1.len in
    ap length p.6 ∙ length-append (p.0 ++ p.1) (reference ∷ p.2) ∙ ap (λ k. k + length (reference ∷ p.2)) (length-append p.0 p.1) ∙ omega arith
part-len (HandoverComplete cause) part p = octets_of_bits 1 _ p.len
part-len (HandoverFailure cause) part p = octets_of_bits 1 _ p.len
part-len (ChannelRelease cause) part p = octets_of_bits 1 _ p.len
part-len (PhysicalInformation advance) part p = ap length p
part-len (MeasurementReport results) part p = octets_of_bits 16 _ p.fields.len

pub kind_at-type_of : (k : MessageType) → kind_at (type_of k) ≡ Some k
kind_at-type_of kind.ChannelRelease = refl
kind_at-type_of kind.MeasurementReport = refl
kind_at-type_of kind.HandoverFailure = refl
kind_at-type_of kind.HandoverCommand = refl
kind_at-type_of kind.HandoverComplete = refl
kind_at-type_of kind.PhysicalInformation = refl

not_below : (a b : ℕ) → b ≤ a → nat_lt a b ≡ false
not_below a b h = grind (arith, nat_tests)

body-said : (t : ℕ) (k : MessageType) (part rest : List ℕ) → length part ≡ part_len k → body_said t (Some k) (part ++ rest) ≡ in_message (part_said k part)
body-said t k part rest long =
    let total : length (part ++ rest) ≡ length part + length rest = length-append part rest in
    let cut : nat_lt (length (part ++ rest)) (part_len k) ≡ false = not_below _ _ (omega arith) in
    let front : take (part_len k) (part ++ rest) ≡ part = take_at part rest (part_len k) long in
    rw (cut, front) refl

-- what framed octets say is what the part says
pub framed-said : (k : MessageType) (part octets : List ℕ) → IsFramed k part octets → rr_said octets ≡ in_message (part_said k part)
framed-said k part octets framed =
    let body = part ++ framed.rest in
    ap rr_said framed.octets_are ∙ ap (λ found. body_said (type_of k) found body) (kind_at-type_of k) ∙ body-said (type_of k) k part framed.rest framed.len

-- a text is read as its value
pub text-said : (v : Rr) (octets : List ℕ) → IsRrText v octets → rr_said octets ≡ Ok v
text-said v octets text =
    framed-said (kind_of v) text.0 octets text.1 ∙ ap in_message (part-said v text.0 text.2)

pub one_value : (v w : Rr) (octets : List ℕ) → IsRrText v octets → IsRrText w octets → v ≡ w
one_value v w octets p q =
    let first = text-said v octets p in
    let second = text-said w octets q in
    cc

-- what is written is a text
pub text-is : (v : Rr) → IsPart v (part_text v) → IsRrText v (rr_text v)
text-is v part =
    let long = part-len v (part_text v) part in
    let same = ap (λ octets. 6 ∷ type_of (kind_of v) ∷ octets) (sym (append-nil (part_text v))) in
    (part_text v, record { rest = []; len = long; octets_are = same }, part)

-- what follows a type is framed where the part is whole
pub framed-body : (k : MessageType) (body : List ℕ) → part_len k ≤ length body → IsFramed k (take (part_len k) body) (6 ∷ type_of k ∷ body)
framed-body k body long =
    let n = part_len k in
    record { rest = drop n body; len = length-take-le n body long; octets_are = ap (λ octets. 6 ∷ type_of k ∷ octets) (sym (take-append-drop n body)) }

pub body-text : (v : Rr) (k : MessageType) (body : List ℕ) → kind_of v ≡ k → part_len k ≤ length body → IsPart v (take (part_len k) body) → IsRrText v (6 ∷ type_of k ∷ body)
body-text v k body same long is = (take (part_len k) body, rw same (framed-body k body long), is)

-- each value that fits has a text
pub fitting-part : (v : Rr) → Fits v → IsPart v (part_text v)
fitting-part (HandoverCommand cell channel reference power) fits =
    (cell_text cell, chan_text channel, power_text power, cell-text cell fits.0, chan-text channel fits.1, power-text power fits.3, refl)
fitting-part (HandoverComplete cause) fits = cause-text cause fits
fitting-part (HandoverFailure cause) fits = cause-text cause fits
fitting-part (ChannelRelease cause) fits = cause-text cause fits
fitting-part (PhysicalInformation advance) fits = refl
fitting-part (MeasurementReport results) fits = results-text results fits

-- seven octets, as code indexes them
pub seven_octets : (p : List ℕ) → length p ≡ 7 → p ≡ get_or p 0 0 ∷ get_or p 1 0 ∷ get_or p 2 0 ∷ get_or p 3 0 ∷ get_or p 4 0 ∷ get_or p 5 0 ∷ get_or p 6 0 ∷ []
seven_octets [] h = absurd (omega arith)
seven_octets (a ∷ []) h = absurd (omega arith)
seven_octets (a ∷ b ∷ []) h = absurd (omega arith)
seven_octets (a ∷ b ∷ c ∷ []) h = absurd (omega arith)
seven_octets (a ∷ b ∷ c ∷ d ∷ []) h = absurd (omega arith)
seven_octets (a ∷ b ∷ c ∷ d ∷ e ∷ []) h = absurd (omega arith)
seven_octets (a ∷ b ∷ c ∷ d ∷ e ∷ f ∷ []) h = absurd (omega arith)
seven_octets (a ∷ b ∷ c ∷ d ∷ e ∷ f ∷ g ∷ []) h = refl
seven_octets (a ∷ b ∷ c ∷ d ∷ e ∷ f ∷ g ∷ i ∷ rest) h = absurd (omega arith)

-- what holds anyway holds where a result is Ok
pub on_ok : {A E : Type 0} (P : Type 0) (r : Result A E) → P → OnOk r P
on_ok P (Ok x) p = p
on_ok P (Err e) p = tt
