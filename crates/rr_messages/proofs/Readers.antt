-- A reader of messages, octet by octet: two texts, or a text and a fault, of the same octets are compared by it.
use Rattle.std.specs.Prelude.{ℕ, ◌==◌, nat_lt, if◌then◌else◌, List, [], ◌∷◌, length, take, find, Option, Some, None, Result, Ok, Err}
use Rattle.rr_elements.proofs.Readers.{cell_said, chan_said, power_said, cause_said, results_said}
use Rattle.rr_elements.specs.declared.fault.ElementFault.{ElementFault}
use Rattle.rr_elements.specs.declared.fault.ElementFault.TheVariants.{Length}
use Rattle.rr_messages.specs.declared.kind.MessageType.{MessageType}
use Rattle.rr_messages.specs.declared.kind.MessageType.TheVariants as kind
use Rattle.rr_messages.specs.declared.fault.RrFault.{RrFault}
use Rattle.rr_messages.specs.declared.fault.RrFault.TheVariants.{NotRr, UnknownType, Short, Element}
use Rattle.rr_messages.specs.declared.message.Rr.{Rr}
use Rattle.rr_messages.specs.declared.message.Rr.TheVariants.{HandoverCommand, HandoverComplete, HandoverFailure, ChannelRelease, PhysicalInformation, MeasurementReport}
use Rattle.rr_messages.specs.Kind.{type_of, part_len}

abbrev pub kinds : List MessageType
kinds = kind.ChannelRelease ∷ kind.MeasurementReport ∷ kind.HandoverFailure ∷ kind.HandoverCommand ∷ kind.HandoverComplete ∷ kind.PhysicalInformation ∷ []

abbrev pub kind_at : ℕ → Option MessageType
kind_at octet = find (λ k. octet == type_of k) kinds

infixl 10 ◌>>=◌
abbrev pub ◌>>=◌ : {A B F : Type 0} → Result A F → (A → Result B F) → Result B F
(Ok x) >>= f = f x
(Err e) >>= f = Err e

abbrev pub command_said : List ℕ → Result Rr ElementFault
command_said (a ∷ b ∷ c ∷ d ∷ e ∷ reference ∷ f ∷ []) =
    cell_said (a ∷ b ∷ []) >>= λ cell. chan_said (c ∷ d ∷ e ∷ []) >>= λ channel. power_said (f ∷ []) >>= λ power. Ok (HandoverCommand cell channel reference power)
command_said _ = Err Length

abbrev pub advance_said : List ℕ → Result Rr ElementFault
advance_said (advance ∷ []) = Ok (PhysicalInformation advance)
advance_said _ = Err Length

abbrev pub part_said : MessageType → List ℕ → Result Rr ElementFault
part_said kind.ChannelRelease part = cause_said part >>= λ cause. Ok (ChannelRelease cause)
part_said kind.MeasurementReport part = results_said part >>= λ results. Ok (MeasurementReport results)
part_said kind.HandoverFailure part = cause_said part >>= λ cause. Ok (HandoverFailure cause)
part_said kind.HandoverCommand part = command_said part
part_said kind.HandoverComplete part = cause_said part >>= λ cause. Ok (HandoverComplete cause)
part_said kind.PhysicalInformation part = advance_said part

abbrev pub in_message : Result Rr ElementFault → Result Rr RrFault
in_message (Ok v) = Ok v
in_message (Err fault) = Err (Element fault)

abbrev pub body_said : ℕ → Option MessageType → List ℕ → Result Rr RrFault
body_said octet None body = Err (UnknownType octet)
body_said octet (Some k) body =
    if nat_lt (length body) (part_len k) then Err Short else in_message (part_said k (take (part_len k) body))

abbrev pub typed_said : List ℕ → Result Rr RrFault
typed_said [] = Err Short
typed_said (octet ∷ body) = body_said octet (kind_at octet) body

abbrev pub rr_said : List ℕ → Result Rr RrFault
rr_said [] = Err NotRr
rr_said (discriminator ∷ octets) = if discriminator == 6 then typed_said octets else Err NotRr
