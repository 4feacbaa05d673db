use Rattle.std.proofs.Common.{ℕ, List, Result, IfOk, IfErr, inl, inr, refl, rules}
use Rattle.octet_elements.specs.Texts.{Decodes}
use Rattle.octet_elements.proofs.Texts.{decoded, text_answered, fault_answered}
use Rattle.bssmap_messages.specs.declared.fault.BssmapFault.{BssmapFault}
use Rattle.bssmap_messages.specs.declared.message.Bssmap.{Bssmap}
use Rattle.bssmap_messages.specs.Texts.{codec, IsTextOf, HasFault}
use Rattle.bssmap_messages.proofs.Noted.{answered}
use Rattle.bssmap_messages.proofs.Unique.{heads, not_torn, not_by_value, text_read, fault_read}
use Rattle.bssmap_messages.proofs.reading.decode.Goals as goal

-- a text's value or the octets' fault is all that a decoder is to answer
all : {A : Type 0} (octets : List ℕ) (r : Result (Bssmap A) BssmapFault) → IfOk r (λ v. IsTextOf v octets) → IfErr r (HasFault A octets) → Decodes (codec A) octets r
all octets r text fault = decoded (codec _) (heads _) octets r (λ early. early) not_torn not_by_value text fault

pub returns-in_err-kind : goal.returns-in_err-kind
returns-in_err-kind g c = record { decodes = all c.args.octets.now _ (search rules) (search rules) }

pub returns-in-Ok : goal.returns-in-Ok
returns-in-Ok g c =
    let found = c.in-Ok.ensures.whole in
    let kind = c.in_ok-kind.kind in
    let body = c.in_ok-kind.body.now in
    let answers = answered kind found.0 c.read.new.self c.read_elements.result found.2 c.read_elements.ensures in record {
      decodes = all c.args.octets.now c.read_elements.result
          (text_read kind c.args.octets.now body c.read_elements.result c.in_ok-kind.ensures.found (text_answered (codec _) kind body found.0 c.read_elements.result found.1 answers))
          (fault_read kind c.args.octets.now body c.read_elements.result c.in_ok-kind.ensures.found (fault_answered (codec _) kind body found.0 c.read_elements.result found.1 answers));
    }

pub returns-in-Err : goal.returns-in-Err
returns-in-Err g c = record { decodes = all c.args.octets.now _ tt (inr (c.in_ok-kind.kind, c.in_ok-kind.body.now, c.in_ok-kind.ensures.found, inl (c.in-Err.offset, c.in-Err.ensures.torn, refl))) }
