use Rattle.std.proofs.Common.{◌++◌, ◌∙◌, List, ℕ, sym, ap, option_map}
use Rattle.decoded_lines.specs.Lines.{octets_of}
use Rattle.decoded_lines.proofs.OctetLemmas.{tail, skip, half, bad, more, done}
use Rattle.decoded_lines.proofs.octets.read_octets.Goals as goal

pub loop-left-preserved-then-is_separator : goal.loop-left-preserved-then-is_separator
loop-left-preserved-then-is_separator g c = record {
  gives =
      let rest = skip c.loop-left.left.now c.in-len1-up.len_at_least (sym c.is_separator.ensures ∙ c.if-is_separator.true) in
      ap (option_map {T = List ℕ} {U = List ℕ} (λ more. c.loop-left.octets.items ++ more)) rest ∙ c.loop-left.invariant.gives;
}

pub returns-in_default-rest : goal.returns-in_default-rest
returns-in_default-rest g c = record {
  octets =
      let none = half c.loop-left.left.now c.in-len1-up.len_at_least c.in_default-rest.len_below (sym c.is_separator.ensures ∙ c.if-is_separator.false) in
      sym (ap (option_map {T = List ℕ} {U = List ℕ} (λ more. c.loop-left.octets.items ++ more)) none) ∙ c.loop-left.invariant.gives;
}

pub returns-in_default-octet_of : goal.returns-in_default-octet_of
returns-in_default-octet_of g c = record {
  octets =
      let none = bad c.loop-left.left.now c.in-len1-up.len_at_least c.in-len1-up-rest.len_at_least (sym c.is_separator.ensures ∙ c.if-is_separator.false) (sym c.octet_of.ensures ∙ c.in_default-octet_of.is) in
      sym (ap (option_map {T = List ℕ} {U = List ℕ} (λ more. c.loop-left.octets.items ++ more)) none) ∙ c.loop-left.invariant.gives;
}

pub loop-left-preserved : goal.loop-left-preserved
loop-left-preserved g c = record {
  gives =
      let read = more c.loop-left.left.now c.loop-left.octets.items c.in-Some.octet c.in-len1-up.len_at_least c.in-len1-up-rest.len_at_least (sym c.is_separator.ensures ∙ c.if-is_separator.false) (sym c.octet_of.ensures ∙ c.in-Some.is) in
      ap (λ (items : List ℕ). option_map {T = List ℕ} {U = List ℕ} (λ more. items ++ more) (octets_of (tail (tail c.loop-left.left.now)))) c.in_ok-extend_from_slice.ensures.items ∙ (read ∙ c.loop-left.invariant.gives);
}

pub returns : goal.returns
returns g c = record {
  octets = done c.loop-left.left.now c.loop-left.octets.items c.in_default.len_below ∙ c.loop-left.invariant.gives;
}
