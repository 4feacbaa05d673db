use Rattle.std.proofs.Common.{◌≡◌, ◌≢◌, ℕ, Ok, true, is_some, List, [], ◌∷◌, length, sym, ap, ◌∙◌, arith, rules}
use Rattle.hex.specs.Hex.{decode_of, decode_pairs}
use Rattle.lab_script.specs.Words.{octets_of}
use Rattle.lab.proofs.decoded.decode_text.Goals as goal

octets_of-some : (text octets : List ℕ) → length text ≢ 0 → decode_of text ≡ Ok octets → is_some (octets_of text) ≡ true
octets_of-some text octets some written = rw written (search rules)

octets_of-written : (text octets : List ℕ) → decode_of text ≡ Ok octets → octets ≢ [] → is_some (octets_of text) ≡ true
unfolding decode_pairs
octets_of-written [] [] written some = absurd (some (λ i. []))
octets_of-written [] (octet ∷ rest) written some = cc written
octets_of-written (digit ∷ rest) octets written some =
    octets_of-some (digit ∷ rest) octets (λ e. absurd (omega (arith, e))) written

pub returns-in_err-fault-clause-memory : goal.returns-in_err-fault-clause-memory
returns-in_err-fault-clause-memory g c =
    let written : decode_of c.args.text.now ≡ Ok c.in-Some.octets.items = search rules in
    let octets = c.deref.result.now in
    λ refused. octets_of-written c.args.text.now octets (written ∙ ap Ok (sym c.deref.ensures.value))
    (c.print_or_fault-printed.ensures.some (c.in_err-fault.ensures.memory (search (rules, refused))))
