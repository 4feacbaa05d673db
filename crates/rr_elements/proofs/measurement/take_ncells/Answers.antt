use Rattle.std.proofs.Common.{◌≡◌, ◌∙◌, ◌+◌, ◌-◌, ◌++◌, ◌∷◌, [], sym, ap, arith, rules, take, drop, replicate, flat_map}
use Rattle.std.proofs.lemmas.Grind.{take-set_at, flat_map-append}
use Rattle.std.proofs.lemmas.List.{drop-set-lt, drop-replicate, drop-drop}
use Rattle.std.proofs.lemmas.List.Elements.{All-push, All-same}
use Rattle.octet_elements.specs.Bits.{cut, after, repeated_widths}
use Rattle.rr_elements.specs.MeasResults.{NcellFits, ncell_widths, ncell_numbers, no_ncell}
use Rattle.octet_elements.proofs.CutLemmas.{cut-more, after-more}
use Rattle.rr_elements.proofs.measurement.take_ncells.Goals as goal

pub loop-i-preserved : goal.loop-i-preserved
loop-i-preserved c =
    let i = c.loop-i.i in
    let places = c.loop-i.places in
    let read = c.take_ncell.result in
    let known = c.loop-i.invariant in
    let front = take-set_at places i (i + 1) read (omega arith) (omega arith) in
    let here : ncell_numbers read ≡ cut ncell_widths (after (repeated_widths i ncell_widths) c.args.bits) = c.take_ncell.ensures.numbers ∙ ap (cut ncell_widths) known.rest in
    let more = cut-more i (i + 1) ncell_widths c.args.bits (omega arith) in
    let next : drop (i + 1) places ≡ replicate (6 - (i + 1)) no_ncell = sym (drop-drop 1 i places) ∙ ap (drop 1) known.others ∙ drop-replicate 1 (6 - i) no_ncell ∙ ap (λ k. replicate k no_ncell) (omega arith) in
    record {
      numbers = ap (flat_map ncell_numbers) front ∙ flat_map-append ncell_numbers (take i places) (read ∷ []) ∙ ap (λ ns. ns ++ ncell_numbers read) known.numbers ∙ ap (λ ns. cut (repeated_widths i ncell_widths) c.args.bits ++ ns) here ∙ sym more;
      fits = All-same NcellFits _ _ front (All-push NcellFits (take i places) read known.fits c.take_ncell.ensures.fits);
      others = drop-set-lt (i + 1) places i read (omega arith) ∙ next;
      rest = c.take_ncell.ensures.rest ∙ ap (after ncell_widths) known.rest ∙ sym (after-more i (i + 1) ncell_widths c.args.bits (omega arith));
      left = omega arith;
      six = search rules;
    }
