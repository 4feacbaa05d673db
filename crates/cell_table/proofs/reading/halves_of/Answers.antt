use Rattle.std.proofs.lemmas.Result.{err_from_is_err_and}
use Rattle.std.proofs.Common.{◌≡◌, ◌==◌, ◌<◌, ◌≤◌, ℕ, true, false, Ok, length, map, sym, rules, arith}
use Rattle.std.proofs.lemmas.Bool.Decides.{nat_tests}
use Rattle.toml.specs.View.{view}
use Rattle.cell_table.specs.SiteFile.{half_slot}
use Rattle.cell_table.specs.Kept.{names}
use Rattle.cell_table.proofs.Each.{nine-push, nine-full, nine-err, nine-end}
use Rattle.cell_table.proofs.reading.halves_of.Goals as goal
use Rattle.cell_table.proofs.reading.halves_of.Goals.{then-not-is_full, else-not-is_full}

below_nine : (n : ℕ) → n ≤ 9 → (n == 9) ≡ false → n < 9
below_nine n fits other = grind (arith, nat_tests)

is_nine : (n : ℕ) → (n == 9) ≡ true → n ≡ 9
is_nine n same = grind (arith, nat_tests)

pub loop-entry-preserved : goal.loop-entry-preserved
loop-entry-preserved c =
    let says : half_slot (names c.args.range (map view c.args.slots.now)) (view c.entry-item.result) ≡ Ok c.in_ok-slot.slot = search rules in
    elim c.if-not-is_full.branch [
      | then-not-is_full w ↦
          let fits : length c.loop-entry.halves.items ≤ 9 = c.loop-entry.invariant.count in
          let room : length c.loop-entry.halves.items < 9 = below_nine (length c.loop-entry.halves.items) fits (sym (w.if-not-is_full.ensures.value)) in
          rw (w.halves-is, w.push.ensures.items)
          (nine-push (λ place. half_slot (names c.args.range (map view c.args.slots.now))) c.args.entries.now c.loop-entry.entry-index c.entry-item.result c.loop-entry.halves.items c.in_ok-slot.slot c.loop-entry-test.true c.entry-item.is says room c.loop-entry.invariant)
      | else-not-is_full w ↦
          let full : length c.loop-entry.halves.items ≡ 9 = is_nine (length c.loop-entry.halves.items) (sym (w.if-not-is_full.ensures.value)) in
          rw w.halves-is
          (nine-full (λ place. half_slot (names c.args.range (map view c.args.slots.now))) c.args.entries.now c.loop-entry.entry-index c.entry-item.result c.loop-entry.halves.items c.in_ok-slot.slot c.loop-entry-test.true c.entry-item.is says full c.loop-entry.invariant)
    ]

pub returns-in_err-slot : goal.returns-in_err-slot
returns-in_err-slot c =
    let p = err_from_is_err_and c.from_residual.result c.from_residual.ensures.1 in
    record { read = rw p.1 (sym (nine-err (λ place. half_slot (names c.args.range (map view c.args.slots.now))) c.args.entries.now c.loop-entry.entry-index c.entry-item.result c.loop-entry.halves.items _ c.loop-entry-test.true c.entry-item.is (search rules) c.loop-entry.invariant)) }

pub returns : goal.returns
returns c = record {
  read = sym (nine-end (λ place. half_slot (names c.args.range (map view c.args.slots.now))) c.args.entries.now c.loop-entry.entry-index c.loop-entry.halves.items c.loop-entry-test.false c.loop-entry.invariant);
}
