use Rattle.std.proofs.Common.{◌≡◌, ◌∙◌, Bool, length, vec_len, ap, sym, subst, arith}
use Rattle.decoded_lines.specs.declared.reader.Found.{Found}
use Rattle.decoded_lines.specs.Reading.{found_of, Gives}
use Rattle.decoded_lines.proofs.ReadingLemmas.{IsRead, read_again, read_more, gives_whole, gives_last, gives_end}
use Rattle.decoded_lines.proofs.reader.next_line.Goals.{in-Again, in-Open}
use Rattle.decoded_lines.proofs.reader.next_line.Goals as goal

pub returns-in-Whole-clause-found : goal.returns-in-Whole-clause-found
returns-in-Whole-clause-found g c =
    let line = c.read_part.new.line in
    let long : vec_len line ≡ length line.items = omega (arith, line.ok.0) in
    let passed = rw c.in-Whole.is at c.in_ok-read_part.ensures.passed in
    subst (λ (f : Found). Gives f (g.R.Read.remaining c.args.reader.now) (g.R.Read.remaining c.read_part.new.reader) line.items)
    (sym (c.line_found.ensures.found ∙ ap found_of long))
    (gives_whole _ _ _ c.loop.is_begun c.loop.line.items line.items c.loop.invariant.read passed)

pub returns-then-is_begun-clause-found : goal.returns-then-is_begun-clause-found
returns-then-is_begun-clause-found g c =
    let line = c.read_part.new.line in
    let long : vec_len line ≡ length line.items = omega (arith, line.ok.0) in
    let passed = rw c.in-End.is at c.in_ok-read_part.ensures.passed in
    subst (λ (f : Found). Gives f (g.R.Read.remaining c.args.reader.now) (g.R.Read.remaining c.read_part.new.reader) line.items)
    (sym (c.line_found-then-is_begun.ensures.found ∙ ap found_of long))
    (gives_last _ _ _ c.loop.is_begun c.loop.line.items line.items c.if-is_begun.true c.loop.invariant.read passed)

pub returns-else-is_begun-clause-found : goal.returns-else-is_begun-clause-found
returns-else-is_begun-clause-found g c =
    let passed = rw c.in-End.is at c.in_ok-read_part.ensures.passed in
    gives_end _ _ (g.R.Read.remaining c.read_part.new.reader) c.loop.is_begun c.loop.line.items c.read_part.new.line.items c.if-is_begun.false c.loop.invariant.read passed

pub loop-preserved : goal.loop-preserved
loop-preserved g c =
    let old = g.R.Read.remaining c.args.reader.now in
    let new = g.R.Read.remaining c.read_part.new.reader in
    let line = c.read_part.new.line.items in
    record {
      bounded = c.in_ok-read_part.ensures.bounded;
      read = elim c.match-branch-2.branch [
        | in-Again w ↦ subst (λ (b : Bool). IsRead old new b line) (sym w.is_begun-is)
            (read_again old _ new c.loop.is_begun c.loop.line.items line c.loop.invariant.read (rw w.in-Again.is at c.in_ok-read_part.ensures.passed))
        | in-Open w ↦ subst (λ (b : Bool). IsRead old new b line) (sym w.is_begun-is)
            (read_more old _ new c.loop.is_begun c.loop.line.items line c.loop.invariant.read (rw w.in-Open.is at c.in_ok-read_part.ensures.passed))
      ];
    }
