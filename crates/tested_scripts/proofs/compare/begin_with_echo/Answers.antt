use Rattle.std.proofs.Common.{◌≡◌, List, ℕ, Bor, [], Some, None, get_or, sym, ◌∙◌, add-one, rules}
use Rattle.tested_scripts.specs.Lines.{expected_in}
use Rattle.tested_scripts.proofs.MeetingLemmas.{echo_next, echo_here, echo_none}
use Rattle.tested_scripts.proofs.compare.begin_with_echo.Goals as goal

-- the line that stands where there is none
abbrev no_line : Bor (List ℕ)
no_line = record { ref_ptr = (0, 0); now = [] }

pub loop-line-preserved : goal.loop-line-preserved
loop-line-preserved c =
    let none : expected_in (get_or c.args.lines.now c.loop-line.line-index no_line).now ≡ None = search rules in
    rw add-one (c.loop-line.invariant ∙ echo_next c.args.lines.now c.loop-line.line-index no_line c.loop-line-test.true none)

pub returns-in-Some : goal.returns-in-Some
returns-in-Some c =
    let some : expected_in (get_or c.args.lines.now c.loop-line.line-index no_line).now ≡ Some c.in-Some.text.now = search rules in
    c.is_echo.ensures ∙ sym (c.loop-line.invariant ∙ echo_here c.args.lines.now c.loop-line.line-index no_line c.in-Some.text.now c.loop-line-test.true some)

pub returns : goal.returns
returns c = sym (c.loop-line.invariant ∙ echo_none c.args.lines.now c.loop-line.line-index c.loop-line-test.false)
