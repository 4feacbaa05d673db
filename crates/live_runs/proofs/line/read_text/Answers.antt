use Rattle.std.proofs.Common.{◌∙◌, List, ℕ, sym, ap, subst}
use Rattle.lab_script.specs.Script.{item_of}
use Rattle.live_runs.specs.Lines.{Says}
use Rattle.live_runs.proofs.InputFacts.{no_and}
use Rattle.live_runs.proofs.LineFacts.{not_readable, says_item, says_unreadable}
use Rattle.live_runs.proofs.line.read_text.Goals as goal

pub returns-then-is_unreadable : goal.returns-then-is_unreadable
returns-then-is_unreadable g c =
    says_unreadable c.args.has_sim c.args.line.now (no_and _ _ (not_readable c.args.has_sim c.args.line.now (sym c.is_unreadable.ensures.unreadable ∙ c.if-is_unreadable.true)))

pub returns : goal.returns
returns g c =
    let readable = sym c.is_unreadable.ensures.unreadable ∙ c.if-is_unreadable.false in
    let item = c.in_ok-read_item.ensures.item ∙ ap (λ (line : List ℕ). item_of {A = g.row.A.Denot} line) c.without_return.ensures.stripped in
    subst (Says c.args.has_sim c.args.line.now) (sym c.said_of.ensures) (says_item c.args.has_sim c.args.line.now _ c.requires.text readable item)
