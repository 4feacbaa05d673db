use Rattle.std.proofs.Common.{◌≡◌, Option, Some, None, refl, sym, ap, ◌∙◌}
use Rattle.std.specs.List.{list_all}
use Rattle.lab_script.specs.Script.{first_unreadable, is_item_there}
use Rattle.lab_script.proofs.SideLemmas.{all_there}
use Rattle.lab_script.proofs.script.read_script.Goals as goal

none_of : {X : Type 0} (found : Option X) → ((x : X) → found ≡ Some x → ⊥) → found ≡ None
none_of None h = refl
none_of (Some x) h = absurd (h x refl)

pub returns-clause-sides : goal.returns-clause-sides
returns-clause-sides g c =
    let none : first_unreadable c.args.has_peer c.args.text.now ≡ None = sym c.first_unreadable.ensures.line ∙ none_of c.first_unreadable.result c.in_default.not-Some in
    ap (list_all (is_item_there c.args.has_peer)) c.in_ok-items.ensures.value ∙ all_there _ c.args.has_peer c.args.text.now none
