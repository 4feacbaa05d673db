use Rattle.std.proofs.Common.{◌++◌, ◌∷◌, [], ℕ, List, sym, ap, ◌∙◌, arith, filter_map, get_or}
use Rattle.tested_scripts.specs.Meeting.{behind, said_of}
use Rattle.tested_scripts.proofs.MeetingLemmas.{filter_more}
use Rattle.tested_scripts.proofs.compare.behind_text.Goals as goal

pub loop-place-preserved : goal.loop-place-preserved
loop-place-preserved g c =
    let f = behind (said_of c.args.came.now) c.args.text.now in
    let places = c.args.places.now in
    let i = c.loop-place.place-index in
    c.in_ok-push_behind.ensures
    ∙ (ap (λ (xs : List ℕ). xs ++ filter_map f (get_or places i 0 ∷ [])) c.loop-place.invariant
    ∙ sym (filter_more f places i (omega arith)))
