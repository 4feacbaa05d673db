use Rattle.std.proofs.Common.{◌+◌, ◌≤◌, ◌++◌, length, take, slice_get, sym, ◌∙◌, ap, add-one, arith}
use Rattle.std.proofs.lemmas.List.{take_all}
use Rattle.std.specs.Option.{option_to_list}
use Rattle.cell_table.specs.Site.{channels}
use Rattle.opening_events.proofs.Parts.{take_next}
use Rattle.opening_events.proofs.listing.channels_of.Goals as goal

pub loop-place-preserved : goal.loop-place-preserved
loop-place-preserved g c =
    let xs = channels c.args.site.now in
    let i = c.loop-place.place in
    c.in_ok-push_at.ensures ∙ ap (λ ys. ys ++ option_to_list (slice_get xs i)) c.loop-place.invariant ∙ take_next xs i ∙ ap (λ n. take n xs) (sym (add-one i))

pub returns : goal.returns
returns g c =
    let xs = channels c.args.site.now in
    let enough : length xs ≤ c.loop-place.place = omega (arith, c.channels-place-end.ensures, c.loop-place-test.false) in
    c.loop-place.invariant ∙ take_all c.loop-place.place xs enough
