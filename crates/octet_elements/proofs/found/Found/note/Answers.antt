use Rattle.std.proofs.Common.{◌≡◌, ◌≢◌, None, Some, sym, ◌∙◌, ap, arith, get_or, map, length}
use Rattle.std.proofs.lemmas.List.{map-set, length-map}
use Rattle.std.proofs.Math.ListN.{set, get_or-map}
use Rattle.octet_elements.specs.Lookup.{Kept, lookup, place_of}
use Rattle.octet_elements.specs.Values.{value_seen}
use Rattle.octet_elements.proofs.Notes.{unknown_stays, taken_stays, first_kept, second_kept, seen_free, seen_taken}
use Rattle.octet_elements.proofs.found.Found.note.Goals as goal
use Rattle.octet_elements.proofs.found.Found.note.Goals.{else-place-eq-DOUBLED-via-then-place-eq-DOUBLED+else-is_none-2, else-place-eq-DOUBLED-via-else-place-eq-DOUBLED}

pub returns-then-place-ge-PLACES : goal.returns-then-place-ge-PLACES
returns-then-place-ge-PLACES g c = λ es h.
    let place = c.requires in
    let past = c.if-place-ge-PLACES.true in
    unknown_stays g.T.ElementTable.known c.args.self.now es c.args.leading.identifier c.args.leading.value.now (omega arith) h

pub returns-then-is_none : goal.returns-then-is_none
returns-then-is_none g c = λ es h.
    let known = g.T.ElementTable.known in
    let first = c.self.inside.first in
    let kept : Kept = record { first = map value_seen first; second = value_seen c.self.inside.second } in
    let place = c.requires in
    let long : length (map value_seen first) ≡ 12 = length-map first value_seen ∙ c.self.invariant in
    let within = c.if-place-ge-PLACES.false in
    let free : get_or (map value_seen first) (place_of c.args.leading.identifier known) None ≡ None = ap (λ p. get_or (map value_seen first) p None) (sym place) ∙ get_or-map value_seen first c.args.leading.place None ∙ seen_free (get_or first c.args.leading.place None) (c.if-is_none.ensures) in
    ap (λ vs. lookup known (record { first = vs; second = kept.second })) (map-set value_seen first c.args.leading.place (Some c.args.leading.value) ∙ ap (λ p. set (map value_seen first) p (Some c.args.leading.value.now)) place)
    ∙ first_kept known kept es c.args.leading.identifier c.args.leading.value.now (omega arith) (omega arith) free (ap (lookup known) c.self.view_is ∙ h)

pub returns-then-is_none-2 : goal.returns-then-is_none-2
returns-then-is_none-2 g c = λ es h.
    let known = g.T.ElementTable.known in
    let first = c.self.inside.first in
    let kept : Kept = record { first = map value_seen first; second = value_seen c.self.inside.second } in
    let place = c.requires in
    let taken : get_or (map value_seen first) (place_of c.args.leading.identifier known) None ≢ None = λ none. seen_taken (get_or first c.args.leading.place None) (c.if-is_none.ensures) (sym (get_or-map value_seen first c.args.leading.place None) ∙ ap (λ p. get_or (map value_seen first) p None) place ∙ none) in
    second_kept known kept es c.args.leading.identifier c.args.leading.value.now (sym place ∙ c.if-place-eq-DOUBLED.true) taken (seen_free c.self.inside.second (c.if-is_none-2.ensures)) (ap (lookup known) c.self.view_is ∙ h)

pub returns-else-place-eq-DOUBLED : goal.returns-else-place-eq-DOUBLED
returns-else-place-eq-DOUBLED g c = λ es h.
    let known = g.T.ElementTable.known in
    let first = c.self.inside.first in
    let kept : Kept = record { first = map value_seen first; second = value_seen c.self.inside.second } in
    let place = c.requires in
    let within = c.if-place-ge-PLACES.false in
    let taken : get_or (map value_seen first) (place_of c.args.leading.identifier known) None ≢ None = λ none. seen_taken (get_or first c.args.leading.place None) (c.if-is_none.ensures) (sym (get_or-map value_seen first c.args.leading.place None) ∙ ap (λ p. get_or (map value_seen first) p None) place ∙ none) in
    let second : place_of c.args.leading.identifier known ≡ 0 → kept.second ≢ None = λ here none. elim c.else-place-eq-DOUBLED.branch [
      | else-place-eq-DOUBLED-via-then-place-eq-DOUBLED+else-is_none-2 w ↦ seen_taken c.self.inside.second (w.if-is_none-2.ensures) none
      | else-place-eq-DOUBLED-via-else-place-eq-DOUBLED w ↦ w.if-place-eq-DOUBLED.false (place ∙ here)
    ] in
    sym (ap (lookup known) c.self.view_is) ∙ taken_stays known kept es c.args.leading.identifier c.args.leading.value.now (omega arith) taken second (ap (lookup known) c.self.view_is ∙ h)
