use Rattle.std.proofs.Common.{sym, ap, ◌∙◌, map-id, rules, subst, flat_map, [], ◌∷◌, ◌++◌, append-nil}
use Rattle.std.proofs.lemmas.Iterator.{YieldsList-from_chars}
use Rattle.std.proofs.lemmas.Iterator.Consumers.{YieldsList-end}
use Rattle.std.proofs.lemmas.Grind.{put_two, flat_map-append}
use Rattle.std.specs.Fmt.{HasWritten}
use Rattle.screen_text.specs.Escapes.{shown_character}
use Rattle.screen_text.proofs.escaped.write_text.Goals as goal

pub loop-character-preserved : goal.loop-character-preserved
loop-character-preserved g c = λ plain.
    let so_far = c.loop-character.invariant plain in
    put_two _ _ _ _ _ _ _ so_far (search rules) (sym (flat_map-append shown_character c.loop-character.yielded (c.in-Some.character ∷ []) ∙ ap (λ w. flat_map shown_character c.loop-character.yielded ++ w) (append-nil (shown_character c.in-Some.character))))

pub returns : goal.returns
returns g c = λ plain ended.
    let end = YieldsList-end (YieldsList-from_chars c.args.text.now c.utf8.text cc) c.loop-character.yielded _ c.loop-character.yielded_by _ _ c.in-None.is c.next.ensures.steps in
    subst (λ done. HasWritten g.W.Write.write_str_gives c.args.f.now done c.loop-character.f) (ap (flat_map shown_character) (sym (map-id c.loop-character.yielded) ∙ end.0)) (c.loop-character.invariant plain)
