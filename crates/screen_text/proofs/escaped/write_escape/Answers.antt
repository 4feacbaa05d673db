use Rattle.std.proofs.Common.{◌≡◌, encode_utf8, encode_utf8_all, ◌++◌, [], ◌∷◌, take, drop, ap, sym, subst, ◌∙◌, append_assoc, append-nil, rules}
use Rattle.std.proofs.Output.{has_written_append}
use Rattle.std.specs.Fmt.{HasWritten}
use Rattle.std.specs.Char.Iter.{escape_rest}
use Rattle.screen_text.proofs.escaped.write_escape.Goals as goal

pub loop-character-preserved : goal.loop-character-preserved
loop-character-preserved g c = λ plain.
    let so_far = c.loop-character.invariant plain in
    let step : escape_rest c.loop-character.character-iterator ≡ c.in-Some.character ∷ escape_rest c.next.new.self = c.in-Some.ensures.steps.1.0 in (
      so_far.0 ++ encode_utf8 c.in-Some.character,
      has_written_append _ _ _ _ _ _ so_far.1 (search rules),
      append_assoc so_far.0 _ _ ∙ ap (λ rest. so_far.0 ++ encode_utf8_all rest) (sym step) ∙ so_far.2,
    )

pub returns : goal.returns
returns g c = λ plain ended.
    let so_far = c.loop-character.invariant plain in
    let left = c.loop-character.character-iterator in
    let none : escape_rest left ≡ [] = ap (λ n. take n (drop left.from left.chars)) c.in-None.ensures.steps.1.0 in
    subst (λ done. HasWritten g.W.Write.write_str_gives c.args.f.now done c.loop-character.f) (sym (append-nil so_far.0) ∙ ap (λ rest. so_far.0 ++ encode_utf8_all rest) (sym none) ∙ so_far.2) so_far.1
