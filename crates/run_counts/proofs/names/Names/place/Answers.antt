use Rattle.std.proofs.Common.{◌≡◌, ◌∷◌, ◌++◌, [], None, true, position, length, string_bytes, refl, sym, ap, ◌∙◌}
use Rattle.std.proofs.lemmas.Slice.{pushed}
use Rattle.run_counts.specs.Names as said
use Rattle.run_counts.proofs.Places.{added, same_text}
use Rattle.run_counts.proofs.names.Names.place.Goals as goal

pub returns-in_ok-push-in-None-clause-place : goal.returns-in_ok-push-in-None-clause-place
returns-in_ok-push-in-None-clause-place g c =
    let name = c.args.name.now in
    let texts = c.args.self.now.texts.items in
    let text = c.in_ok-from_str-in-None.field-0 in
    let none : said.place_in texts name ≡ None =
    ap (λ ts. said.place_in ts name) (sym c.deref.ensures.value) ∙ sym c.place_of.ensures ∙ c.in-None.is in
    let now : c.push.new.self.items ≡ texts ++ text ∷ [] = pushed (text ∷ []) refl c.in_ok-push-in-None.was c.push.ensures.items in
    let met : said.is_name name (string_bytes text) ≡ true = same_text name (string_bytes text) c.in_ok-from_str-in-None.ensures.ok in
    let last : c.len-place.result ≡ length texts = c.len-place.ensures ∙ sym c.deref.ensures.len ∙ ap length c.deref.ensures.value in
    ap (λ ts. said.place_in ts name) now ∙ added (λ t. said.is_name name (string_bytes t)) texts text c.len-place.result none met last
