-- The names of files, and the numbers in them.
use Rattle.std.proofs.Common.{◌≡◌, ◌++◌, ℕ, true, bytes_eq, codes, if◌then◌else◌, List, [], ◌∷◌, take, drop, map, Option, Some, None, Bor, refl, sym, ap, ◌∙◌}
use Rattle.std.specs.List.{filter_map, cons_option}
use Rattle.std.specs.Option.{option_to_list}
use Rattle.std.proofs.lemmas.List.{map-append}
use Rattle.std.proofs.lemmas.List.Elements.{filter_map-append}
use Rattle.journal_files.specs.Listings.{decimal_from, number_of}

-- a name of 20 digits and the ending
pub named : (name digits ending : List ℕ) (found : Option ℕ) → digits ≡ take 20 name → ending ≡ drop 20 name → bytes_eq ending (codes ".journal") ≡ true → found ≡ decimal_from (Some 0) digits → found ≡ number_of name
named name digits ending found front back is gives =
    gives ∙ ap (decimal_from (Some 0)) front
    ∙ sym (ap (λ q. if q then decimal_from (Some 0) (take 20 name) else None) (ap (λ e. bytes_eq e (codes ".journal")) (sym back) ∙ is))

-- names that are lent
abbrev pub now_of : List (Bor (List ℕ)) → List (List ℕ)
now_of names = map (λ name. name.now) names

one : (o : Option ℕ) → cons_option o [] ≡ option_to_list o
one (Some n) = refl
one None = refl

-- the numbers of one name more
pub numbers_more : (names : List (Bor (List ℕ))) (name : Bor (List ℕ)) (old new : List ℕ) → old ≡ filter_map number_of (now_of names) → new ≡ old ++ option_to_list (number_of name.now)
    → new ≡ filter_map number_of (now_of (names ++ name ∷ []))
numbers_more names name old new so_far more =
    more ∙ ap (λ ns. ns ++ option_to_list (number_of name.now)) so_far
    ∙ ap (λ ns. filter_map number_of (now_of names) ++ ns) (sym (one (number_of name.now)))
    ∙ sym (filter_map-append number_of (now_of names) (name.now ∷ []))
    ∙ ap (filter_map number_of) (sym (map-append (λ (x : Bor (List ℕ)). x.now) names (name ∷ [])))
