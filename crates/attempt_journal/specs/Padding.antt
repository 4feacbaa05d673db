-- Seven places in which a list of inverses stands, and the same in all of them behind it. Ours, of no standard.
use Rattle.std.specs.Prelude.{◌≡◌, ◌-◌, ◌≤◌, ℕ, List, ◌++◌, length, take, drop, replicate}
use mathlib.Core.Path.{sym, ap, ◌∙◌, subst}
use Rattle.std.proofs.lemmas.List.{length-take-le, take-append-drop}
use Rattle.attempt_journal.specs.declared.Inverse.{Inverse}
use Rattle.attempt_journal.specs.declared.Inverse.TheVariants.{Settle}

-- what stands behind so many inverses
abbrev pub pad : ℕ → List Inverse
pad n = replicate (7 - n) Settle

-- the list, and what stands behind it
abbrev pub padded : List Inverse → List Inverse
padded items = items ++ pad (length items)

-- places whose rest is padding are those of their list
pub padded_again : (places : List Inverse) (n : ℕ) → n ≤ 7 → length places ≡ 7 → drop n places ≡ pad n → (padded (take n places) ≡ places) × (length (take n places) ≡ n)
padded_again places n few seven rest =
    let long : length (take n places) ≡ n = length-take-le n places (subst (λ m. n ≤ m) (sym seven) few) in (
      ap (λ m. take n places ++ pad m) long ∙ ap (λ behind. take n places ++ behind) (sym rest) ∙ take-append-drop n places,
      long,
    )
