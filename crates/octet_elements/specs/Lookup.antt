-- The values of a message's elements, by identifier.
use Rattle.std.specs.Prelude.{ℕ, suc, if◌then◌else◌, ◌==◌, nat_lt, get_or, List, [], ◌∷◌, Option, None}
use Rattle.octet_elements.specs.Elements.{Element, first_of, second_of}

-- the value of the first element with an identifier, and of the second
pub record Lookup : Type 0 where
  pub first : ℕ → Option (List ℕ)
  pub second : ℕ → Option (List ℕ)

abbrev pub values_in : List Element → Lookup
values_in es = record { first = λ i. first_of i es; second = λ i. second_of i es }

-- a codec knows at most so many identifiers
abbrev pub places : ℕ
places = 12

-- where an identifier stands in the list of those that a codec knows
abbrev pub place_from : ℕ → ℕ → List ℕ → ℕ
place_from n i [] = places
place_from n i (j ∷ known) = if j == i then n else place_from (suc n) i known

abbrev pub place_of : ℕ → List ℕ → ℕ
place_of i known = place_from 0 i known

-- of the identifier at this place the value of the second element is kept too
abbrev pub doubled : ℕ
doubled = 0

-- what is kept of a body's values: at each place that of the first element, and that of the second at the doubled place
pub record Kept : Type 0 where
  pub first : List (Option (List ℕ))
  pub second : Option (List ℕ)

-- what is kept, by identifier
abbrev pub lookup : List ℕ → Kept → Lookup
lookup known kept = record {
  first = λ i. get_or kept.first (place_of i known) None;
  second = λ i. if place_of i known == doubled then kept.second else None;
}

-- The values that a codec keeps of elements: for the identifiers that it knows that of the first element, and for the
-- doubled one that of the second element too.
abbrev pub noted : List ℕ → List Element → Lookup
noted known es = record {
  first = λ i. if nat_lt (place_of i known) places then first_of i es else None;
  second = λ i. if place_of i known == doubled then second_of i es else None;
}
