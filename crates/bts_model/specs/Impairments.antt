-- What may befall an answer on its way. Ours, of no standard.
use Rattle.std.specs.Prelude.{ℕ, Bool, true, false, ◌||◌, is_some, List, [], ◌∷◌, take, Option, Some, None}
use Rattle.bts_model.specs.declared.slots.Impairment.{Impairment}

-- nothing
abbrev pub unimpaired : Impairment
unimpaired = record { cut = None; doubles = false }

abbrev pub is_impaired : Impairment → Bool
is_impaired i = is_some i.cut || i.doubles

-- the first octets, so many, where that was asked for; fewer are left whole
abbrev pub cut_to : Option ℕ → List ℕ → List ℕ
cut_to None octets = octets
cut_to (Some n) octets = take n octets

-- once, or twice where that was asked for
abbrev pub once_or_twice : {A : Type 0} → Bool → A → List A
once_or_twice false x = x ∷ []
once_or_twice true x = x ∷ x ∷ []
