-- The order in which candidates are listed.
use Rattle.std.specs.Prelude.{◌≡◌, ◌<◌, ◌↔◌, ◌⊎◌, List, AllPairs, Contains}
use Rattle.ho_candidates.specs.declared.listed.Candidate.{Candidate}

-- By sum downwards, then cell number upwards. No candidate stands before itself, so in a list in which each stands before
-- all that follow, none stands twice.
abbrev pub StandsBefore : Candidate → Candidate → Type 0
StandsBefore x y = (y.sum < x.sum) ⊎ ((x.sum ≡ y.sum) × (x.cell < y.cell))

-- a list has the candidates of another and this one
abbrev pub HasOneMore : List Candidate → Candidate → List Candidate → Type 0
HasOneMore old more new = (c : Candidate) → Contains new c ↔ ((c ≡ more) ⊎ Contains old c)

-- Two lists in order that have the same candidates are equal.
abbrev pub OneListInOrder : Type 0
OneListInOrder = (xs ys : List Candidate) → AllPairs StandsBefore xs → AllPairs StandsBefore ys → ((c : Candidate) → Contains xs c ↔ Contains ys c) → xs ≡ ys
