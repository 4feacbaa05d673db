-- The keys of a site file's tables.
use Rattle.std.specs.Prelude.{◌≡◌, ℕ, List, [], ◌∷◌, Any}
use Rattle.cell_table.specs.declared.fault.Key.{Key}
use Rattle.cell_table.specs.declared.fault.Key.TheVariants as key
use Rattle.cell_table.specs.SiteFile.{key_name}
use Rattle.site_text.specs.declared.document.Place.{Place}
use Rattle.site_text.specs.declared.document.Place.TheVariants as place

-- the keys of a table by where it stands; any other is ignored
abbrev pub keys_of : Place → List Key
keys_of place.Top = key.Handover ∷ key.Cell ∷ key.Outside ∷ []
keys_of place.Handover = key.Window ∷ key.Margin ∷ key.Minimum ∷ []
keys_of (place.Cell cell) = key.Lac ∷ key.Ci ∷ key.Bcch ∷ key.Ncc ∷ key.Bcc ∷ key.Power ∷ key.Ba ∷ key.Trx ∷ []
keys_of (place.Trx cell trx) = key.Arfcn ∷ key.Tch ∷ key.Half ∷ []
keys_of (place.Outside cell) = key.Lac ∷ key.Ci ∷ key.Bcch ∷ key.Ncc ∷ key.Bcc ∷ []

-- one of these keys has this name
abbrev pub IsNameOf : List Key → List ℕ → Type 0
IsNameOf keys name = Any (λ key. key_name key ≡ name) keys
