-- The sites that a script runs over.
use Rattle.std.specs.Prelude.{ℕ, List, ◌∷◌, Option, option_map}
use Rattle.std.specs.Borrow.{Bor}
use Rattle.cell_table.specs.Site.{SiteView}
use Rattle.lab_runs.specs.declared.run.Sites.{Sites}
use Rattle.lab_runs.specs.Course.{option_list}

-- the first controller's, and the peer's where there is one
abbrev pub views_of : {A : Type 0} → Sites A → List SiteView
views_of sites = sites.first ∷ option_list sites.peer

-- the text that may be lent
abbrev pub texts_of : Option (Bor (List ℕ)) → Option (List ℕ)
texts_of text = option_map (λ t. t.now) text
