-- What the readers of values answer, in the words of the definitions.
use Rattle.std.specs.Prelude.{List, map}
use Rattle.std.specs.Borrow.{Bor}
use Rattle.std.specs.Result.{result_map_both}
use Rattle.toml.specs.Data.{Data}
use Rattle.toml.specs.View.{view}
use Rattle.toml.specs.declared.value.Value.{Value}
use Rattle.arrayvec.specs.ArrayVec.{ArrayVec}
use Rattle.cell_table.specs.SiteFile.{Read}

-- a value, as its data
abbrev pub value_read : Read (Bor Value) → Read Data
value_read r = result_map_both (λ v. view v.now) (λ f. f) r

-- the values of an array, as their data
abbrev pub values_read : Read (Bor (List Value)) → Read (List Data)
values_read r = result_map_both (λ vs. map view vs.now) (λ f. f) r

-- the list that was kept
abbrev pub items_read : {A : Type 0} → Read (ArrayVec A) → Read (List A)
items_read r = result_map_both (λ v. v.items) (λ f. f) r
