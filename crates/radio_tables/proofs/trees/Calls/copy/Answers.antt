use Rattle.std.proofs.Common.{ℕ, List, ◌∙◌, ap}
use Rattle.radio_tables.specs.Entries.{Kept, CallTable, records_of, armed_of}
use Rattle.radio_tables.proofs.CopyFacts.{cloned}
use Rattle.radio_tables.proofs.trees.Calls.copy.Goals as goal

pub returns : goal.returns
returns g c =
    let view : List (ℕ × Kept) → CallTable = λ es. record { records = records_of es; armed = armed_of es } in
    ap view (cloned _ _ (λ k j h. h) (λ x y h. h) c.self.inside.entries.entries c.in_ok-entries.entries.entries c.in_ok-entries.ensures.cases) ∙ c.self.view_is
