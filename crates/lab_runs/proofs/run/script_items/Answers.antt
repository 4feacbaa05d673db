use Rattle.std.proofs.Common.{◌≡◌, ◌↔◌, ℕ, Option, Some, None, Result, Err, refl, sym, ap, rules, ◌∙◌}
use Rattle.lab_script.specs.Script.{first_unreadable}
use Rattle.lab_script.specs.declared.script.ScriptFault.{ScriptFault}
use Rattle.lab_script.specs.declared.script.ScriptFault.TheVariants.{Line, NoMemory}
use Rattle.lab_runs.proofs.run.script_items.Goals as goal

-- where memory was refused, every line could be read
all_read : {X : Type 0} (unreadable : Option ℕ) (answer : Result X ScriptFault) → ((n : ℕ) → (answer ≡ Err (Line n)) ↔ (unreadable ≡ Some n)) → answer ≡ Err NoMemory → unreadable ≡ None
all_read None answer line memory = refl
all_read (Some n) answer line memory =
    let bad : Err (Line n) ≡ Err NoMemory = sym ((line n).1 refl) ∙ memory in
    cc

pub returns-in_ok-hear_unreadable-in-Err-Line-clause-refused : goal.returns-in_ok-hear_unreadable-in-Err-Line-clause-refused
returns-in_ok-hear_unreadable-in-Err-Line-clause-refused g c =
    let found = (c.read_script.ensures.line c.in-Err-Line.number).0 (c.in-Err-Line.is ∙ ap Err c.in-Err-Line.field-0-is) in
    λ _. search rules

pub returns-in-Err-NoMemory-clause-memory : goal.returns-in-Err-NoMemory-clause-memory
returns-in-Err-NoMemory-clause-memory g c =
    λ _. all_read (first_unreadable c.args.has_peer c.args.script.now) c.read_script.result c.read_script.ensures.line (c.in-Err-NoMemory.is ∙ ap Err c.in-Err-NoMemory.field-0-is)
