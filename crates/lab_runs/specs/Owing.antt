-- What a controller still owes where memory was refused. Ours, of no standard.
use Rattle.std.specs.Prelude.{◌≡◌, ◌⊎◌, List, []}
use Rattle.exchange.specs.declared.Inbound.{Inbound}
use Rattle.ho_procedure.specs.Sent.{Sent, all_sent}
use Rattle.ho_procedure.specs.Handling.{StopsForMemory}
use Rattle.run_listeners.specs.declared.turn.Answer.{Answer}
use Rattle.run_listeners.specs.declared.turn.Answer.TheVariants as answer
use Rattle.lab_runs.specs.declared.turn.TurnFault.{TurnFault}
use Rattle.lab_runs.specs.declared.turn.TurnFault.TheVariants as fault
use Rattle.lab_runs.specs.Turns.{Position, history_of, says, Answers}

-- the messages of an answer
abbrev pub sent_by : {A : Type 0} → Answer A → List Sent
sent_by (answer.Sent out) = all_sent out.items
sent_by (answer.Undecoded bad) = []

-- those that are owed
abbrev pub owed_by : {A : Type 0} → TurnFault A → List Sent
owed_by fault.NoMemory = []
owed_by (fault.Owed out) = all_sent out.items

-- memory was refused while the input was handled, and these messages belong to what was done
abbrev pub Stops : {A : Type 0} → Position → Inbound A → List Sent → Position → Type 0
Stops s input owed s' = StopsForMemory history_of says s.2 s.0 s.1 input s'.0 s'.1 owed

-- What is owed where memory was refused: nothing before the input was handled; while it was, what belongs to what was done;
-- behind that all messages of the answer.
abbrev pub Owes : {A : Type 0} → Position → Inbound A → List Sent → Position → Type 0
Owes {A} s input owed s' = ((s' ≡ s) × (owed ≡ [])) ⊎ Stops s input owed s' ⊎ ((a : Answer A) × Answers s input a s' × (owed ≡ sent_by a))
