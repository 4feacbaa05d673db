-- The statuses that the program ends with.
use Rattle.std.specs.Prelude.{ℕ, Result, Ok, Err, if◌then◌else◌}
use Rattle.radio_desk.specs.declared.audit.Audit.{Audit}
use Rattle.lab_runs.specs.declared.run.Status.{Status}
use Rattle.lab_runs.specs.declared.run.Status.TheVariants as ended
use Rattle.run_listeners.specs.declared.fault.LabFault.{LabFault}
use Rattle.run_listeners.specs.declared.fault.LabFault.TheVariants as stopped

-- the status after work that came to its end
abbrev pub status_of : Status → ℕ
status_of ended.Done = 0
status_of ended.Differs = 1
status_of ended.Refused = 2

-- the status after work that did not
abbrev pub status_after : LabFault → ℕ
status_after stopped.Write = 2
status_after stopped.NoMemory = 3

-- the status that the program ends with
abbrev pub exit_status_of : Result Status LabFault → ℕ
exit_status_of (Ok status) = status_of status
exit_status_of (Err fault) = status_after fault

-- how the work ended that looked whether all settled attempts of a history left a trace together
abbrev pub audit_status : Audit → Status
audit_status audit = if audit.same then ended.Done else ended.Differs
