-- Why lines aren't taken to their end.
use Rattle.run_listeners.specs.declared.fault.LabFault.{LabFault}
use Rattle.run_listeners.specs.declared.fault.LabFault.TheVariants as lab
use Rattle.live_runs.specs.declared.fault.LiveFault.{LiveFault}
use Rattle.live_runs.specs.declared.fault.LiveFault.TheVariants as live

-- where a run would stop
abbrev pub live_fault_of : LabFault → LiveFault
live_fault_of lab.NoMemory = live.NoMemory
live_fault_of lab.Write = live.Write
