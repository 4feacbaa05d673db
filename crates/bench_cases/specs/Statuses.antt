-- The statuses of the program, and what the faults of others come to.
use Rattle.std.specs.Prelude.{ℕ}
use Rattle.rsl_messages.specs.declared.fault.RslFault.{RslFault}
use Rattle.rsl_messages.specs.declared.fault.RslFault.TheVariants as rsl
use Rattle.rr_messages.specs.declared.fault.RrFault.{RrFault}
use Rattle.rr_messages.specs.declared.fault.RrFault.TheVariants as rr
use Rattle.bssmap_messages.specs.declared.fault.BssmapFault.{BssmapFault}
use Rattle.bssmap_messages.specs.declared.fault.BssmapFault.TheVariants as bssmap
use Rattle.ho_procedure.specs.declared.following.Stop.{Stop}
use Rattle.ho_procedure.specs.declared.following.Stop.TheVariants as stop
use Rattle.cell_table.specs.declared.fault.SiteFault.{SiteFault}
use Rattle.cell_table.specs.declared.fault.SiteFault.TheVariants as site
use Rattle.bench_cases.specs.declared.fault.Fault.{Fault}
use Rattle.bench_cases.specs.declared.fault.Fault.TheVariants.{Words, NoMemory, Output, Setting}

-- the status that the program ends with
abbrev pub status_of : Fault → ℕ
status_of Setting = 1
status_of Words = 2
status_of Output = 2
status_of NoMemory = 3

-- what a fault of a message on Abis comes to: an allocation failure stays one, and other octets are wrong words
abbrev pub of_abis : RslFault → Fault
of_abis rsl.NoMemory = NoMemory
of_abis _ = Words

-- what a fault of a radio resource message comes to
abbrev pub of_radio : RrFault → Fault
of_radio rr.NoMemory = NoMemory
of_radio _ = Words

-- what a fault of a message on A comes to
abbrev pub of_a : BssmapFault → Fault
of_a bssmap.NoMemory = NoMemory
of_a _ = Words

-- what a fault of the procedure comes to; a desk that isn't the controller's own can't be asked
abbrev pub of_procedure : Stop → Fault
of_procedure stop.NoMemory = NoMemory
of_procedure (stop.Undecoded link bad) = Words
of_procedure (stop.Desk place) = Setting

-- what a refused site comes to: the setting is refused
abbrev pub of_site : SiteFault → Fault
of_site site.NoMemory = NoMemory
of_site _ = Setting
