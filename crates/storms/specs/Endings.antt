-- What is answered as a storm ends. Ours, of no standard.
use Rattle.std.specs.Prelude.{◌≡◌, Result, Ok, Err, IsErr}
use Rattle.std.specs.declared.alloc.AllocError.{AllocError}
use Rattle.cell_table.specs.declared.fault.SiteFault.{SiteFault}
use Rattle.cell_table.specs.declared.fault.SiteFault.TheVariants as site
use Rattle.receipt_check.specs.declared.CloseFault.{CloseFault}
use Rattle.receipt_check.specs.declared.CloseFault.TheVariants as close
use Rattle.call_worker.specs.declared.fault.StartFault.{StartFault}
use Rattle.call_worker.specs.declared.fault.StartFault.TheVariants as start
use Rattle.call_worker.specs.declared.fault.GiveFault.{GiveFault}
use Rattle.call_worker.specs.declared.fault.GiveFault.TheVariants as give
use Rattle.storms.specs.declared.trip.TripFault.{TripFault}
use Rattle.storms.specs.declared.trip.TripFault.TheVariants as trip
use Rattle.storms.specs.declared.outcome.Figures.{Figures}
use Rattle.storms.specs.declared.outcome.Outcome.{Outcome}
use Rattle.storms.specs.declared.outcome.Outcome.TheVariants.{Done, NoSite, TooSmall, Office}
use Rattle.storms.specs.declared.outcome.OfficeFault.TheVariants as office
use Rattle.storms.specs.declared.outcome.StormFault.{StormFault}
use Rattle.storms.specs.declared.outcome.StormFault.TheVariants as storm

-- of a text that describes no site
abbrev pub EndsUnreadable : SiteFault → Result Outcome AllocError → Type 0
EndsUnreadable site.Toml r = r ≡ Ok (NoSite site.Toml)
EndsUnreadable (site.Missing key) r = r ≡ Ok (NoSite (site.Missing key))
EndsUnreadable (site.Range key) r = r ≡ Ok (NoSite (site.Range key))
EndsUnreadable (site.Twice what) r = r ≡ Ok (NoSite (site.Twice what))
EndsUnreadable (site.NoTraffic cell) r = r ≡ Ok (NoSite (site.NoTraffic cell))
EndsUnreadable site.NoMemory r = IsErr r

-- where no trips were made
abbrev pub EndsBefore : TripFault → Result Outcome AllocError → Type 0
EndsBefore (trip.Short shortage) r = r ≡ Ok (TooSmall shortage)
EndsBefore trip.NoMemory r = IsErr r

-- of a storm that was run
abbrev pub EndsAs : Result Figures StormFault → Result Outcome AllocError → Type 0
EndsAs (Ok figures) r = r ≡ Ok (Done figures)
EndsAs (Err (storm.Office fault)) r = r ≡ Ok (Office fault)
EndsAs (Err storm.NoMemory) r = IsErr r

-- why a storm doesn't come to its end, by why its office doesn't start
abbrev pub of_start : StartFault → StormFault
of_start start.Thread = storm.Office office.Thread
of_start start.NoMemory = storm.NoMemory

-- by why it doesn't give an input to a worker
abbrev pub of_give : GiveFault → StormFault
of_give (give.Undecoded fault) = storm.Office (office.Undecoded fault)
of_give (give.Ended worker) = storm.Office (office.Ended worker)
of_give give.NoMemory = storm.NoMemory

-- by why it doesn't close
abbrev pub of_close : CloseFault → StormFault
of_close (close.Missing receipt) = storm.Office (office.Closed (close.Missing receipt))
of_close (close.Twice place) = storm.Office (office.Closed (close.Twice place))
of_close close.Count = storm.Office (office.Closed close.Count)
of_close close.Opening = storm.Office (office.Closed close.Opening)
of_close close.NoMemory = storm.NoMemory
