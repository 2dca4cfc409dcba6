-- Why a job isn't gone on with.
use Rattle.std.specs.Prelude.{ℕ, List}
use Rattle.fund_shelf.specs.Causes.{Rose, ShelfView}
use Rattle.fund_outside.specs.Kept.{KeeperView}
use Rattle.kept_job.specs.declared.fault.KeptFault.{KeptFault}
use Rattle.kept_job.specs.declared.fault.KeptFault.TheVariants.{Failed, Memory}
use Rattle.command_end.specs.Names.{Sources}
use Rattle.command_inputs.specs.Names.{Payment}
use Rattle.command_inputs.specs.Stops as payments
use Rattle.command_resume.specs.Outcome.{AreReady, IsNotKept}
use Rattle.command_resume.specs.declared.stop.Stop.{Stop}
use Rattle.command_resume.specs.declared.stop.Stop.TheVariants as stops

-- the files are in order, and the keeper failed, or the job has this fault; or there was not enough memory
abbrev pub StopsKept : Type 0 → Type 0 → Sources → Payment → List ℕ → ShelfView → KeeperView → KeeperView → KeptFault → Type 0
StopsKept told_files told_jobs s p job old keeper keeper' Failed = Rose keeper.faults keeper'.faults × (told_files → AreReady old.files s p)
StopsKept told_files told_jobs s p job old keeper keeper' Memory = Unit {0}
StopsKept told_files told_jobs s p job old keeper keeper' fault = (told_files → told_jobs → IsNotKept old.files s p (keeper.jobs job) fault) × (told_files → AreReady old.files s p)

-- A read of a file failed, those before it being in order, or the files are refused; or the job is.
abbrev pub StopsFor : Type 0 → Type 0 → Sources → Payment → List ℕ → ShelfView → ShelfView → KeeperView → KeeperView → Stop → Type 0
StopsFor told_files told_jobs s p job old new keeper keeper' (stops.Funding stop) = payments.StopsFor told_files s p old new stop
StopsFor told_files told_jobs s p job old new keeper keeper' (stops.Kept fault) = StopsKept told_files told_jobs s p job old keeper keeper' fault
