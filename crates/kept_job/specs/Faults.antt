-- The faults of the layers below as those of a kept job.
use Rattle.closing_log.specs.declared.fault.LogTextFault.{LogTextFault}
use Rattle.closing_log.specs.declared.fault.LogTextFault.TheVariants as texts
use Rattle.fund_outside.specs.declared.keeper.KeepFault.{KeepFault}
use Rattle.fund_outside.specs.declared.keeper.KeepFault.TheVariants as keeps
use Rattle.fund_plan.specs.declared.fault.CheckAt.{CheckAt}
use Rattle.fund_plan.specs.declared.fault.CheckAt.TheVariants as check
use Rattle.fund_plan.specs.declared.fault.PlanSavedFault.{PlanSavedFault}
use Rattle.fund_plan.specs.declared.fault.PlanSavedFault.TheVariants as planned
use Rattle.search_keep.specs.declared.fault.SavedFault.{SavedFault}
use Rattle.search_keep.specs.declared.fault.SavedFault.TheVariants as saved
use Rattle.kept_job.specs.declared.fault.KeptFault.{KeptFault}
use Rattle.kept_job.specs.declared.fault.KeptFault.TheVariants.{Form, JobElse, Spent, Section, IllFormed, Log, Failed, Memory}

-- of the keeper
abbrev pub of_keeper : KeepFault → KeptFault
of_keeper keeps.Failed = Failed
of_keeper keeps.Memory = Memory

-- of a saved text, or of what it says
abbrev pub of_saved : SavedFault → KeptFault
of_saved (saved.Form place) = Form place
of_saved (saved.JobElse kept now) = JobElse kept now
of_saved saved.Spent = Spent
of_saved saved.IllFormed = IllFormed
of_saved saved.Memory = Memory

-- of joined parts that are no text of a log: the section behind those that stand before the fault
abbrev pub of_text : LogTextFault → KeptFault
of_text (texts.Form place sections) = Section sections
of_text texts.Memory = Memory

-- of a section
abbrev pub of_check : CheckAt → KeptFault
of_check (check.Section i) = Section i
of_check (check.Log i f) = Log i f
of_check check.Memory = Memory

-- of a plan that doesn't go on
abbrev pub of_plan : PlanSavedFault → KeptFault
of_plan (planned.Saved f) = of_saved f
of_plan (planned.False at) = of_check at
of_plan planned.Memory = Memory
