-- First steps of a plan beside the sections of their searches.
use Rattle.std.specs.Prelude.{◌≡◌, ◌↔◌, Bool, List, ◌++◌, IsTrue, Option}
use Rattle.closing_log.specs.Log.{PlainSection}
use Rattle.fund_plan.specs.Outcome.{by_end}
use Rattle.fund_plan.specs.Steps.{steps_of}
use Rattle.fund_report.specs.declared.report.Report.{Report}
use Rattle.fund_steps.specs.Plan.{PlainPlan}
use Rattle.search_run.specs.Answer.{AreWhole, IsAnswer}
use Rattle.search_run.specs.Found.{PlainFound}
use Rattle.search_run.specs.Searched.{searches}
use Rattle.search_run.specs.Step.{AreSteps, PlainStep}
use Rattle.search_run.specs.declared.ending.End.TheVariants as ends
use Rattle.report_check.specs.Answer.{NamesOutcome}
use Rattle.report_check.specs.DueSections.{AreFor}
use Rattle.report_check.specs.Proved.{AreProved}

-- these are whole columns, the first ones of the plan, and there is a section for each of their searches, which is accepted
pub record AreBacked (p : PlainPlan) (upto : List PlainStep) (sections : List PlainSection) : Type 0 where
  pub fine : AreSteps (steps_of p)
  pub rest : List PlainStep
  pub parts : steps_of p ≡ upto ++ rest
  pub whole : AreWhole upto
  pub due : AreFor (searches upto) sections
  pub proved : AreProved (steps_of p) sections

-- whether the report names what comes of the answer of these steps
abbrev pub IsNamedBy : PlainPlan → List PlainStep → Report → Bool → Type 0
IsNamedBy p upto r b = (o : Option PlainFound) × IsAnswer p.request.seed upto o × (IsTrue b ↔ NamesOutcome r (by_end p (ends.Ended o)))
