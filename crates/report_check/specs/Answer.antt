-- The answer that the sections of a log, the draws and the rule of `auto` give. This takes the sections at their word; that
-- they are accepted is asked apart.
use Rattle.std.specs.Prelude.{ℕ, ◌≡◌, Bool, true, false, List, [], ◌∷◌, ◌++◌, map, Contains, Option, Some, None}
use Rattle.std.specs.List.{AllByRecursion}
use Rattle.closing_log.specs.Log.{PlainSection}
use Rattle.closing_log.specs.declared.mark.Mark.{Mark}
use Rattle.closing_log.specs.declared.mark.Mark.TheVariants.{Exhausted, Partial, Drawn, Given}
use Rattle.fund_plan.specs.Outcome.{by_end}
use Rattle.fund_plan.specs.Selection as plans
use Rattle.fund_plan.specs.Steps.{steps_of}
use Rattle.fund_plan.specs.declared.outcome.Outcome.{Outcome}
use Rattle.fund_plan.specs.declared.outcome.Outcome.TheVariants as outcomes
use Rattle.fund_report.specs.PlainFunded.{PlainFunded}
use Rattle.fund_report.specs.declared.report.Report.{Report}
use Rattle.fund_report.specs.declared.report.Report.TheVariants.{Funded, NoSelection, Unfinished}
use Rattle.fund_steps.specs.Plan.{PlainPlan}
use Rattle.random_draw.specs.Draw.{draw_of}
use Rattle.search_run.specs.Answer.{AreWhole, IsColumn}
use Rattle.search_run.specs.Found.{IsTaken, PlainFound, found_of}
use Rattle.search_run.specs.Step.{PlainStep, is_drawn}
use Rattle.search_run.specs.declared.ending.End.TheVariants as ends
use Rattle.report_check.specs.DueSections.{IsNamedAs}
use Rattle.report_check.specs.Payment.{line_of}

-- What a step comes to by these sections: a draw to what is drawn by the seed, a search to the answer of its section.
abbrev pub IsToldBy : Bool → List ℕ → List PlainSection → PlainStep → Option (List ℕ) → Type 0
IsToldBy true seed sections x r = r ≡ draw_of x.problem seed
IsToldBy false seed sections x r = (s : PlainSection) × Contains sections s × IsNamedAs x s × (s.answer ≡ r)

abbrev pub IsTold : List ℕ → List PlainSection → PlainStep → Option (List ℕ) → Type 0
IsTold seed sections x r = IsToldBy (is_drawn x.stage) seed sections x r

-- it comes to none
abbrev pub IsToldNone : List ℕ → List PlainSection → PlainStep → Type 0
IsToldNone seed sections x = IsTold seed sections x None

-- the results of steps, in their order
abbrev pub AreTold : List ℕ → List PlainSection → List PlainStep → List PlainFound → Type 0
AreTold seed sections [] fs = fs ≡ []
AreTold seed sections (x ∷ xs) fs = (r : Option (List ℕ)) × IsTold seed sections x r × ((gs : List PlainFound) × (fs ≡ found_of x r ++ gs) × AreTold seed sections xs gs)

-- One is taken of the results of a column, and no step of a column before it has a result.
pub record IsFirstTold (seed : List ℕ) (sections : List PlainSection) (steps : List PlainStep) (f : PlainFound) : Type 0 where
  pub front : List PlainStep
  pub column : List PlainStep
  pub rest : List PlainStep
  pub parts : steps ≡ front ++ (column ++ rest)
  pub whole : AreWhole front
  pub none : AllByRecursion (IsToldNone seed sections) front
  pub one : IsColumn column
  pub found : List PlainFound
  pub results : AreTold seed sections column found
  pub taken : IsTaken found f

-- the result that is taken of the first column that has one, or none where no step has one
abbrev pub IsToldAnswer : List ℕ → List PlainSection → List PlainStep → Option PlainFound → Type 0
IsToldAnswer seed sections steps None = AllByRecursion (IsToldNone seed sections) steps
IsToldAnswer seed sections steps (Some f) = IsFirstTold seed sections steps f

-- ---- what the report says

-- mark, row, stage and coins of a payment
pub record NamesPayment (f : PlainFunded) (g : plans.PlainFunded) : Type 0 where
  pub mark : f.mark ≡ g.mark
  pub row : f.row ≡ g.row
  pub stage : f.stage ≡ g.stage
  pub coins : f.coins ≡ map line_of g.coins

-- the report is of this payment, or that there is none
abbrev pub NamesOutcome : Report → Outcome → Type 0
NamesOutcome (Funded f) (outcomes.Funded g) = NamesPayment f g
NamesOutcome (NoSelection tries) outcomes.NoSelection = Unit {0}
NamesOutcome (Funded f) outcomes.NoSelection = ⊥
NamesOutcome (Funded f) outcomes.Unfinished = ⊥
NamesOutcome (NoSelection tries) (outcomes.Funded g) = ⊥
NamesOutcome (NoSelection tries) outcomes.Unfinished = ⊥
NamesOutcome (Unfinished tries row stage) o = ⊥

-- what the sections give is what the report names
abbrev pub IsNamedAnswer : PlainPlan → Report → List PlainSection → Type 0
IsNamedAnswer p r sections = (found : Option PlainFound) × IsToldAnswer p.request.seed sections (steps_of p) found × NamesOutcome r (by_end p (ends.Ended found))

abbrev pub IsAnsweredBy : Mark → PlainPlan → PlainFunded → List PlainSection → Type 0
IsAnsweredBy Exhausted p f sections = IsNamedAnswer p (Funded f) sections
IsAnsweredBy Partial p f sections = Unit {0}
IsAnsweredBy Drawn p f sections = IsNamedAnswer p (Funded f) sections
IsAnsweredBy Given p f sections = IsNamedAnswer p (Funded f) sections

-- The report has the answer that the sections give. Of one for want of tries this isn't asked.
abbrev pub IsAnswered : PlainPlan → Report → List PlainSection → Type 0
IsAnswered p (Funded f) sections = IsAnsweredBy f.mark p f sections
IsAnswered p (NoSelection tries) sections = IsNamedAnswer p (NoSelection tries) sections
IsAnswered p (Unfinished tries row stage) sections = Unit {0}
