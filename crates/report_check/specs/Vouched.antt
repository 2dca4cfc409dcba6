-- What a report says of the plan where it is accepted, in words of pools, problems, best selections and payments. This
-- knows no log.
use Rattle.std.specs.Prelude.{◌≡◌, ◌≢◌, ◌+ℤ◌, All, map, Some}
use Rattle.std.specs.List.{AllByRecursion, AllZip}
use Rattle.closing_log.specs.declared.mark.Mark.{Mark}
use Rattle.closing_log.specs.declared.mark.Mark.TheVariants.{Exhausted, Partial, Drawn, Given}
use Rattle.fund_plan.specs.Answer.{AnswersAlone, IsPayment}
use Rattle.fund_plan.specs.Chosen.{coins_at, row_of}
use Rattle.fund_plan.specs.Claims.{BringAll}
use Rattle.fund_plan.specs.Figures.{cost_of, figures_of}
use Rattle.fund_plan.specs.Outcome.{IsAnswerOf}
use Rattle.fund_plan.specs.Pays.{payment_of}
use Rattle.fund_plan.specs.Selection as plans
use Rattle.fund_plan.specs.Steps.{problem_at, steps_of}
use Rattle.fund_plan.specs.declared.outcome.Outcome.TheVariants as outcomes
use Rattle.fund_report.specs.PlainFunded.{PlainFunded}
use Rattle.fund_report.specs.declared.report.Report.{Report}
use Rattle.fund_report.specs.declared.report.Report.TheVariants.{Funded, NoSelection, Unfinished}
use Rattle.fund_steps.specs.Basis.{basis_of}
use Rattle.fund_steps.specs.Listed.{presets_in}
use Rattle.fund_steps.specs.Plan.{PlainPlan}
use Rattle.fund_steps.specs.Reached.{NothingDoes}
use Rattle.fund_steps.specs.Searches.{rows_in}
use Rattle.pick_problem.specs.Best.{IsBest}
use Rattle.psbt_codec.specs.PartialTransaction.{PartialTransaction}
use Rattle.psbt_codec.specs.Text.{IsPsbtText}
use Rattle.random_draw.specs.Draw.{draw_of}
use Rattle.request_text.specs.declared.request.Method.TheVariants.{Manual}
use Rattle.search_run.specs.Answer.{HasNone, IsFirstTaken}
use Rattle.search_run.specs.Found.{PlainFound}
use Rattle.report_check.specs.Answer.{NamesPayment}
use Rattle.report_check.specs.Payment.{Shows, line_of}
use Rattle.report_check.specs.Verdict.{IsPaid}

-- The report is of this payment. Mark, row, stage and coins are its own, and so are the change, the weight, the size, the fee
-- and the waste. The PSBT is of its transaction, and each input shows its coin.
pub record IsOfPayment (p : PlainPlan) (f : PlainFunded) (g : plans.PlainFunded) : Type 0 where
  pub names : NamesPayment f g
  pub change : f.change ≡ g.change
  pub weight : f.weight ≡ (figures_of p.request g).weight
  pub vsize : f.vsize ≡ (figures_of p.request g).vsize
  pub fee : f.fee ≡ (figures_of p.request g).fee
  pub waste : f.waste ≡ (figures_of p.request g).waste
  pub psbt : PartialTransaction
  pub text : IsPsbtText f.text psbt
  pub transaction : psbt.tx ≡ payment_of p.request p.change g
  pub shows : AllZip Shows g.coins psbt.spent

-- The report is of the plan's answer, of all that there is to find.
pub record IsTheAnswer (p : PlainPlan) (f : PlainFunded) : Type 0 where
  pub payment : plans.PlainFunded
  pub answer : IsAnswerOf p (outcomes.Funded payment)
  pub is_payment : IsPayment p payment
  pub whole : IsOfPayment p f payment

-- The coins are the presets and those of the best selection of the problem of the named row and stage. No search and no draw
-- of an earlier column has a result, and of those of its column it is the one of least waste, of these of most coins, of
-- these the first. The waste is that of the selection and the cost of the presets.
pub record IsLeast (p : PlainPlan) (f : PlainFunded) : Type 0 where
  pub answer : IsTheAnswer p f
  pub found : PlainFound
  pub first : IsFirstTaken p.request.seed (steps_of p) found
  pub best : IsBest (problem_at p (row_of p f.row) f.stage) (Some found.places)
  pub coins : f.coins ≡ map line_of (coins_at p (row_of p f.row) found.places)
  pub measure : f.waste ≡ found.waste +ℤ cost_of p.request (presets_in p)

-- The same of a draw: the coins are the presets and those that the request's seed draws from the problem of the named row
-- and stage.
pub record IsDrawn (p : PlainPlan) (f : PlainFunded) : Type 0 where
  pub answer : IsTheAnswer p f
  pub found : PlainFound
  pub first : IsFirstTaken p.request.seed (steps_of p) found
  pub drawn : draw_of (problem_at p (row_of p f.row) f.stage) p.request.seed ≡ Some found.places
  pub coins : f.coins ≡ map line_of (coins_at p (row_of p f.row) found.places)
  pub measure : f.waste ≡ found.waste +ℤ cost_of p.request (presets_in p)

-- The coins are the presets, and they alone pay.
pub record IsGiven (p : PlainPlan) (f : PlainFunded) : Type 0 where
  pub answer : IsTheAnswer p f
  pub alone : AnswersAlone p (outcomes.Funded answer.payment)

-- No search and no draw of the plan has a result, and the presets don't pay alone. Unless they bring all that is due, no
-- choice from any row's pool does for what the method looks for.
pub record IsNone (p : PlainPlan) : Type 0 where
  pub answer : IsAnswerOf p outcomes.NoSelection
  pub none : AllByRecursion (HasNone p.request.seed) (steps_of p)
  pub alone : AnswersAlone p outcomes.NoSelection
  pub nothing : p.request.method ≢ Manual → (BringAll p → ⊥) → All (NothingDoes (basis_of p)) (rows_in (basis_of p))

-- By the mark. Partial: it is paid as it says, and no more.
abbrev pub VouchesBy : Mark → PlainPlan → PlainFunded → Type 0
VouchesBy Exhausted p f = IsLeast p f
VouchesBy Partial p f = IsPaid p (Funded f)
VouchesBy Drawn p f = IsDrawn p f
VouchesBy Given p f = IsGiven p f

-- A report of a run that goes on says nothing of the plan.
abbrev pub Vouches : PlainPlan → Report → Type 0
Vouches p (Funded f) = VouchesBy f.mark p f
Vouches p (NoSelection tries) = IsNone p
Vouches p (Unfinished tries row stage) = Unit {0}
