-- The search of a plan, from what it is made of.
use Rattle.std.specs.Prelude.{ℕ, ◌≡◌, List, All, None}
use Rattle.std.proofs.Common.{sym, ap, subst, ◌∙◌}
use Rattle.std.proofs.lemmas.List.Elements.{All-from_recursion, All-weaker}
use Rattle.pick_problem.specs.declared.item.Kind.TheVariants as kind
use Rattle.search_run.specs.Step.{AreSteps, PlainStep}
use Rattle.fund_steps.specs.Basis.{basis_of}
use Rattle.fund_steps.specs.Plan.{PlainPlan}
use Rattle.fund_steps.specs.Searches.{steps_of as steps_by}
use Rattle.fund_plan.specs.Steps.{steps_of}
use Rattle.wide_plan.specs.Asked.{IsForWide}
use Rattle.wide_plan.specs.Payments.{CanEnd}
use Rattle.wide_plan.specs.Rows.{PlainRows, rows_after}
use Rattle.wide_plan.specs.Run.{PlainWideRun, by_end, rows_of, run_of}
use Rattle.wide_plan.specs.declared.outcome.WideOutcome.{WideOutcome}
use Rattle.wide_plan.proofs.ClaimLaws.{can_end, plain_steps}
use Rattle.wide_plan.proofs.StepLaws.{IsPlain}

pub steps_are : (p f : PlainPlan) (steps steps' : List PlainStep) → f ≡ p → steps' ≡ steps → steps ≡ steps_by (basis_of f) → steps' ≡ steps_of p
steps_are p f steps steps' funds same is = same ∙ (is ∙ ap (λ (x : PlainPlan). steps_by (basis_of x)) funds)

-- each problem is one without change
pub kinds : (p : PlainPlan) (steps : List PlainStep) → IsForWide p.request → steps ≡ steps_of p → All (λ (x : PlainStep). x.problem.kind ≡ kind.Changeless) steps
kinds p steps asked is =
    subst (All (λ (x : PlainStep). x.problem.kind ≡ kind.Changeless)) (sym is)
    (All-weaker IsPlain (λ (x : PlainStep). x.problem.kind ≡ kind.Changeless) (λ x plain. plain.kind) (steps_of p) (All-from_recursion IsPlain (steps_of p) (plain_steps p asked)))

pub rows_are_of : (p : PlainPlan) (steps : List PlainStep) (tries : ℕ) (r : PlainRows) → steps ≡ steps_of p → tries ≡ p.request.tries → r ≡ rows_after steps tries → r ≡ rows_of p
unfolding rows_of
rows_are_of p steps tries r from with_tries is = is ∙ (ap (λ (xs : List PlainStep). rows_after xs tries) from ∙ ap (rows_after (steps_of p)) with_tries)

-- what it ends with can be paid
pub can_come : (p m : PlainPlan) (steps : List PlainStep) (r : PlainRows) → m ≡ p → steps ≡ steps_of p → AreSteps steps → IsForWide p.request → p.bump ≡ None → r ≡ rows_of p → CanEnd m r.end
can_come p m steps r own from are asked plain is =
    subst (λ (x : PlainPlan). CanEnd x r.end) (sym own) (subst (λ (x : PlainRows). CanEnd p x.end) (sym is) (can_end p (subst AreSteps from are) asked plain))

pub run_made : (p m : PlainPlan) (r : PlainRows) (o : WideOutcome) → m ≡ p → r ≡ rows_of p → o ≡ by_end m r.end → ◌≡◌ {A = PlainWideRun} (record { outcome = o; sections = r.closed; tries = r.tries }) (run_of p)
run_made p m r o own is put =
    ap (λ (x : WideOutcome). record { outcome = x; sections = r.closed; tries = r.tries }) (put ∙ ap (λ (x : PlainPlan). by_end x r.end) own)
    ∙ ap (λ (x : PlainRows). record { outcome = by_end p x.end; sections = x.closed; tries = x.tries }) is
