-- The plan of the files, against which reports are judged.
use Rattle.std.proofs.Common.{◌≡◌, ◌∙◌, ℕ, List, Result, Ok, Err, ap, subst}
use Rattle.std.specs.Prelude.{IfErr, IfOk}
use Rattle.fund_shelf.specs.Causes.{ShelfView}
use Rattle.fund_plan.specs.Selection.{PlainFunded}
use Rattle.fund_steps.specs.Plan.{IsPlan, PlainPlan}
use Rattle.request_text.specs.PlainRequest.{PlainRequest}
use Rattle.fund_files.specs.declared.chain.Chain.{Chain}
use Rattle.command_end.specs.Names.{Sources}
use Rattle.command_inputs.proofs.PlanLaws.{stops_on}
use Rattle.command_inputs.specs.Outcome.{plan_of}
use Rattle.command_inputs.specs.Inputs.{AreAsked}
use Rattle.command_inputs.specs.Names.{Payment}
use Rattle.command_inputs.specs.PlanEnds.{StopsPlan}
use Rattle.command_inputs.specs.Replacing.{PaysTheBurden, ReplacesIf}
use Rattle.command_inputs.specs.Stops.{StopsFor}
use Rattle.command_inputs.specs.declared.refusal.Stop.{Stop}
use Rattle.command_check.specs.Evidence.{IsReplacingPlan}

-- whatever pays the burden of a plan replaces the payment that its request names
abbrev Replacing : Chain → PlainRequest → PlainPlan → Type 0
Replacing k r plan = (f : PlainFunded) → PaysTheBurden plan f → ReplacesIf k.wallet k.book r f

plan_is : (told : Type 0) (files : List ℕ → List ℕ) (s : Sources) (p : Payment) (k : Chain) (r : PlainRequest) (plan : PlainPlan) → AreAsked told files s p k r → plan ≡ plan_of k r → IsPlan plan → Replacing k r plan → IsReplacingPlan told files s p plan
plan_is told files s p k r plan h e rules replacing = record {
  of = record {
    wallet = k.wallet;
    blocks = h.held.blocks;
    asked = r;
    inputs = h.inputs;
    is = e ∙ ap (λ (x : Chain). plan_of x r) h.held.is;
    rules = rules;
  };
  replaces = λ f pays. subst (λ (x : Chain). ReplacesIf x.wallet x.book r f) h.held.is (replacing f pays);
}

pub if_made : (told : Type 0) (files : List ℕ → List ℕ) (s : Sources) (p : Payment) (k : Chain) (r : PlainRequest) (result : Result PlainPlan Stop) → AreAsked told files s p k r → IfOk result (λ e. e ≡ plan_of k r) → IfOk result IsPlan
    → IfOk result (λ e. (f : PlainFunded) → PaysTheBurden e f → ReplacesIf k.wallet k.book r f) → IfOk result (IsReplacingPlan told files s p)
if_made told files s p k r (Ok plan) h e rules replacing = plan_is told files s p k r plan h e rules replacing
if_made told files s p k r (Err stop) h e rules replacing = tt

pub if_not_made : (told : Type 0) (s : Sources) (p : Payment) (k : Chain) (r : PlainRequest) (old new : ShelfView) (result : Result PlainPlan Stop) → AreAsked told old.files s p k r → IfErr result (StopsPlan k r) → IfErr result (StopsFor told s p old new)
if_not_made told s p k r old new (Ok plan) h is = tt
if_not_made told s p k r old new (Err stop) h is = stops_on told s p k.wallet h.held.blocks r old new stop h.inputs (subst (λ (x : Chain). StopsPlan x r stop) h.held.is is)
