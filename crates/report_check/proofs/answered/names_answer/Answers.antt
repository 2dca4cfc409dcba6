use Rattle.std.specs.Prelude.{◌↔◌, List, ℕ, [], IsTrue}
use Rattle.std.proofs.Common.{sym, subst}
use Rattle.fund_plan.specs.declared.outcome.Outcome.{Outcome}
use Rattle.report_check.specs.Answer.{NamesOutcome}
use Rattle.report_check.specs.LogAnswer.{HasAnswer}
use Rattle.report_check.proofs.ToldLaws.{backed_answer, backed_ends, backed_fit}
use Rattle.report_check.proofs.answered.names_answer.Goals as goal

pub answer-requires : goal.answer-requires
answer-requires c = backed_fit c.args.funding.now c.args.searched.now c.args.sections.now c.requires.backed

pub outcome-requires : goal.outcome-requires
outcome-requires c =
    let told = subst (λ (s : List ℕ). HasAnswer s c.args.searched.now c.args.sections.now [] c.in_ok-found.found) (sym c.requires.seed) c.in_ok-found.ensures in
    backed_ends c.args.funding.now c.args.searched.now c.args.sections.now c.in_ok-found.found c.requires.backed told

pub returns : goal.returns
returns c =
    let told = subst (λ (s : List ℕ). HasAnswer s c.args.searched.now c.args.sections.now [] c.in_ok-found.found) (sym c.requires.seed) c.in_ok-found.ensures in (
      c.in_ok-found.found,
      backed_answer c.args.funding.now c.args.searched.now c.args.sections.now c.in_ok-found.found c.requires.backed told,
      subst (λ (o : Outcome). IsTrue c.names_outcome.result ↔ NamesOutcome c.args.report.now o) c.in_ok-outcome.ensures.value c.names_outcome.ensures,
    )
