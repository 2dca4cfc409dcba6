use Rattle.std.specs.Prelude.{Option, []}
use Rattle.std.proofs.Common.{drop}
use Rattle.search_run.specs.Found.{PlainFound}
use Rattle.report_check.specs.LogAnswer.{AreFit, HasAnswer}
use Rattle.report_check.proofs.log_answer.answer.Given as goal

abbrev pub invariant-telling : goal.invariant-telling
invariant-telling l = record {
  fit : AreFit (drop l.step-index l.steps) l.rest;
  tells : (o : Option PlainFound) → HasAnswer l.seed (drop l.step-index l.steps) l.rest l.found.items o → HasAnswer l.seed l.steps l.sections [] o;
}
