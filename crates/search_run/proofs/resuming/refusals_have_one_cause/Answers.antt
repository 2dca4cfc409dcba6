use Rattle.search_run.proofs.ExactLaws.{kept_not_refused, one_refusal}
use Rattle.search_run.proofs.resuming.refusals_have_one_cause.Goals as goal

pub returns-clause-none : goal.returns-clause-none
returns-clause-none c = kept_not_refused

pub returns-clause-one : goal.returns-clause-one
returns-clause-one c = one_refusal
