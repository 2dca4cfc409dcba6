use Rattle.fund_plan.proofs.SavedLaws.{saved_log}
use Rattle.fund_plan.proofs.keeping.saved_plans_have_their_digest.Goals as goal

pub returns : goal.returns
returns c = λ s job parts saved e. saved_log s job parts saved e
