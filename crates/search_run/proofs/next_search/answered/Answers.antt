use Rattle.search_run.proofs.ComingLaws.{answered_ok}
use Rattle.search_run.proofs.next_search.answered.Goals as goal

pub returns : goal.returns
returns c = λ at a comes is. answered_ok c.args.seed c.args.steps.now c.args.from c.after_step.result c.args.some at a c.requires c.after_step.ensures comes is c.past_draws.result c.past_draws.ensures
