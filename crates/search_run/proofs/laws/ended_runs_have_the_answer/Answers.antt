use Rattle.search_run.proofs.MadeLaws.{run_answers}
use Rattle.search_run.proofs.laws.ended_runs_have_the_answer.Goals as goal

pub returns : goal.returns
returns c = run_answers
