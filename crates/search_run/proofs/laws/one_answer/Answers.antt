use Rattle.search_run.proofs.AnswerLaws.{one_answer_is}
use Rattle.search_run.proofs.laws.one_answer.Goals as goal

pub returns : goal.returns
returns c = one_answer_is
