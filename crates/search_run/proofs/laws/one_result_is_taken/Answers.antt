use Rattle.std.proofs.Common.{ap}
use Rattle.search_run.specs.Found.{taken}
use Rattle.search_run.proofs.ChoiceLaws.{is_taken, none_taken, taken_only}
use Rattle.search_run.proofs.laws.one_result_is_taken.Goals as goal

pub returns-clause-one : goal.returns-clause-one
returns-clause-one c = λ results f. (is_taken results f, taken_only results f)

pub returns-clause-none : goal.returns-clause-none
returns-clause-none c = λ results. (none_taken results, λ e. ap taken e)
