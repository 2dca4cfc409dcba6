use Rattle.search_run.proofs.MadeLaws.{accepted_best_along, kept_stands_on, stand_answers}
use Rattle.search_run.proofs.ResultLaws.{kept_stands}
use Rattle.search_run.specs.Kept.{stand_of}
use Rattle.search_run.specs.Run.{go_on}
use Rattle.search_run.proofs.resuming.verified_runs_have_the_answer.Goals as goal

pub returns-clause-accepted : goal.returns-clause-accepted
returns-clause-accepted c = λ seed steps saved log m are whole can over accepted.
    stand_answers seed steps (go_on seed (stand_of seed steps saved log) m) whole (kept_stands_on seed steps are (stand_of seed steps saved log) m (kept_stands seed steps are saved log can))
    (accepted_best_along seed steps (go_on seed (stand_of seed steps saved log) m).past.closed are accepted) over

pub returns-clause-best : goal.returns-clause-best
returns-clause-best c = λ seed steps saved log m are whole can over best.
    stand_answers seed steps (go_on seed (stand_of seed steps saved log) m) whole (kept_stands_on seed steps are (stand_of seed steps saved log) m (kept_stands seed steps are saved log can)) best over
