use Rattle.search_run.proofs.ResultLaws.{ends_well}
use Rattle.search_run.proofs.run.SearchRun.end.Goals as goal

pub returns-clause-admissible : goal.returns-clause-admissible
returns-clause-admissible c =
    ends_well c.args.self.now.seed c.args.self.now.steps c.args.self.now.stand c.args.take c.reached.result c.reached.ensures.steps c.reached.ensures.stands c.reached.ensures.end
