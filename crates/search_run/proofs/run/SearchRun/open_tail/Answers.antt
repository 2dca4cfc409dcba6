use Rattle.search_run.proofs.HeldLaws.{tail_is}
use Rattle.search_run.proofs.run.SearchRun.open_tail.Goals as goal

pub returns : goal.returns
returns c = tail_is c.args.self.now c.self.inside.seed c.self.inside.steps.items c.self.inside.at c.self.inside.walk c.self.inside.past c.in-Some.step.now c.in_ok-open.open c.self.view_is c.in-Some.ensures c.in_ok-open.ensures
