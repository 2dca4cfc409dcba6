use Rattle.search_keep.proofs.ResumedLaws.{can_stand, stands_there}
use Rattle.search_keep.proofs.laws.saved_walks_can_go_on.Goals as goal

pub returns-clause-position : goal.returns-clause-position
returns-clause-position c = stands_there

pub returns-clause-can : goal.returns-clause-can
returns-clause-can c = can_stand
