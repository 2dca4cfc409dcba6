use Rattle.search_keep.proofs.ResumedLaws.{stands_by}
use Rattle.search_keep.proofs.resuming.can_stand.Goals as goal

pub returns : goal.returns
returns c = stands_by c.args.problem.now c.args._tokens.now _ _ _ _ c.saved.view_is c.as_slice.ensures c.may_stand.ensures
