use Rattle.std.proofs.Common.{◌∙◌}
use Rattle.search_keep.proofs.ResumedLaws.{stands_there}
use Rattle.search_keep.proofs.resuming.go_on.Goals as goal

pub returns-clause-same : goal.returns-clause-same
returns-clause-same c = λ n is. c.in_ok-walk.ensures.same n (c.in_ok-position.ensures ∙ stands_there _ _ _ n is) is.letters_are
