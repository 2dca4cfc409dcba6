use Rattle.pick_problem.proofs.AcceptLaws.{walk_accepted, walk_allowed, walk_best}
use Rattle.pick_problem.proofs.closing.finished_is_accepted.Goals as goal

pub returns : goal.returns
returns c = record { accepted = λ p n is. walk_accepted p is n; so_far = λ p n is. walk_allowed p is n; best = λ p n is. walk_best p is n }
