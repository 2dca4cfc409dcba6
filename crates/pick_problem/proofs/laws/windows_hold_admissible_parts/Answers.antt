use Rattle.pick_problem.proofs.WindowLaws.{window_part}
use Rattle.pick_problem.proofs.laws.windows_hold_admissible_parts.Goals as goal

pub returns : goal.returns
returns c = λ p q is kind. window_part p is kind q
