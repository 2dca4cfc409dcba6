use Rattle.wide_check.proofs.WideSoundLaws.{closed_best, closed_met, root_so_far, step_keeps}
use Rattle.wide_check.proofs.trees.wide_steps_keep_what_is_known.Goals as goal

pub returns : goal.returns
returns c = record { begins = root_so_far; steps = λ p a s k is allowed so. step_keeps p is a s k allowed so; ends = closed_best; met = closed_met }
