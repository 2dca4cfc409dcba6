use Rattle.pick_problem.proofs.SoundLaws.{closed_best, closed_met, root_so_far, step_keeps}
use Rattle.pick_problem.proofs.closing.steps_keep_what_is_known.Goals as goal

pub returns : goal.returns
returns c =
    record {
      begins = λ p a is. root_so_far p is a;
      steps = λ p a s k is allowed so. step_keeps p is a s k allowed so;
      ends = λ p a s is e so answered. closed_best p is a s e so answered;
      met = closed_met;
    }
