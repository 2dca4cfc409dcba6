use Rattle.wide_search.proofs.KeptLaws.{walk_accepted, walk_allowed, walk_best, walk_fit}
use Rattle.wide_search.proofs.laws.wide_finished_is_accepted.Goals as goal

pub returns : goal.returns
returns c =
    record {
      accepted = λ p n is. walk_accepted p is n;
      so_far = λ p n is. walk_allowed p is n;
      fit = λ p n is. walk_fit p is n;
      best = λ p n is. walk_best p is n;
    }
