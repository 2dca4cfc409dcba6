-- The log of a walk from the start: it is accepted once the walk is done, and its best is the best.
use Rattle.std.specs.Prelude.{◌≡◌, ℕ, ◌<◌, true, length}
use Rattle.pick_problem.specs.Problem.{PlainProblem, IsProblem}
use Rattle.pick_problem.specs.Best.{IsBest}
use Rattle.pick_problem.specs.Steps.{root, AreAllowed}
use Rattle.pick_problem.specs.ClosingTree.{IsAccepted}
use Rattle.pick_problem.specs.Walk.{IsPosition, start, walk}
use Rattle.pick_problem.proofs.SoundLaws.{accepted_best}
use Rattle.pick_problem.proofs.KeptLaws.{own_backs, own_met, start_kept, tries_kept, kept_accepted}
use Rattle.pick_problem.proofs.BoundLaws.{start_position, tries_position}
use Rattle.pick_problem.proofs.StepLaws.{accepted_has_token}

module _ (p : PlainProblem) (is : IsProblem p) (n : ℕ) where
  pub walk_position : IsPosition p (walk p n)
  walk_position = tries_position p (start p) n is (start_position p is)

  pub walk_allowed : AreAllowed p (walk p n).best root (walk p n).tokens
  walk_allowed = (tries_kept p is (start p) (start_kept p is) n).allowed (walk p n).best (own_met (walk p n).best) (own_backs p (walk p n).best)

  pub walk_accepted : (walk p n).done ≡ true → IsAccepted p (walk p n).best (walk p n).tokens
  walk_accepted done =
      let over = walk_position.over done in
      kept_accepted p (walk p n) (tries_kept p is (start p) (start_kept p is) n) done over.0 over.1

  pub walk_best : (walk p n).done ≡ true → IsBest p (walk p n).best
  walk_best done = accepted_best p (walk p n).best (walk p n).tokens is (walk_accepted done)

  -- a walk that is done has written something
  pub done_has_token : (walk p n).done ≡ true → 0 < length (walk p n).tokens
  done_has_token done = accepted_has_token p (walk p n).best (walk p n).tokens (walk_accepted done)
