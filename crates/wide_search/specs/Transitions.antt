-- What a piece of a try leaves.
use Rattle.std.specs.Prelude.{◌≡◌, ℕ, List, ◌++◌}
use Rattle.pick_problem.specs.Problem.{PlainProblem}
use Rattle.pick_problem.specs.Walk.{upward}
use Rattle.wide_check.specs.WideLetters.{letters_of}
use Rattle.wide_search.specs.declared.stack.Stack.{Stack}
use Rattle.wide_search.specs.declared.stop.Stop.{Stop}
use Rattle.wide_search.specs.Stack.{IsStack}
use Rattle.wide_search.specs.WideWalk.{Way}

-- the letters of a way were written after the old ones, and the stack and the next place are where it leads
pub record HasWalked (p : PlainProblem) (w : Way) (old new : List ℕ) (s : Stack) (stop : Stop) : Type 0 where
  pub chosen : s.places.items ≡ upward w.stack
  pub letters : new ≡ old ++ letters_of w.tokens
  pub next : stop.next ≡ w.next
  pub done : stop.done ≡ w.done
  pub stack : IsStack p stop.next s
