-- Tries that drop their place, and change nothing else.
use Rattle.std.specs.Prelude.{◌≡◌, ℕ, ◌+◌, ◌<◌, List, [], ◌∷◌, ◌++◌, length, reverse, Option, if◌then◌else◌, nat_lt}
use Rattle.pick_problem.specs.Later.{behind_twins}
use Rattle.pick_problem.specs.Problem.{PlainProblem}
use Rattle.wide_check.specs.declared.token.WideReason.{WideReason}
use Rattle.wide_check.specs.declared.token.WideToken.{WideToken}
use Rattle.wide_check.specs.declared.token.WideToken.TheVariants.{Enter, Pass, Close}
use Rattle.wide_search.specs.WideWalk.{best_of, rule, shift, way_of, writes}

-- what such a try writes: T stands for twins
abbrev pub dropping : PlainProblem → ℕ → WideReason → List WideToken
dropping p t reason = Enter ∷ Close reason ∷ (if nat_lt (t + 1) (behind_twins p (t + 1)) then Pass ∷ [] else [])

-- the place t after the chosen places q: after I and the reason the place is dropped, with its twins. A place is left
-- after them; the chosen places and the best stay
pub record OnlyDrops (p : PlainProblem) (b : Option (List ℕ)) (q : List ℕ) (t : ℕ) (reason : WideReason) : Type 0 where
  pub way : way_of p (reverse q) t (rule p b (q ++ t ∷ []) t) ≡ writes (Close reason) (shift p (reverse q) t)
  pub best : best_of p b (q ++ t ∷ []) (rule p b (q ++ t ∷ []) t) ≡ b
  pub more : behind_twins p (t + 1) < length p.items
