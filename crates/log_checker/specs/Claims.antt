-- What a claim keeps beside its problem and its answer.
use Rattle.std.specs.Prelude.{◌≡◌, ◌↔◌, ℕ, Bool, IsTrue, List, Option}
use Rattle.std.specs.Option.{ForSome}
use Rattle.pick_problem.specs.declared.item.Item.{Item}
use Rattle.pick_problem.specs.declared.score.Score.{Score}
use Rattle.pick_problem.specs.declared.tails.Tail.{Tail}
use Rattle.pick_problem.specs.Problem.{PlainProblem, IsProblem}
use Rattle.pick_problem.specs.Admissible.{IsFit}
use Rattle.pick_problem.specs.Later.{NoNegative}
use Rattle.pick_problem.specs.Score.{score_of}
use Rattle.pick_problem.specs.Tails.{AreTails}

-- an answer that is claimed to be the best of a problem, or that there is none
pub record PlainClaim : Type 0 where
  pub problem : PlainProblem
  pub answer : Option (List ℕ)

-- the answer is admissible; the items and the tails are the problem's, the score is the answer's, and it is known whether a
-- cost is negative
pub record IsClaim (p : PlainProblem) (a : Option (List ℕ)) (items : List Item) (rows : List Tail) (plain : Bool) (known : Score) : Type 0 where
  pub problem : IsProblem p
  pub items_are : items ≡ p.items
  pub fit : IsFit p a
  pub tails : AreTails p rows
  pub costs : IsTrue plain ↔ NoNegative p
  pub score : ForSome a (λ best. known ≡ score_of p best)
