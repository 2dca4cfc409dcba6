-- What a claim keeps beside its problem and its answer.
use Rattle.std.specs.Prelude.{◌≡◌, ℕ, List, ℤ, Option}
use Rattle.std.specs.Option.{ForSome}
use Rattle.pick_problem.specs.declared.item.Item.{Item}
use Rattle.pick_problem.specs.declared.tails.Tail.{Tail}
use Rattle.pick_problem.specs.Problem.{PlainProblem}
use Rattle.pick_problem.specs.Tails.{AreTails}
use Rattle.wide_check.specs.SavingsTable.{AreSavings}
use Rattle.wide_check.specs.Wide.{IsWideFit, IsWideProblem, waste_of}

-- an answer that is claimed to be the best of a problem, or that there is none
pub record PlainClaim : Type 0 where
  pub problem : PlainProblem
  pub answer : Option (List ℕ)

-- the answer is a selection; the items, the tails and the savings are the problem's, and the waste is the answer's
pub record IsClaim (p : PlainProblem) (a : Option (List ℕ)) (items : List Item) (rows : List Tail) (saved : List ℤ) (known : ℤ) : Type 0 where
  pub problem : IsWideProblem p
  pub items_are : items ≡ p.items
  pub fit : IsWideFit p a
  pub tails : AreTails p rows
  pub saves : AreSavings p saved
  pub waste : ForSome a (λ best. known ≡ waste_of p best)
