-- The waste of a payment.
use Rattle.std.specs.Prelude.{ℕ, ℤ, pos, ◌≤◌, ◌-◌, ◌+ℤ◌, List}
use Rattle.pick_problem.specs.declared.ending.Ending.{Ending}
use Rattle.pick_problem.specs.declared.ending.Ending.TheVariants.{Excess, Change}
use Rattle.pick_problem.specs.Problem.{PlainProblem, cost_of, value_of}

-- what the end of a payment wastes beside the cost of its coins
abbrev pub ending_of : Ending → ℕ
ending_of (Excess n) = n
ending_of (Change n) = n

-- an excess is at most 10 ^ 24
abbrev pub IsEnding : Ending → Type 0
IsEnding (Excess n) = n ≤ 1_000_000_000_000_000_000_000_000
IsEnding (Change n) = Unit {0}

-- the waste of places without change, whose value is at least lo
abbrev pub changeless_waste : PlainProblem → List ℕ → ℤ
changeless_waste p q = cost_of p q +ℤ pos (ending_of (Excess (value_of p q - p.lo)))
