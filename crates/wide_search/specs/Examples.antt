-- Small problems, whose wide walks are worked out by the definition itself.
use Rattle.std.specs.Prelude.{ℕ, List, [], ◌∷◌, map, pos, neg_ℤ}
use Rattle.pick_problem.specs.declared.item.Item.{Item}
use Rattle.pick_problem.specs.declared.item.Kind.TheVariants.{Changeless}
use Rattle.pick_problem.specs.Examples.{Told}
use Rattle.pick_problem.specs.Problem.{PlainProblem}
use Rattle.pick_problem.specs.Walk.{upward}
use Rattle.wide_check.specs.WideTokens.{letter_of}
use Rattle.wide_search.specs.WideWalk.{Walk}

-- a walk, with its chosen places in order and the letters of its tokens
abbrev pub told : Walk → Told
told w = record { chosen = upward w.stack; next = w.next; best = w.best; tries = w.tries; done = w.done; letters = map letter_of w.tokens }

-- an item of this value and weight that saves so much
abbrev pub saving : ℕ → ℕ → ℕ → Item
saving v w c = record { value = v; weight = w; cost = neg_ℤ (pos c) }

-- an item of this value and cost, with a weight of 1
abbrev pub costing : ℕ → ℕ → Item
costing v c = record { value = v; weight = 1; cost = pos c }

abbrev pub of_items : List Item → ℕ → ℕ → ℕ → PlainProblem
of_items items lo hi limit = record { items = items; lo = lo; hi = hi; most_weight = limit; kind = Changeless }

-- the first reaches lo alone, and the second saves more than it is worth
abbrev pub both_save : PlainProblem
both_save = of_items (saving 5 1 6 ∷ saving 4 1 6 ∷ []) 5 9 100

-- the same of two coins, in satoshi and weight units
abbrev pub two_coins : PlainProblem
two_coins = of_items (saving 10_000 272 6_732 ∷ saving 700 272 6_732 ∷ []) 10_000 11_000 399_834

-- the second saves just what it is worth, so both lists waste as much
abbrev pub as_much : PlainProblem
as_much = of_items (costing 5 0 ∷ saving 4 1 4 ∷ []) 5 9 100

-- the whole pool doesn't reach lo
abbrev pub too_little : PlainProblem
too_little = of_items (costing 1 0 ∷ []) 2 2 1

-- one item, above hi
abbrev pub above_hi : PlainProblem
above_hi = of_items (costing 3 0 ∷ []) 1 2 1

-- one item, above the limit of weight
abbrev pub too_heavy : PlainProblem
too_heavy = of_items (saving 3 5 0 ∷ []) 1 4 4

-- the last two are alike
abbrev pub two_alike : PlainProblem
two_alike = of_items (costing 6 0 ∷ saving 3 1 3 ∷ saving 3 1 3 ∷ []) 6 12 100

-- what saves most is the last item
abbrev pub late_saving : PlainProblem
late_saving = of_items (saving 6 1 2 ∷ costing 5 9 ∷ saving 1 1 1_000 ∷ []) 5 12 100
