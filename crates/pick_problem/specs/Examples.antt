-- Small problems, whose walks are worked out by the definition itself.
use Rattle.std.specs.Prelude.{ℕ, Bool, true, false, List, [], ◌∷◌, map, Option, pos}
use Rattle.pick_problem.specs.declared.item.Item.{Item}
use Rattle.pick_problem.specs.declared.item.Kind.TheVariants.{Changeless, Lean}
use Rattle.pick_problem.specs.Problem.{PlainProblem}
use Rattle.pick_problem.specs.Tokens.{letter_of}
use Rattle.pick_problem.specs.Walk.{Walk, upward}

-- a walk, with its chosen places in order and the letters of its tokens
pub record Told : Type 0 where
  pub chosen : List ℕ
  pub next : ℕ
  pub best : Option (List ℕ)
  pub tries : ℕ
  pub done : Bool
  pub letters : List ℕ

abbrev pub told : Walk → Told
told w = record { chosen = upward w.stack; next = w.next; best = w.best; tries = w.tries; done = w.done; letters = map letter_of w.tokens }

-- a walk that is done after so many places, with its best, its tries and its letters
abbrev pub ended : ℕ → Option (List ℕ) → ℕ → List ℕ → Told
ended n best tries letters = record { chosen = []; next = n; best = best; tries = tries; done = true; letters = letters }

-- a walk that goes on from chosen places and a next place
abbrev pub paused : List ℕ → ℕ → Option (List ℕ) → ℕ → List ℕ → Told
paused chosen next best tries letters = record { chosen = chosen; next = next; best = best; tries = tries; done = false; letters = letters }

-- an item of this value, weight and cost
abbrev pub item : ℕ → ℕ → ℕ → Item
item v w c = record { value = v; weight = w; cost = pos c }

-- an item of this value and weight, without a cost
abbrev pub free : ℕ → ℕ → Item
free v w = record { value = v; weight = w; cost = pos 0 }

-- an item of this value, with a weight and a cost of 1
abbrev pub dear : ℕ → Item
dear v = record { value = v; weight = 1; cost = pos 1 }

abbrev pub falling_values : PlainProblem
falling_values = record { items = dear 5 ∷ dear 4 ∷ dear 3 ∷ dear 2 ∷ []; lo = 9; hi = 9; most_weight = 100; kind = Changeless }

abbrev pub three_alike : PlainProblem
three_alike = record { items = free 10 272 ∷ free 10 272 ∷ free 10 272 ∷ []; lo = 10; hi = 15; most_weight = 1000; kind = Changeless }

abbrev pub light_pair : PlainProblem
light_pair = record { items = free 10 4 ∷ free 7 2 ∷ free 5 2 ∷ []; lo = 12; hi = 12; most_weight = 100; kind = Lean }

abbrev pub too_heavy : PlainProblem
too_heavy = record { items = free 10 4 ∷ free 8 5 ∷ free 7 6 ∷ []; lo = 17; hi = 17; most_weight = 8; kind = Lean }

abbrev pub far_off : PlainProblem
far_off = record { items = free 12 3 ∷ free 5 2 ∷ free 4 2 ∷ free 4 3 ∷ []; lo = 12; hi = 12; most_weight = 100; kind = Lean }

-- the whole pool doesn't reach lo
abbrev pub too_little : PlainProblem
too_little = record { items = free 10 4 ∷ []; lo = 11; hi = 11; most_weight = 100; kind = Lean }

-- one item, above hi
abbrev pub above_hi : PlainProblem
above_hi = record { items = item 4 3 0 ∷ []; lo = 1; hi = 2; most_weight = 8; kind = Changeless }

-- both together are too heavy, and so is the first one alone
abbrev pub one_heavy : PlainProblem
one_heavy = record { items = item 5 4 1 ∷ item 2 3 1 ∷ []; lo = 6; hi = 7; most_weight = 3; kind = Changeless }

-- alike but for their costs, so no twins
abbrev pub other_cost : PlainProblem
other_cost = record { items = item 10 272 0 ∷ item 10 272 1 ∷ []; lo = 10; hi = 15; most_weight = 1000; kind = Changeless }

-- the first is the lightest; the second is the lightest of what is left
abbrev pub lightest_first : PlainProblem
lightest_first = record { items = item 6 1 2 ∷ item 5 2 0 ∷ item 2 2 0 ∷ item 2 3 2 ∷ []; lo = 1; hi = 1; most_weight = 6; kind = Lean }

-- the second is heavier than the best, and a lighter one is left
abbrev pub lighter_left : PlainProblem
lighter_left = record { items = item 5 3 0 ∷ item 3 4 1 ∷ item 1 1 2 ∷ []; lo = 4; hi = 4; most_weight = 5; kind = Lean }

-- the second is too heavy with one more, and a lighter one is left
abbrev pub far_with_one : PlainProblem
far_with_one = record { items = item 5 2 1 ∷ item 3 2 1 ∷ item 2 1 2 ∷ item 1 1 2 ∷ []; lo = 5; hi = 5; most_weight = 3; kind = Lean }

-- alike in value alone, which makes twins where weight is what counts
abbrev pub same_value : PlainProblem
same_value = record { items = item 4 1 0 ∷ item 4 2 5 ∷ item 1 1 0 ∷ []; lo = 4; hi = 4; most_weight = 10; kind = Lean }
