-- The walk of a wide search, as a table of rules. Each sum is taken over the chosen list.
--
-- The guarantee: once a walk from the start is done, its best is the best of all wide selections, and where it has none
-- there is none. Its tokens are then a log that is accepted with that best. It goes as the walk of a search without change
-- does, the next place chosen before the next place left out. But a selection that is met doesn't end its branch, since
-- an item that saves more than it is worth may follow. B notes it, and the branch is closed by what it can still save. Of
-- lists of equal waste the one that was met first stays. Nothing here rests on this table alone: that each token is an allowed
-- step is proved, and that allowed steps prove the best is proved without the table.
use Rattle.std.specs.Prelude.{ℕ, zero, suc, ◌+◌, ◌<◌, ◌≤◌, Bool, true, false, List, [], ◌∷◌, ◌++◌, length, int_lt, int_le, Option, Some, None, if◌then◌else◌, nat_lt, nat_le}
use Rattle.pick_problem.specs.Problem.{PlainProblem, Rising, value_of, weight_of}
use Rattle.pick_problem.specs.Later.{total_value, later_value, behind_twins}
use Rattle.pick_problem.specs.Walk.{upward}
use Rattle.wide_check.specs.declared.token.WideReason.TheVariants.{Short, Over, Heavy, Wasteful, Ended}
use Rattle.wide_check.specs.declared.token.WideToken.{WideToken}
use Rattle.wide_check.specs.declared.token.WideToken.TheVariants.{Enter, Pass, Mark, Close}
use Rattle.wide_check.specs.Wide.{waste_of}
use Rattle.wide_check.specs.WideSteps.{least_waste}

-- tokens that are written, and where the walk stands then: the chosen places, the last one first, and the next place
pub record Way : Type 0 where
  pub tokens : List WideToken
  pub stack : List ℕ
  pub next : ℕ
  pub done : Bool

abbrev pub at : List ℕ → ℕ → Way
at stack t = record { tokens = []; stack = stack; next = t; done = false }

-- the walk is done
abbrev pub over : PlainProblem → Way
over p = record { tokens = []; stack = []; next = length p.items; done = true }

-- a token in front
abbrev pub writes : WideToken → Way → Way
writes k w = record { tokens = k ∷ w.tokens; stack = w.stack; next = w.next; done = w.done }

-- T where twins stand after the place j, which is dropped
abbrev pub passing : PlainProblem → ℕ → Way → Way
passing p j w = if nat_lt (j + 1) (behind_twins p (j + 1)) then writes Pass w else w

-- the place j is dropped from after the chosen ones, and its twins are passed. Where no place is left, N is written,
-- and the last chosen one is dropped too, or the walk is done
abbrev pub shift : PlainProblem → List ℕ → ℕ → Way
shift p [] j = passing p j (if nat_lt (behind_twins p (j + 1)) (length p.items) then at [] (behind_twins p (j + 1)) else writes (Close Ended) (over p))
shift p (k ∷ stack) j = passing p j (if nat_lt (behind_twins p (j + 1)) (length p.items) then at (k ∷ stack) (behind_twins p (j + 1)) else writes (Close Ended) (shift p stack k))

-- the last chosen place is dropped, or the walk is done
abbrev pub leave : PlainProblem → List ℕ → Way
leave p [] = over p
leave p (k ∷ stack) = shift p stack k

-- whether lists that go on from q with places from t on waste no less than the best
abbrev pub is_wasteful : PlainProblem → Option (List ℕ) → List ℕ → ℕ → Bool
is_wasteful p None q t = false
is_wasteful p (Some b) q t = int_le (waste_of p b) (least_waste p q t)

-- q becomes the best where there is none, or where it wastes less
abbrev pub better : PlainProblem → Option (List ℕ) → List ℕ → Option (List ℕ)
better p None q = Some q
better p (Some b) q = if int_lt (waste_of p q) (waste_of p b) then Some q else Some b

-- the rules, in the order in which they are tried
pub data Rule : Type 0 where
  IsShort : Rule
  IsOver : Rule
  IsHeavy : Rule
  IsWasteful : Rule
  IsHit : Rule
  GoesOn : Rule

-- the first rule that applies, q being the chosen places with t
abbrev pub rule : PlainProblem → Option (List ℕ) → List ℕ → ℕ → Rule
rule p best q t =
    if nat_lt (value_of p q + later_value p (t + 1)) p.lo then IsShort
    else if nat_lt p.hi (value_of p q) then IsOver
    else if nat_lt p.most_weight (weight_of p q) then IsHeavy
    else if is_wasteful p best q (t + 1) then IsWasteful
    else if nat_le p.lo (value_of p q) then IsHit
    else GoesOn

-- the walk goes on with t; where t is last, N is written and t is dropped
abbrev pub going : PlainProblem → List ℕ → ℕ → Way
going p stack t = if nat_lt (t + 1) (length p.items) then at (t ∷ stack) (t + 1) else writes (Close Ended) (shift p stack t)

-- what each rule writes after I, and where it leads; where the list with t is short, so is what is left without t
abbrev pub way_of : PlainProblem → List ℕ → ℕ → Rule → Way
way_of p stack t IsShort = writes (Close Short) (writes (Close Short) (leave p stack))
way_of p stack t IsOver = writes (Close Over) (shift p stack t)
way_of p stack t IsHeavy = writes (Close Heavy) (shift p stack t)
way_of p stack t IsWasteful = writes (Close Wasteful) (shift p stack t)
way_of p stack t IsHit = writes Mark (going p stack t)
way_of p stack t GoesOn = going p stack t

abbrev pub best_of : PlainProblem → Option (List ℕ) → List ℕ → Rule → Option (List ℕ)
best_of p best q IsHit = better p best q
best_of p best q _ = best

-- where a walk stands, with its tokens
pub record Walk : Type 0 where
  pub stack : List ℕ
  pub next : ℕ
  pub best : Option (List ℕ)
  pub tries : ℕ
  pub done : Bool
  pub tokens : List WideToken

abbrev pub along : Walk → Way → Option (List ℕ) → Walk
along w way best = record { stack = way.stack; next = way.next; best = best; tries = w.tries + 1; done = way.done; tokens = w.tokens ++ way.tokens }

-- chosen places and a next place from which a walk goes on. The chosen ones rise below the next one, which is there,
-- and they are neither above hi nor above the limit of weight
pub record Ready (p : PlainProblem) (stack : List ℕ) (t : ℕ) : Type 0 where
  pub rises : Rising t 0 (upward stack)
  pub next : t < length p.items
  pub under : value_of p (upward stack) ≤ p.hi
  pub light : weight_of p (upward stack) ≤ p.most_weight

-- one try: the next place goes after the chosen ones, I is written, and the first rule that applies is taken
abbrev pub try_once : PlainProblem → Walk → Walk
try_once p w = let r : Rule = rule p w.best (upward (w.next ∷ w.stack)) w.next in along w (writes Enter (way_of p w.stack w.next r)) (best_of p w.best (upward (w.next ∷ w.stack)) r)

-- so many tries from where a walk stands, or fewer if it is done before
abbrev pub after_tries : PlainProblem → Walk → ℕ → Walk
after_tries p w zero = w
after_tries p w (suc n) = if (after_tries p w n).done then after_tries p w n else try_once p (after_tries p w n)

-- where each walk begins; a pool that doesn't reach lo is done with at once
abbrev pub start : PlainProblem → Walk
start p =
    if nat_lt (total_value p.items) p.lo then record { stack = []; next = length p.items; best = None; tries = 0; done = true; tokens = Close Short ∷ [] }
    else record { stack = []; next = 0; best = None; tries = 0; done = false; tokens = [] }

-- the walk after n tries from the start, or after fewer if it is done before
abbrev pub walk : PlainProblem → ℕ → Walk
walk p n = after_tries p (start p) n
