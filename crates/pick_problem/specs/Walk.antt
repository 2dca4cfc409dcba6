-- The walk that both searches make, as a table of rules. Each sum is taken over the chosen list.
--
-- The guarantee: once a walk from the start is done, its best is the best selection of the problem, and where it has
-- none no selection is admissible; and its tokens are a log that is accepted with that best.
-- It goes through the selections depth first, the next place chosen before the next place left out, as Bitcoin Core's
-- `SelectCoinsBnB` and `CoinGrinder` do. A selection is left out by one of four things alone, each sound by itself:
-- a branch that can't reach lo, or is above hi or the limit of weight, holds nothing admissible, as values, weights and
-- (where no cost is negative) wastes only grow; a branch that is no better than the best so far can't hold the winner,
-- as of equal scores the one that was met first wins; what stands after a hit has a place too many; and of twins the
-- first may stand for each other one. A cut closes the branch without the next place too: where that place is the
-- lightest one left, what is too heavy with it is too heavy with any other. Nothing here rests on this table alone:
-- that each token is an allowed step is proved, and that allowed steps prove the best is proved without the table.
use Rattle.std.specs.Prelude.{◌≡◌, ℕ, zero, suc, ◌+◌, ◌-◌, ◌*◌, ◌<◌, ◌≤◌, ◌==◌, ◌&&◌, ◌||◌, Bool, true, false, List, [], ◌∷◌, ◌++◌, length, pos, ◌+ℤ◌, int_lt, int_le, Option, Some, None, if◌then◌else◌, nat_lt, nat_le}
use Rattle.std.specs.List.{list_all}
use Rattle.std.specs.Ordering.{int_eq}
use Rattle.pick_problem.specs.declared.item.Kind.{Kind}
use Rattle.pick_problem.specs.declared.item.Kind.TheVariants.{Changeless, Lean}
use Rattle.pick_problem.specs.declared.score.Score.{Score}
use Rattle.pick_problem.specs.declared.token.Reason.{Reason}
use Rattle.pick_problem.specs.declared.token.Reason.TheVariants.{Short, Over, Heavy, NoRoom, Worse, Heavier, Far, Hit}
use Rattle.pick_problem.specs.declared.token.Token.{Token}
use Rattle.pick_problem.specs.declared.token.Token.TheVariants.{Enter, Pass, Close}
use Rattle.pick_problem.specs.Pool.{item_at}
use Rattle.pick_problem.specs.Problem.{PlainProblem, Rising, value_of, weight_of, cost_of}
use Rattle.pick_problem.specs.Admissible.{IsFit}
use Rattle.pick_problem.specs.Score.{score_by, score_of}
use Rattle.pick_problem.specs.Later.{total_value, later_value, least_weight, behind_twins}
use Rattle.pick_problem.specs.Steps.{needed}

-- chosen places that stand with the last one first, in rising order
abbrev pub upward : List ℕ → List ℕ
upward [] = []
upward (j ∷ stack) = upward stack ++ j ∷ []

-- tokens that are written, and where the walk stands then: the chosen places, the last one first, and the next place
pub record Way : Type 0 where
  pub tokens : List Token
  pub stack : List ℕ
  pub next : ℕ
  pub done : Bool

abbrev pub at : List ℕ → ℕ → Way
at stack t = record { tokens = []; stack = stack; next = t; done = false }

-- the walk is done
abbrev pub over : PlainProblem → Way
over p = record { tokens = []; stack = []; next = length p.items; done = true }

-- a token in front
abbrev pub writes : Token → Way → Way
writes k w = record { tokens = k ∷ w.tokens; stack = w.stack; next = w.next; done = w.done }

-- T where twins stand after the place j, which is dropped
abbrev pub passing : PlainProblem → ℕ → Way → Way
passing p j w = if nat_lt (j + 1) (behind_twins p (j + 1)) then writes Pass w else w

-- the place j is dropped from after the chosen ones, and its twins are passed; where no place is left, S is written,
-- and the last chosen one is dropped too, or the walk is done
abbrev pub shift : PlainProblem → List ℕ → ℕ → Way
shift p [] j = passing p j (if nat_lt (behind_twins p (j + 1)) (length p.items) then at [] (behind_twins p (j + 1)) else writes (Close Short) (over p))
shift p (k ∷ stack) j = passing p j (if nat_lt (behind_twins p (j + 1)) (length p.items) then at (k ∷ stack) (behind_twins p (j + 1)) else writes (Close Short) (shift p stack k))

-- the last chosen place is dropped, or the walk is done
abbrev pub leave : PlainProblem → List ℕ → Way
leave p [] = over p
leave p (k ∷ stack) = shift p stack k

-- the place t is dropped, and the branch without it is closed too: by S where what is left doesn't reach lo
abbrev pub cut : PlainProblem → List ℕ → ℕ → Reason → Way
cut p stack t reason = writes (Close (if nat_lt (value_of p (upward stack) + later_value p (t + 1)) p.lo then Short else reason)) (leave p stack)

-- whether t is last, or weighs at most the least later weight
abbrev pub is_lightest : PlainProblem → ℕ → Bool
is_lightest p t = (t + 1 == length p.items) || nat_le (item_at p.items t).weight (least_weight p (t + 1))

abbrev pub cut_or_shift : PlainProblem → List ℕ → ℕ → Reason → Way
cut_or_shift p stack t reason = if is_lightest p t then cut p stack t reason else shift p stack t

abbrev pub is_over : Kind → PlainProblem → List ℕ → Bool
is_over Changeless p q = nat_lt p.hi (value_of p q)
is_over Lean p q = false

abbrev pub no_negative : PlainProblem → Bool
no_negative p = list_all (λ x. int_le (pos 0) x.cost) p.items

-- whether q wastes as much as the best or more, or is heavier
abbrev pub is_worse : Kind → PlainProblem → Option (List ℕ) → List ℕ → Bool
is_worse k p None q = false
is_worse Changeless p (Some b) q = no_negative p && int_le (score_by Changeless p b).first (cost_of p q +ℤ pos (value_of p q - p.lo))
is_worse Lean p (Some b) q = nat_lt (weight_of p b) (weight_of p q)

abbrev pub worse_way : Kind → PlainProblem → List ℕ → ℕ → Way
worse_way Changeless p stack t = writes (Close Worse) (shift p stack t)
worse_way Lean p stack t = writes (Close Heavier) (cut_or_shift p stack t Far)

-- whether q is heavier than the best with as many of the lightest later items as it needs at least
abbrev pub is_far : Kind → PlainProblem → Option (List ℕ) → List ℕ → ℕ → Bool
is_far Changeless p best q t = false
is_far Lean p None q t = false
is_far Lean p (Some b) q t = nat_lt (weight_of p b) (weight_of p q + needed (p.lo - value_of p q) (item_at p.items t).value * least_weight p (t + 1))

abbrev pub score_below : Score → Score → Bool
score_below x y = int_lt x.first y.first || (int_eq x.first y.first && nat_lt x.second y.second)

abbrev pub better : PlainProblem → Option (List ℕ) → List ℕ → Option (List ℕ)
better p None q = Some q
better p (Some b) q = if score_below (score_of p q) (score_of p b) then Some q else Some b

-- the rules, in the order in which they are tried
pub data Rule : Type 0 where
  IsShort : Rule
  IsOver : Rule
  IsHeavy : Rule
  IsWorse : Rule
  IsHit : Rule
  IsFar : Rule
  GoesOn : Rule

-- the first rule that applies, q being the chosen places with t
abbrev pub rule : PlainProblem → Option (List ℕ) → List ℕ → ℕ → Rule
rule p best q t =
    if nat_lt (value_of p q + later_value p (t + 1)) p.lo then IsShort
    else if is_over p.kind p q then IsOver
    else if nat_lt p.most_weight (weight_of p q) then IsHeavy
    else if is_worse p.kind p best q then IsWorse
    else if nat_le p.lo (value_of p q) then IsHit
    else if is_far p.kind p best q t then IsFar
    else GoesOn

-- what each rule writes after I, and where it leads
abbrev pub way_of : PlainProblem → List ℕ → ℕ → Rule → Way
way_of p stack t IsShort = writes (Close Short) (cut p stack t Short)
way_of p stack t IsOver = writes (Close Over) (shift p stack t)
way_of p stack t IsHeavy = writes (Close Heavy) (cut_or_shift p stack t NoRoom)
way_of p stack t IsWorse = worse_way p.kind p stack t
way_of p stack t IsHit = writes (Close Hit) (shift p stack t)
way_of p stack t IsFar = writes (Close Far) (cut_or_shift p stack t Far)
way_of p stack t GoesOn = at (t ∷ stack) (t + 1)

abbrev pub best_of : PlainProblem → Option (List ℕ) → List ℕ → Rule → Option (List ℕ)
best_of p best q IsHit = better p best q
best_of p best q _ = best

-- where a walk stands, with its tokens
pub record Walk : Type 0 where
  pub stack : List ℕ
  pub next : ℕ
  pub best : Option (List ℕ)
  pub tries : ℕ
  pub done : Bool
  pub tokens : List Token

abbrev pub along : Walk → Way → Option (List ℕ) → Walk
along w way best = record { stack = way.stack; next = way.next; best = best; tries = w.tries + 1; done = way.done; tokens = w.tokens ++ way.tokens }

-- chosen places and a next place from which a walk goes on: the chosen ones rise below the next one, which is there,
-- and they are below lo and within the limit of weight
pub record Ready (p : PlainProblem) (stack : List ℕ) (t : ℕ) : Type 0 where
  pub rises : Rising t 0 (upward stack)
  pub next : t < length p.items
  pub low : value_of p (upward stack) < p.lo
  pub light : weight_of p (upward stack) ≤ p.most_weight

abbrev pub entered : Token → ℕ
entered Enter = 1
entered _ = 0

-- how often the next place was chosen
abbrev pub enters : List Token → ℕ
enters [] = 0
enters (k ∷ ks) = entered k + enters ks

-- where a walk may stand: it goes on, or it is done with nothing chosen after the last place; its best is
-- admissible, if there is one; and its tries are the number of I in its tokens
pub record IsPosition (p : PlainProblem) (w : Walk) : Type 0 where
  pub ready : w.done ≡ false → Ready p w.stack w.next
  pub over : w.done ≡ true → (w.stack ≡ []) × (w.next ≡ length p.items)
  pub fit : IsFit p w.best
  pub counted : w.tries ≡ enters w.tokens

-- one try: the next place goes after the chosen ones, I is written, and the first rule that applies is taken
abbrev pub try_once : PlainProblem → Walk → Walk
try_once p w = let r : Rule = rule p w.best (upward (w.next ∷ w.stack)) w.next in along w (writes Enter (way_of p w.stack w.next r)) (best_of p w.best (upward (w.next ∷ w.stack)) r)

-- so many tries from where a walk stands, or fewer if it is done before
abbrev pub after_tries : PlainProblem → Walk → ℕ → Walk
after_tries p w zero = w
after_tries p w (suc n) = if (after_tries p w n).done then after_tries p w n else try_once p (after_tries p w n)

-- where each walk begins; a pool that doesn't reach lo is done with at once
abbrev pub start : PlainProblem → Walk
start p =
    if nat_lt (total_value p.items) p.lo then record { stack = []; next = length p.items; best = None; tries = 0; done = true; tokens = Close Short ∷ [] }
    else record { stack = []; next = 0; best = None; tries = 0; done = false; tokens = [] }

-- the walk after n tries from the start, or after fewer if it is done before
abbrev pub walk : PlainProblem → ℕ → Walk
walk p n = after_tries p (start p) n
