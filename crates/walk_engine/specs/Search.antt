-- A search, as contracts see it.
--
-- The guarantee: in whatever pieces its tries are granted, a search stands where the walk stands after as many tries, with
-- the same letters. So once it is done, what holds of the walk holds of it: its best is the best, and its letters are a log
-- that is accepted with that.
use Rattle.std.specs.Prelude.{◌≡◌, ℕ, ◌+◌, ◌-◌, ◌*◌, ◌<◌, ◌≤◌, ◌==◌, Bool, true, false, List, [], ◌++◌, length, Option}
use Rattle.std.specs.Prelude.{reverse, drop, take}
use Rattle.std.specs.List.{count_by}
use Rattle.pick_problem.specs.declared.position.Position.{Position}
use Rattle.pick_problem.specs.Admissible.{IsFit}
use Rattle.pick_problem.specs.Letters.{letters_of, read}
use Rattle.pick_problem.specs.Problem.{PlainProblem, IsProblem, Rising, value_of, weight_of}
use Rattle.pick_problem.specs.Standing.{position_of}
use Rattle.pick_problem.specs.Walk.{Walk, IsPosition, upward, after_tries, start, walk}
use Rattle.walk_engine.specs.declared.best.Best.{Best}
use Rattle.walk_engine.specs.declared.stack.Stack.{Stack}
use Rattle.walk_engine.specs.Best.{IsBestSoFar, plain_best}
use Rattle.walk_engine.specs.Stack.{IsStack}

-- a search: its problem; the letters with which it was restored, which may be any bytes, or none where it was made new;
-- the walk, whose tries and tokens are those made since then; and how many more tries have their room
pub record PlainSearch : Type 0 where
  pub problem : PlainProblem
  pub before : List ℕ
  pub walk : Walk
  pub spare : ℕ

-- all its letters
abbrev pub letters : PlainSearch → List ℕ
letters s = s.before ++ letters_of s.walk.tokens

-- how many tries letters tell of: each try writes one I
abbrev pub tries_in : List ℕ → ℕ
tries_in letters = count_by (λ b. b == 73) letters

-- where it stands, with the tries from before it was restored
abbrev pub standing : PlainSearch → Position
standing s = record {
  chosen = upward s.walk.stack;
  next = s.walk.next;
  best = s.walk.best;
  tries = tries_in s.before
      + s.walk.tries;
  done = s.walk.done;
}

-- a new search stands at the start of its walk
abbrev pub begun : PlainProblem → PlainSearch
begun p = record { problem = p; before = []; walk = start p; spare = 0 }

-- what n tries leave: the walk of the table is followed, and there is room for as many fewer as were made
abbrev pub after : PlainSearch → ℕ → PlainSearch
after s n =
    record {
      problem = s.problem;
      before = s.before;
      walk = after_tries s.problem s.walk n;
      spare = s.spare - ((after_tries s.problem s.walk n).tries - s.walk.tries);
    }

-- it stands where a new search of its problem stands after n tries, with the same letters
pub record IsAfter (s : PlainSearch) (n : ℕ) : Type 0 where
  pub position : standing s ≡ position_of (walk s.problem n)
  pub letters : letters s ≡ letters_of (walk s.problem n).tokens

-- what each search keeps
pub record IsSearch (s : PlainSearch) : Type 0 where
  pub problem : IsProblem s.problem
  pub position : IsPosition s.problem s.walk

-- a position at which a search of the problem may stand with these letters written
pub record IsWellFormed (p : PlainProblem) (q : Position) (letters : List ℕ) : Type 0 where
  -- the chosen places rise, and each is below the next place
  pub rises : Rising q.next 0 q.chosen
  -- an open position has a next place
  pub next : q.done ≡ false → q.next < length p.items
  -- in an open position the chosen value is below lo, and the chosen weight is within the limit
  pub low : q.done ≡ false → (value_of p q.chosen < p.lo) × (weight_of p q.chosen ≤ p.most_weight)
  -- a done position has no chosen place, and the number of items as its next place
  pub over : q.done ≡ true → (q.chosen ≡ []) × (q.next ≡ length p.items)
  -- the best, if there is one, is admissible
  pub best : IsFit p q.best
  -- the tries are the number of I in the letters
  pub counted : q.tries ≡ tries_in letters

-- an open position after these letters, with as many tries as they tell of
abbrev pub open_at : List ℕ → ℕ → Option (List ℕ) → List ℕ → Position
open_at chosen next best letters = record { chosen = chosen; next = next; best = best; tries = tries_in letters; done = false }

-- the three of these rules that speak of an open position or of a done one
pub record Stands (p : PlainProblem) (chosen : List ℕ) (at : ℕ) (done : Bool) : Type 0 where
  pub next : done ≡ false → at < length p.items
  pub low : done ≡ false → (value_of p chosen < p.lo) × (weight_of p chosen ≤ p.most_weight)
  pub over : done ≡ true → (chosen ≡ []) × (at ≡ length p.items)

-- a search that goes on from a position, with these letters before
abbrev pub restored : PlainProblem → Position → List ℕ → PlainSearch
restored p q letters =
    record {
      problem = p;
      before = letters;
      walk = record { stack = reverse q.chosen; next = q.next; best = q.best; tries = 0; done = q.done; tokens = [] };
      spare = 0;
    }

-- ---- how a search is held

-- the first letters are those from before, and the others are read as tokens
abbrev pub plain : PlainProblem → Stack → ℕ → Best → ℕ → Bool → List ℕ → ℕ → ℕ → PlainSearch
plain p s next best made done letters kept spare =
    record {
      problem = p;
      before = take kept letters;
      walk = record {
        stack = reverse s.places.items;
        next = next;
        best = plain_best best;
        tries = made;
        done = done;
        tokens = read (drop kept letters);
      };
      spare = spare;
    }

abbrev pub if_done : Bool → ℕ
if_done true = 1
if_done false = 0

-- the sums are those of the chosen places and of the best; there is room for the letters of the spare tries; the
-- letters after those from before are letters of tokens; and the tries from before are counted
pub record IsSearchState (p : PlainProblem) (s : Stack) (next : ℕ) (best : Best) (done : Bool) (letters : List ℕ)
    (capacity kept earlier spare : ℕ) : Type 0 where
  pub stack : IsStack p next s
  pub sums : IsBestSoFar p best
  pub room : length letters + 2 * length s.places.items + 3 * spare + 1 ≤ capacity + if_done done
  pub front : kept ≤ length letters
  pub written : letters_of (read (drop kept letters)) ≡ drop kept letters
  pub counted : earlier ≡ tries_in (take kept letters)
