-- A wide search, as contracts see it.
--
-- The guarantee: in whatever pieces its tries are granted, a search stands where the walk stands after as many tries, with
-- the same letters. So once it is done, what holds of the walk holds of it: its best is the best, and its letters are a log
-- that is accepted with that.
use Rattle.std.specs.Prelude.{◌≡◌, ℕ, ◌+◌, ◌-◌, ◌*◌, ◌≤◌, Bool, true, false, List, length, reverse}
use Rattle.pick_problem.specs.Problem.{PlainProblem}
use Rattle.wide_check.specs.Wide.{IsWideProblem}
use Rattle.wide_check.specs.WideLetters.{letters_of, read}
use Rattle.wide_search.specs.declared.best.Best.{Best}
use Rattle.wide_search.specs.declared.stack.Stack.{Stack}
use Rattle.wide_search.specs.Best.{IsBestSoFar, plain_best}
use Rattle.wide_search.specs.Stack.{IsStack}
use Rattle.wide_search.specs.WideWalk.{Walk, after_tries, start, walk}

-- a search: its problem, its walk, and how many more tries have their room
pub record PlainWide : Type 0 where
  pub problem : PlainProblem
  pub walk : Walk
  pub spare : ℕ

-- its letters
abbrev pub letters : PlainWide → List ℕ
letters s = letters_of s.walk.tokens

-- a new search stands at the start of its walk
abbrev pub begun : PlainProblem → PlainWide
begun p = record { problem = p; walk = start p; spare = 0 }

-- what n tries leave: the walk of the table is followed, and there is room for as many fewer as were made
abbrev pub after : PlainWide → ℕ → PlainWide
after s n =
    record {
      problem = s.problem;
      walk = after_tries s.problem s.walk n;
      spare = s.spare - ((after_tries s.problem s.walk n).tries - s.walk.tries);
    }

-- what each search keeps: it stands where the walk stands after some number of tries
pub record IsWideSearch (s : PlainWide) : Type 0 where
  pub problem : IsWideProblem s.problem
  pub count : ℕ
  pub is : s.walk ≡ walk s.problem count

-- ---- how a search is held

-- the letters are read as tokens
abbrev pub plain : PlainProblem → Stack → ℕ → Best → ℕ → Bool → List ℕ → ℕ → PlainWide
plain p s next best made done letters spare =
    record {
      problem = p;
      walk = record {
        stack = reverse s.places.items;
        next = next;
        best = plain_best best;
        tries = made;
        done = done;
        tokens = read letters;
      };
      spare = spare;
    }

abbrev pub if_done : Bool → ℕ
if_done true = 1
if_done false = 0

-- the sums are those of the chosen places, and the waste that of the best. There is room for the letters of the spare
-- tries; the letters are letters of tokens; and there are no more tries than letters
pub record IsKept (p : PlainProblem) (s : Stack) (next : ℕ) (best : Best) (made : ℕ) (done : Bool) (letters : List ℕ)
    (capacity spare : ℕ) : Type 0 where
  pub stack : IsStack p next s
  pub best_is : IsBestSoFar p best
  pub room : length letters + 2 * length s.places.items + 4 * spare + 1 ≤ capacity + if_done done
  pub written : letters_of (read letters) ≡ letters
  pub counted : made ≤ length letters
