-- A run with a budget of tries.
use Rattle.std.specs.Prelude.{ℕ, ◌+◌, ◌-◌, ◌&&◌, Bool, true, false, List, [], ◌∷◌, ◌++◌, length, Option, Some, None, if◌then◌else◌}
use Rattle.closing_log.specs.Log.{PlainSection}
use Rattle.pick_problem.specs.Digest.{digest_of}
use Rattle.pick_problem.specs.Letters.{letters_of}
use Rattle.pick_problem.specs.Problem.{PlainProblem}
use Rattle.pick_problem.specs.Walk.{Walk, after_tries, start}
use Rattle.random_draw.specs.Draw.{draw_of}
use Rattle.search_run.specs.Found.{PlainFound, found_of, taken}
use Rattle.search_run.specs.Step.{PlainStep, is_drawn}
use Rattle.search_run.specs.declared.ending.End.{End}
use Rattle.search_run.specs.declared.ending.End.TheVariants.{Ended, Partial, Unfinished}

-- what a run leaves behind it: the results of the column that it is in, the finished searches, and the tries made
pub record Past : Type 0 where
  pub found : List PlainFound
  pub closed : List PlainSection
  pub tries : ℕ

-- Where a run stands: the steps that are left, the first of which it is at; the walk of that one; the letters that were
-- written for it before the walk was restored; and what is behind.
pub record Stand : Type 0 where
  pub left : List PlainStep
  pub walk : Walk
  pub before : List ℕ
  pub past : Past

-- a walk that is done, with what was drawn
abbrev pub drawn : PlainProblem → List ℕ → Walk
drawn p seed = record { stack = []; next = length p.items; best = draw_of p seed; tries = 0; done = true; tokens = [] }

-- where a step begins: a draw is done without a try
abbrev pub begun : List ℕ → PlainStep → Walk
begun seed x = if is_drawn x.stage then drawn x.problem seed else start x.problem

abbrev pub nowhere : Walk
nowhere = record { stack = []; next = 0; best = None; tries = 0; done = true; tokens = [] }

abbrev pub begun_first : List ℕ → List PlainStep → Walk
begun_first seed [] = nowhere
begun_first seed (x ∷ rest) = begun seed x

-- all letters of a search: those from before, and those of its walk
abbrev pub all_letters : List ℕ → Walk → List ℕ
all_letters before w = before ++ letters_of w.tokens

-- a finished search
abbrev pub section_at : PlainStep → List ℕ → Walk → PlainSection
section_at x before w = record { row = x.row; stage = x.stage; digest = digest_of x.problem; letters = all_letters before w; answer = w.best }

-- what a finished step adds to the log: a draw leaves nothing
abbrev pub sections_of : PlainStep → List ℕ → Walk → List PlainSection
sections_of x before w = if is_drawn x.stage then [] else section_at x before w ∷ []

-- how many tries lie between
abbrev pub made : Walk → Walk → ℕ
made w v = v.tries - w.tries

-- behind a step whose walk is done, having stood at w before
abbrev pub passed : PlainStep → List ℕ → Walk → Walk → Past → Past
passed x before w v past =
    record {
      found = past.found ++ found_of x v.best;
      closed = past.closed ++ sections_of x before v;
      tries = past.tries + made w v;
    }

-- what a run has behind it, with more tries
abbrev pub tried : Past → ℕ → Past
tried past n = record { found = past.found; closed = past.closed; tries = past.tries + n }

abbrev pub is_some_found : List PlainFound → Bool
is_some_found [] = false
is_some_found (f ∷ fs) = true

-- behind its last step a column with a result is the one that is answered from
abbrev pub ends : PlainStep → List PlainFound → Bool
ends x found = x.last && is_some_found found

-- nothing is left
abbrev pub over : Past → Stand
over past = record { left = []; walk = nowhere; before = []; past = past }

-- Where a run stands after at most m more tries. A walk that is done within them is passed, the next step begins, and
-- what is left of the tries goes to it; one that isn't done has made them all.
abbrev pub onward : List ℕ → List PlainStep → Walk → List ℕ → Past → ℕ → Stand
onward seed [] w before past m = over past
onward seed (x ∷ rest) w before past m =
    if (after_tries x.problem w m).done
    then (if ends x (past.found ++ found_of x (after_tries x.problem w m).best)
    then over (passed x before w (after_tries x.problem w m) past)
    else onward seed rest (begun_first seed rest) [] (passed x before w (after_tries x.problem w m) past) (m - made w (after_tries x.problem w m)))
    else record {
      left = x ∷ rest;
      walk = after_tries x.problem w m;
      before = before;
      past = tried past (made w (after_tries x.problem w m));
    }

abbrev pub go_on : List ℕ → Stand → ℕ → Stand
go_on seed s m = onward seed s.left s.walk s.before s.past m

-- where each run begins
abbrev pub beginning : List ℕ → List PlainStep → Stand
beginning seed steps = record { left = steps; walk = begun_first seed steps; before = []; past = record { found = []; closed = []; tries = 0 } }

-- the run over steps after at most n tries
abbrev pub run : List ℕ → List PlainStep → ℕ → Stand
run seed steps n = go_on seed (beginning seed steps) n

-- ---- what a stand comes to

-- what a step finds, if it is a draw
abbrev pub drawn_here : List ℕ → PlainStep → List PlainFound
drawn_here seed y = if is_drawn y.stage then found_of y (draw_of y.problem seed) else []

-- what the draws of a column find, of the steps that are left of it
abbrev pub later_draws : List ℕ → List PlainStep → List PlainFound
later_draws seed [] = []
later_draws seed (y ∷ ys) = drawn_here seed y ++ (if y.last then [] else later_draws seed ys)

abbrev pub draws_behind : List ℕ → PlainStep → List PlainStep → List PlainFound
draws_behind seed x rest = if x.last then [] else later_draws seed rest

-- the results that there are of the column of a walk that goes on: those of the steps before it, its best so far, and the
-- draws behind it, which are made even so
abbrev pub results_in_column : List ℕ → Stand → List PlainStep → List PlainFound
results_in_column seed s [] = []
results_in_column seed s (x ∷ rest) = s.past.found ++ (found_of x s.walk.best ++ draws_behind seed x rest)

abbrev pub or_unfinished : Option PlainFound → End
or_unfinished None = Unfinished
or_unfinished (Some f) = Partial f

abbrev pub end_by : (take : Bool) → List ℕ → Stand → List PlainStep → End
end_by take seed s [] = Ended (taken s.past.found)
end_by take seed s (x ∷ rest) = if take then or_unfinished (taken (results_in_column seed s (x ∷ rest))) else Unfinished

-- what a stand comes to, a result being taken for want of tries or not
abbrev pub end_of : (take : Bool) → List ℕ → Stand → End
end_of take seed s = end_by take seed s s.left
