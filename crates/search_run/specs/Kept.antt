-- What is kept of a run that isn't finished, and going on from it.
use Rattle.std.specs.Prelude.{ℕ, ◌≡◌, Bool, true, false, List, [], ◌∷◌, ◌++◌, Option, Some, None, IfSome, IsSome, if◌then◌else◌}
use Rattle.closing_log.specs.Log.{PlainLog, PlainOpen, PlainSection}
use Rattle.closing_log.specs.declared.log.Stage.{Stage}
use Rattle.pick_problem.specs.Admissible.{IsFit}
use Rattle.pick_problem.specs.Best.{IsBest}
use Rattle.pick_problem.specs.Digest.{digest_of}
use Rattle.pick_problem.specs.Letters.{IsAcceptedText}
use Rattle.pick_problem.specs.Standing.{afresh, walk_at}
use Rattle.pick_problem.specs.Walk.{IsPosition, Walk, upward}
use Rattle.random_draw.specs.Draw.{draw_of}
use Rattle.search_run.specs.Found.{PlainFound, found_of}
use Rattle.search_run.specs.Run.{Stand, all_letters, ends}
use Rattle.search_run.specs.Step.{PlainStep, is_drawn}

-- ---- to which search a run comes

-- the steps that are left, the first of which is a search, and the results of its column before it; or nothing is left
pub record At : Type 0 where
  pub left : List PlainStep
  pub found : List PlainFound

abbrev pub at_end : List PlainFound → At
at_end found = record { left = []; found = found }

-- past the draws in front, each with what it finds
abbrev pub to_search : List ℕ → List PlainStep → List PlainFound → At
to_search seed [] found = at_end found
to_search seed (x ∷ rest) found =
    if is_drawn x.stage
    then (if ends x (found ++ found_of x (draw_of x.problem seed))
    then at_end (found ++ found_of x (draw_of x.problem seed))
    else to_search seed rest (found ++ found_of x (draw_of x.problem seed)))
    else record { left = x ∷ rest; found = found }

-- past a search with this answer
abbrev pub answered_by : List ℕ → List PlainStep → List PlainFound → Option (List ℕ) → At
answered_by seed [] found a = at_end found
answered_by seed (x ∷ rest) found a = if ends x (found ++ found_of x a) then at_end (found ++ found_of x a) else to_search seed rest (found ++ found_of x a)

abbrev pub answered : List ℕ → At → Option (List ℕ) → At
answered seed at a = answered_by seed at.left at.found a

-- past searches with these answers
abbrev pub comes_to : List ℕ → At → List PlainSection → At
comes_to seed at [] = at
comes_to seed at (s ∷ ss) = comes_to seed (answered seed at s.answer) ss

-- the search to which a run over steps comes first
abbrev pub first_search : List ℕ → List PlainStep → At
first_search seed steps = to_search seed steps []

-- each section is so to where the run comes with the answers of those before it, and the draws
abbrev pub Along : (At → PlainSection → Type 0) → List ℕ → At → List PlainSection → Type 0
Along P seed at [] = Unit {0}
Along P seed at (s ∷ ss) = P at s × Along P seed (answered seed at s.answer) ss

-- ---- what is kept

-- what is kept beside the log: the tries, the row and the stage of the search that goes on, and where its walk stands
pub record PlainSaved : Type 0 where
  pub tries : ℕ
  pub row : ℕ
  pub stage : Stage
  pub chosen : List ℕ
  pub next : ℕ
  pub best : Option (List ℕ)

-- row, stage and digest are those of a step
pub record Names (x : PlainStep) (r : ℕ) (s : Stage) (d : List ℕ) : Type 0 where
  pub row : r ≡ x.row
  pub stage : s ≡ x.stage
  pub digest : d ≡ digest_of x.problem

abbrev pub NamesFirst : List PlainStep → ℕ → Stage → List ℕ → Type 0
NamesFirst [] r s d = ⊥
NamesFirst (x ∷ rest) r s d = Names x r s d

-- a section is that of the search to which the run comes
abbrev pub IsDueAt : At → PlainSection → Type 0
IsDueAt at s = NamesFirst at.left s.row s.stage s.digest

-- its answer is none, or admissible there
abbrev pub IsFitFor : List PlainStep → Option (List ℕ) → Type 0
IsFitFor [] a = ⊥
IsFitFor (x ∷ rest) a = IsFit x.problem a

abbrev pub IsFitAt : At → PlainSection → Type 0
IsFitAt at s = IsFitFor at.left s.answer

-- its letters are accepted with its answer there
abbrev pub IsAcceptedFor : List PlainStep → Option (List ℕ) → List ℕ → Type 0
IsAcceptedFor [] a letters = ⊥
IsAcceptedFor (x ∷ rest) a letters = IsAcceptedText x.problem a letters

abbrev pub IsAcceptedAt : At → PlainSection → Type 0
IsAcceptedAt at s = IsAcceptedFor at.left s.answer s.letters

-- its answer is the best there
abbrev pub IsBestFor : List PlainStep → Option (List ℕ) → Type 0
IsBestFor [] a = ⊥
IsBestFor (x ∷ rest) a = IsBest x.problem a

abbrev pub IsBestAt : At → PlainSection → Type 0
IsBestAt at s = IsBestFor at.left s.answer

-- the walk at a kept position, its tries and tokens from here on
abbrev pub kept_walk : PlainSaved → Walk
kept_walk k = walk_at (record { chosen = k.chosen; next = k.next; best = k.best; tries = 0; done = false }) []

-- the open section is that of the search to which the run comes, which the saved row and stage name too
abbrev pub IsOpenAt : At → PlainSaved → PlainOpen → Type 0
IsOpenAt at k o = NamesFirst at.left o.row o.stage o.digest × (o.row ≡ k.row) × (o.stage ≡ k.stage)

-- a walk may stand at the kept position
abbrev pub IsPositionFor : List PlainStep → Walk → Type 0
IsPositionFor [] w = ⊥
IsPositionFor (x ∷ rest) w = IsPosition x.problem w

-- What can be gone on from: each closed section is that of the search to which the run comes there, and the open one is
-- too; a walk may stand at the saved position; and each closed answer is none or admissible.
pub record CanGoOn (seed : List ℕ) (steps : List PlainStep) (saved : PlainSaved) (log : PlainLog) : Type 0 where
  pub closed : Along IsDueAt seed (first_search seed steps) log.closed
  pub unfinished : IsSome log.tail
  pub tail : IfSome log.tail (IsOpenAt (comes_to seed (first_search seed steps) log.closed) saved)
  pub position : IsPositionFor (comes_to seed (first_search seed steps) log.closed).left (kept_walk saved)
  pub answers : Along IsFitAt seed (first_search seed steps) log.closed

abbrev pub tail_letters : Option PlainOpen → List ℕ
tail_letters None = []
tail_letters (Some o) = o.letters

-- where a run stands that goes on from what is kept
abbrev pub stand_of : List ℕ → List PlainStep → PlainSaved → PlainLog → Stand
stand_of seed steps k log =
    record {
      left = (comes_to seed (first_search seed steps) log.closed).left;
      walk = kept_walk k;
      before = tail_letters log.tail;
      past = record { found = (comes_to seed (first_search seed steps) log.closed).found; closed = log.closed; tries = k.tries };
    }

-- ---- what a run leaves

abbrev pub tail_of : Stand → List PlainStep → Option PlainOpen
tail_of s [] = None
tail_of s (x ∷ rest) = Some (record { row = x.row; stage = x.stage; digest = digest_of x.problem; letters = all_letters s.before s.walk })

abbrev pub is_over : List PlainStep → Bool
is_over [] = true
is_over (x ∷ rest) = false

-- its log: the closed sections, and the open one unless nothing is left or a result was taken for want of tries
abbrev pub log_of : (partial : Bool) → Stand → PlainLog
log_of true s = record { closed = s.past.closed; tail = None; ended = true }
log_of false s = record { closed = s.past.closed; tail = tail_of s s.left; ended = is_over s.left }

abbrev pub saved_by : Stand → List PlainStep → Option PlainSaved
saved_by s [] = None
saved_by s (x ∷ rest) = Some (record { tries = s.past.tries; row = x.row; stage = x.stage; chosen = upward s.walk.stack; next = s.walk.next; best = s.walk.best })

-- what is saved of it beside the log, exactly where a step is left
abbrev pub saved_of : Stand → Option PlainSaved
saved_of s = saved_by s s.left

-- the same stand, its walk begun afresh where it stands: all letters are from before
abbrev pub refreshed : Stand → Stand
refreshed s = record { left = s.left; walk = afresh s.walk; before = all_letters s.before s.walk; past = s.past }
