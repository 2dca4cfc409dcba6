-- The wide search of the rows of a ladder, with a budget of tries.
use Rattle.std.specs.Prelude.{ℕ, ◌+◌, ◌-◌, List, [], ◌∷◌, ◌++◌, Option, Some, None, if◌then◌else◌}
use Rattle.pick_problem.specs.Digest.{digest_of}
use Rattle.search_run.specs.Step.{PlainStep}
use Rattle.wide_check.specs.WideLetters.{letters_of}
use Rattle.wide_search.specs.WideWalk.{Walk, walk}
use Rattle.wide_plan.specs.declared.rows.RowsEnd.{RowsEnd}
use Rattle.wide_plan.specs.declared.rows.RowsEnd.TheVariants.{Found, Nothing, Open}

-- a row whose search came to its end: its number, the digest of its problem, the letters of its closing tree, and its answer
pub record PlainWideSection : Type 0 where
  pub row : ℕ
  pub digest : List ℕ
  pub letters : List ℕ
  pub answer : Option (List ℕ)

-- what the search of rows comes to: the finished ones in order, how it ends, and the tries made
pub record PlainRows : Type 0 where
  pub closed : List PlainWideSection
  pub end : RowsEnd
  pub tries : ℕ

-- a finished row, by its walk
abbrev pub section_at : PlainStep → Walk → PlainWideSection
section_at x w = record { row = x.row; digest = digest_of x.problem; letters = letters_of w.tokens; answer = w.best }

-- what rows come to behind finished ones, for which so many tries were made
abbrev pub behind : List PlainWideSection → (tries : ℕ) → PlainRows → PlainRows
behind closed tries r = record { closed = closed ++ r.closed; end = r.end; tries = tries + r.tries }

-- A row whose walk is done: with a best that is the end, and otherwise the rows behind it follow.
abbrev pub done_at : PlainStep → Walk → (rest : PlainRows) → Option (List ℕ) → PlainRows
done_at x w rest None = behind (section_at x w ∷ []) w.tries rest
done_at x w rest (Some q) = record { closed = section_at x w ∷ []; end = Found x.row q; tries = w.tries }

-- The rows in order, with at most n tries in all. A row whose walk isn't done within what is left of them has made them all.
abbrev pub rows_after : List PlainStep → ℕ → PlainRows
rows_after [] n = record { closed = []; end = Nothing; tries = 0 }
rows_after (x ∷ rest) n =
    if (walk x.problem n).done
    then done_at x (walk x.problem n) (rows_after rest (n - (walk x.problem n).tries)) (walk x.problem n).best
    else record { closed = []; end = Open x.row (walk x.problem n).best; tries = (walk x.problem n).tries }
