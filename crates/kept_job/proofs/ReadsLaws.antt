-- The log of a plan that went on to an end reads as it is written, whatever was kept: its letters are those of a text that was
-- read, and those that its walks wrote.
use Rattle.std.proofs.Common.{◌≡◌, ◌∙◌, ℕ, zero, suc, ◌+◌, ◌<◌, ◌-◌, min, Bool, true, false, List, [], ◌∷◌, ◌++◌, length, Option, Some, None, refl, sym, ap, subst, arith, length-append, All}
use Rattle.std.specs.Prelude.{IfSome, nat_lt}
use Rattle.std.proofs.lemmas.List.Elements.{All-append, All-from_recursion}
use Rattle.std.specs.List.{AllByRecursion}
use Rattle.closing_log.proofs.WrittenLaws.{text_can}
use Rattle.closing_log.specs.Log.{PlainLog, PlainOpen, PlainSection}
use Rattle.closing_log.specs.LogText.{CanBeClosed, CanBeOpen, CanBeWritten, IsLetter, IsLogText, text_of}
use Rattle.fund_plan.proofs.ClaimLaws.{ended_so}
use Rattle.fund_plan.proofs.EndLaws.{end_back}
use Rattle.fund_plan.proofs.GoingLaws.{further, state_at}
use Rattle.fund_plan.specs.Outcome.{by_end, end_at, is_partial, most_tries}
use Rattle.fund_plan.specs.Resumed.{CanRestore, log_in, restored_at}
use Rattle.fund_plan.specs.State.{end_in, moved, told}
use Rattle.fund_plan.specs.Steps.{steps_of}
use Rattle.fund_plan.specs.declared.outcome.Outcome.TheVariants as answers
use Rattle.fund_steps.specs.Plan.{PlainPlan}
use Rattle.pick_problem.proofs.BoundLaws.{start_position, tries_position}
use Rattle.pick_problem.proofs.Deciding.{if_cases}
use Rattle.pick_problem.specs.Letters.{letters_of}
use Rattle.pick_problem.specs.Problem.{PlainProblem}
use Rattle.pick_problem.specs.Later.{total_value}
use Rattle.pick_problem.specs.Walk.{IsPosition, Walk, after_tries, rule, start, try_once, upward, way_of}
use Rattle.pick_problem.specs.declared.token.Reason.TheVariants.{Short}
use Rattle.pick_problem.specs.declared.token.Token.{Token}
use Rattle.pick_problem.specs.declared.token.Token.TheVariants.{Enter, Close}
use Rattle.search_keep.specs.SavedText.{PlainSaved}
use Rattle.search_run.proofs.ResultLaws.{kept_stands}
use Rattle.search_run.proofs.StandLaws.{stands_on}
use Rattle.search_run.specs.Judged.{saved_in}
use Rattle.search_run.specs.Kept.{Along, At, answered, first_search, is_over, log_of, stand_of, tail_letters, tail_of}
use Rattle.search_run.specs.Run.{Stand}
use Rattle.search_run.specs.Stands.{IsKeptAt, IsKeptWalk, IsStandBy, IsWalkAt, IsWalkBy}
use Rattle.search_run.specs.Step.{AreSteps, PlainStep, is_drawn}
use Rattle.search_run.specs.declared.ending.End.{End}
use Rattle.search_run.specs.declared.ending.End.TheVariants as ends
use Rattle.kept_job.proofs.LogLaws.{IsReadAt, ended_reads_as, letters_fit, small_row}

-- ---- letters

-- a walk that is done has written some
abbrev HasSome : Walk → Type 0
HasSome w = w.done ≡ true → 0 < length (letters_of w.tokens)

begun_some : (p : PlainProblem) → HasSome (start p)
begun_some p =
    if_cases HasSome (nat_lt (total_value p.items) p.lo) (record { stack = []; next = length p.items; best = None; tries = 0; done = true; tokens = Close Short ∷ [] })
    (record { stack = []; next = 0; best = None; tries = 0; done = false; tokens = [] }) (λ e d. omega arith) (λ e d. absurd (cc))

some_behind : (ts us : List Token) → 0 < length (letters_of (ts ++ Enter ∷ us))
some_behind [] us = omega arith
some_behind (t ∷ ts) us = omega arith

tried_some : (p : PlainProblem) (w : Walk) (n : ℕ) → HasSome w → HasSome (after_tries p w n)
tried_some p w zero h = h
tried_some p w (suc n) h =
    let v : Walk = after_tries p w n in
    if_cases HasSome v.done v (try_once p v) (λ e. tried_some p w n h)
    (λ e d. some_behind v.tokens (way_of p v.stack v.next (rule p v.best (upward (v.next ∷ v.stack)) v.next)).tokens)

letters_all : (ts : List Token) → All IsLetter (letters_of ts)
letters_all ts = All-from_recursion IsLetter (letters_of ts) (letters_fit ts)

-- ---- where a run stands that goes on from what was read

-- the letters from before can be written, and a walk that is done has written some
abbrev IsReadWalk : PlainStep → List ℕ → Walk → Type 0
IsReadWalk x before w = IsPosition x.problem w × (All IsLetter before × HasSome w)

module _ (seed : List ℕ) where
  read_by : (b : Bool) (x : PlainStep) (before : List ℕ) (w : Walk) → IsWalkBy b IsKeptWalk seed x before w → w.done ≡ false → All IsLetter before → IsWalkBy b IsReadWalk seed x before w
  read_by true x before w h going letters = h
  read_by false x before w h going letters = (h, (letters, λ d. absurd (let e : true ≡ false = sym d ∙ going in cc)))

  read_walk : (left : List PlainStep) (before : List ℕ) (w : Walk) → IsWalkAt IsKeptWalk seed left before w → w.done ≡ false → All IsLetter before → IsWalkAt IsReadWalk seed left before w
  read_walk [] before w h going letters = tt
  read_walk (x ∷ rest) before w h going letters = read_by (is_drawn x.stage) x before w h going letters

  read_along : (at : At) (ss : List PlainSection) → Along IsKeptAt seed at ss → AllByRecursion CanBeClosed ss → Along IsReadAt seed at ss
  read_along at [] h k = tt
  read_along at (s ∷ ss) h k = ((h.0.0, ((k.0.letters, k.0.some), h.0.1)), read_along (answered seed at s.answer) ss h.1 k.1)

tail_fit : (tail : Option PlainOpen) → IfSome tail CanBeOpen → All IsLetter (tail_letters tail)
tail_fit None h = All-from_recursion IsLetter [] tt
tail_fit (Some o) h = h.letters

module _ (p : PlainPlan) (now : List ℕ) (saved : PlainSaved) (log : PlainLog) (bytes : List ℕ) (m : ℕ) (are : AreSteps (steps_of p)) (can : CanRestore p now saved log) (text : IsLogText bytes log) where
  from_read : IsStandBy IsReadAt IsReadWalk p.request.seed (steps_of p) (stand_of p.request.seed (steps_of p) (saved_in saved) log)
  from_read =
      let from : Stand = stand_of p.request.seed (steps_of p) (saved_in saved) log in
      let kept = kept_stands p.request.seed (steps_of p) are (saved_in saved) log can.can in
      let written : CanBeWritten log = text_can bytes log text in
      record {
        closed = read_along p.request.seed (first_search p.request.seed (steps_of p)) log.closed kept.closed written.closed;
        here = kept.here;
        walk = read_walk p.request.seed from.left from.before from.walk kept.walk refl (tail_fit log.tail written.tail);
        left = kept.left;
        found = kept.found;
      }

  on_read : IsStandBy IsReadAt IsReadWalk p.request.seed (steps_of p) (further p (stand_of p.request.seed (steps_of p) (saved_in saved) log) m)
  on_read =
      let from : Stand = stand_of p.request.seed (steps_of p) (saved_in saved) log in
      stands_on IsReadAt IsReadWalk p.request.seed (steps_of p) are
      (λ x is. (start_position x.problem is.problem, (All-from_recursion IsLetter [] tt, begun_some x.problem)))
      (λ x before w n is h. (tries_position x.problem w n is.problem h.0, (h.1.0, tried_some x.problem w n h.1.1)))
      (λ x rest found before w is h done.
      let some : 0 < length (letters_of w.tokens) = h.1.1 done in
      let more : length (before ++ letters_of w.tokens) ≡ length before + length (letters_of w.tokens) = length-append before (letters_of w.tokens) in
      let plain : 0 < length (before ++ letters_of w.tokens) = omega (arith, some, more) in
      (record { row = refl; stage = refl; digest = refl }, ((All-append IsLetter before (letters_of w.tokens) h.1.0 (letters_all w.tokens), plain), h.0.fit)))
      (λ x before w is h. h.0.fit)
      from.left from.walk from.before from.past (min m (most_tries - saved.tries)) from_read

  -- ---- its log

  pub reads_on : (told (moved (restored_at p saved log) m) ≡ answers.Unfinished → ⊥) → IsLogText (text_of (log_in (moved (restored_at p saved log) m))) (log_in (moved (restored_at p saved log) m))
  reads_on goes = by (end_at p x) refl
    where
      x : Stand
      x = further p (stand_of p.request.seed (steps_of p) (saved_in saved) log) m

      back : end_in (moved (restored_at p saved log) m) ≡ end_at p x
      back = end_back (state_at p x) (end_at p x) refl

      ended : (l : PlainLog) → l.closed ≡ x.past.closed → l.tail ≡ None → l.ended ≡ true → IsLogText (text_of l) l
      ended l closed tail is =
          ended_reads_as (steps_of p) are (small_row p) p.request.seed l (subst (Along IsReadAt p.request.seed (first_search p.request.seed (steps_of p))) (sym closed) on_read.closed) tail is

      there : (d : End) → end_at p x ≡ d → log_in (moved (restored_at p saved log) m) ≡ log_of (is_partial d) x
      there d e = ap (λ (end : End). log_of (is_partial end) x) (back ∙ e)

      by : (d : End) → end_at p x ≡ d → IsLogText (text_of (log_in (moved (restored_at p saved log) m))) (log_in (moved (restored_at p saved log) m))
      by (ends.Ended o) e =
          let over : x.left ≡ [] = (ended_so p x o e).over in
          subst (λ (l : PlainLog). IsLogText (text_of l) l) (sym (there (ends.Ended o) e))
          (ended (log_of false x) refl (ap (λ (left : List PlainStep). tail_of x left) over) (ap is_over over))
      by (ends.Partial f) e =
          subst (λ (l : PlainLog). IsLogText (text_of l) l) (sym (there (ends.Partial f) e)) (ended (log_of true x) refl refl refl)
      by ends.Unfinished e = absurd (goes (ap (by_end p) (back ∙ e)))
