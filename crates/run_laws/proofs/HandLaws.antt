-- What there is to take of an open run is of the column at which it stands.
use Rattle.std.specs.Prelude.{ℕ, ◌≡◌, ◌-◌, ◌&&◌, Bool, true, false, List, [], ◌∷◌, ◌++◌, Option, Some, None, if◌then◌else◌}
use Rattle.std.specs.List.{AllByRecursion, flat_map}
use Rattle.std.proofs.Common.{refl, sym, ap, subst, ◌∙◌, append_assoc}
use Rattle.std.proofs.lemmas.List.{append-nil}
use Rattle.std.proofs.lemmas.List.Concat.{flat_map-cons}
use Rattle.pick_problem.specs.Admissible.{IsFit}
use Rattle.pick_problem.specs.Best.{IsBest}
use Rattle.pick_problem.specs.Walk.{Walk, after_tries, start, walk}
use Rattle.pick_problem.proofs.AcceptLaws.{walk_accepted, walk_position}
use Rattle.pick_problem.proofs.Deciding.{by_test, if_false}
use Rattle.pick_problem.proofs.SoundLaws.{accepted_best}
use Rattle.pick_problem.proofs.TryStepLaws.{after_done}
use Rattle.random_draw.specs.Draw.{draw_of}
use Rattle.search_run.specs.Answer.{AreResults, AreWhole, HasNone, IsColumn, IsResult}
use Rattle.search_run.specs.Found.{PlainFound, found_of}
use Rattle.search_run.specs.Run.{Past, Stand, results_in_column, beginning, begun, begun_first, draws_behind, drawn_here, ends, is_some_found, later_draws, made, onward, passed, run}
use Rattle.search_run.specs.Stands.{IsMadeWalk, IsWalkAt, IsWalkBy}
use Rattle.search_run.specs.Step.{AreSteps, IsStep, PlainStep, is_drawn}
use Rattle.search_run.proofs.ComeLaws.{result_is}
use Rattle.search_run.proofs.HeldLaws.{draw_begins}
use Rattle.search_run.proofs.MadeLaws.{run_stands}
use Rattle.search_run.proofs.RunLaws.{all_tries, onward_by}
use Rattle.search_run.proofs.StandLaws.{draw_fits, step_here}
use Rattle.fund_steps.proofs.WholeLaws.{whole-append}
use Rattle.run_laws.specs.AtHand.{IsAtHand}

-- ---- lists of steps

whole_by_last : (xs : List PlainStep) (x : PlainStep) → x.last ≡ true → AreWhole (xs ++ x ∷ [])
whole_by_last [] x last = last
whole_by_last (y ∷ []) x last = last
whole_by_last (y ∷ z ∷ xs) x last = whole_by_last (z ∷ xs) x last

whole_behind : (xs : List PlainStep) (x : PlainStep) (rest : List PlainStep) → AreWhole (xs ++ x ∷ rest) → AreWhole (x ∷ rest)
whole_behind [] x rest h = h
whole_behind (y ∷ []) x rest h = h
whole_behind (y ∷ z ∷ xs) x rest h = whole_behind (z ∷ xs) x rest h

abbrev NotLast : PlainStep → Type 0
NotLast x = x.last ≡ false

all_more : (P : PlainStep → Type 0) (xs ys : List PlainStep) → AllByRecursion P xs → AllByRecursion P ys → AllByRecursion P (xs ++ ys)
all_more P [] ys hx hy = hy
all_more P (x ∷ xs) ys hx hy = (hx.0, all_more P xs ys hx.1 hy)

one_column : (xs : List PlainStep) (x : PlainStep) (rest : List PlainStep) → AllByRecursion NotLast xs → IsColumn (x ∷ rest) → IsColumn (xs ++ x ∷ rest)
one_column [] x rest h column = column
one_column (y ∷ []) x rest h column = (h.0, column)
one_column (y ∷ z ∷ xs) x rest h column = (h.0, one_column (z ∷ xs) x rest h.1 column)

-- ---- results

no_results : (seed : List ℕ) (xs : List PlainStep) → AreResults seed xs [] → AllByRecursion (HasNone seed) xs
no_results seed [] h = tt
no_results seed (x ∷ xs) (r, is, (gs, e, more)) = by (λ h. no_results seed xs h) r gs is e more
  where
    by : (AreResults seed xs [] → AllByRecursion (HasNone seed) xs) → (r : Option (List ℕ)) (gs : List PlainFound) → IsResult seed x r → ◌≡◌ {A = List PlainFound} [] (found_of x r ++ gs) → AreResults seed xs gs → AllByRecursion (HasNone seed) (x ∷ xs)
    by on None gs is e more = (is, on (subst (λ (g : List PlainFound). AreResults seed xs g) (sym e) more))
    by on (Some q) gs is e more = absurd (cc e)

results_more : (seed : List ℕ) (xs : List PlainStep) (fs : List PlainFound) (x : PlainStep) (r : Option (List ℕ)) → AreResults seed xs fs → IsResult seed x r → AreResults seed (xs ++ x ∷ []) (fs ++ found_of x r)
results_more seed [] fs x r h is = (r, is, ([], ap (λ (l : List PlainFound). l ++ found_of x r) h ∙ sym (append-nil (found_of x r)), refl))
results_more seed (y ∷ ys) fs x r (s, of, (gs, e, more)) is =
    (s, of, (gs ++ found_of x r, ap (λ (l : List PlainFound). l ++ found_of x r) e ∙ append_assoc (found_of y s) gs (found_of x r), results_more seed ys gs x r more is))

all_none : (fs : List PlainFound) → is_some_found fs ≡ false → fs ≡ []
all_none [] e = refl
all_none (f ∷ fs) e = absurd (cc e)

nothing_left : (x : PlainStep) (rest : List PlainStep) → ◌≡◌ {A = List PlainStep} [] (x ∷ rest) → ⊥
nothing_left x rest e = cc e

-- ---- a step that is passed

-- what it came to is its result
passed_result : (seed : List ℕ) (x : PlainStep) (m : ℕ) → IsStep x → (after_tries x.problem (begun seed x) m).done ≡ true → IsResult seed x (after_tries x.problem (begun seed x) m).best
passed_result seed x m is done =
    by_test (IsResult seed x (after_tries x.problem (begun seed x) m).best) (is_drawn x.stage)
    (λ d.
    let first = draw_begins seed x d in
    let over : (begun seed x).done ≡ true = ap (λ (w : Walk). w.done) first in
    result_is true seed x _ d (ap (λ (w : Walk). w.best) (after_done x.problem (begun seed x) m over ∙ first)))
    (λ d.
    let first : begun seed x ≡ start x.problem = if_false (is_drawn x.stage) _ _ d in
    let same : after_tries x.problem (begun seed x) m ≡ walk x.problem m = ap (λ (w : Walk). after_tries x.problem w m) first in
    let over : (walk x.problem m).done ≡ true = sym (ap (λ (w : Walk). w.done) same) ∙ done in
    let best = accepted_best x.problem (walk x.problem m).best (walk x.problem m).tokens is.problem (walk_accepted x.problem is.problem m over) in
    result_is false seed x _ d (subst (λ (w : Walk). IsBest x.problem w.best) (sym same) best))

-- ---- where an open run stands

-- no step of the columns in front has a result; the steps of this column before it are none that end it, with their results
record Here (seed : List ℕ) (steps left : List PlainStep) (found : List PlainFound) : Type 0 where
  front : List PlainStep
  before : List PlainStep
  parts : steps ≡ front ++ (before ++ left)
  whole : AreWhole front
  none : AllByRecursion (HasNone seed) front
  going : AllByRecursion NotLast before
  results : AreResults seed before found

abbrev StandsIn : List ℕ → List PlainStep → Stand → Type 0
StandsIn seed steps s = (x : PlainStep) (rest : List PlainStep) → s.left ≡ x ∷ rest → Here seed steps (x ∷ rest) s.past.found

passed_on : (seed : List ℕ) (steps : List PlainStep) (x : PlainStep) (rest : List PlainStep) (found : List PlainFound) (r : Option (List ℕ)) → Here seed steps (x ∷ rest) found → IsResult seed x r → ends x (found ++ found_of x r) ≡ false → Here seed steps rest (found ++ found_of x r)
passed_on seed steps x rest found r h is goes =
    let results = results_more seed h.before found x r h.results is in
    by_test (Here seed steps rest (found ++ found_of x r)) x.last
    (λ last.
    let some : is_some_found (found ++ found_of x r) ≡ false = ap (λ (b : Bool). b && is_some_found (found ++ found_of x r)) (sym last) ∙ goes in
    let none : found ++ found_of x r ≡ [] = all_none (found ++ found_of x r) some in
    record {
      front = h.front ++ (h.before ++ x ∷ []);
      before = [];
      parts = h.parts ∙ ap (λ (l : List PlainStep). h.front ++ l) (sym (append_assoc h.before (x ∷ []) rest)) ∙ sym (append_assoc h.front (h.before ++ x ∷ []) rest);
      whole = whole-append h.front (h.before ++ x ∷ []) h.whole (whole_by_last h.before x last);
      none = all_more (HasNone seed) h.front (h.before ++ x ∷ []) h.none (no_results seed (h.before ++ x ∷ []) (subst (λ (l : List PlainFound). AreResults seed (h.before ++ x ∷ []) l) none results));
      going = tt;
      results = none;
    })
    (λ going_on. record {
      front = h.front;
      before = h.before ++ x ∷ [];
      parts = h.parts ∙ ap (λ (l : List PlainStep). h.front ++ l) (sym (append_assoc h.before (x ∷ []) rest));
      whole = h.whole;
      none = h.none;
      going = all_more NotLast h.before (x ∷ []) h.going (going_on, tt);
      results = results;
    })

in_column : (seed : List ℕ) (steps left : List PlainStep) (past : Past) (m : ℕ) → AreSteps left → Here seed steps left past.found → StandsIn seed steps (onward seed left (begun_first seed left) [] past m)
in_column seed steps [] past m are h = λ x rest e. absurd (nothing_left x rest e)
in_column seed steps (x ∷ rest) past m are h =
    let w = begun seed x in
    let v = after_tries x.problem w m in
    onward_by (StandsIn seed steps) seed x rest w [] past m
    (λ d y ys e. subst (λ (l : List PlainStep). Here seed steps l past.found) e h)
    (λ d f y ys e. absurd (nothing_left y ys e))
    (λ d f. in_column seed steps rest (passed x [] w v past) (m - made w v) are.1 (passed_on seed steps x rest past.found v.best h (passed_result seed x m are.0 d) f))

-- ---- what there is to take

record Cut (seed : List ℕ) (x : PlainStep) (rest : List PlainStep) : Type 0 where
  behind : List PlainStep
  more : List PlainStep
  parts : rest ≡ behind ++ more
  column : IsColumn (x ∷ behind)
  draws : draws_behind seed x rest ≡ flat_map (drawn_here seed) behind

cut_column : (seed : List ℕ) (x : PlainStep) (rest : List PlainStep) → AreWhole (x ∷ rest) → Cut seed x rest
cut_column seed x [] whole = record {
  behind = [];
  more = [];
  parts = refl;
  column = whole;
  draws = ap (λ (b : Bool). if b then [] else later_draws seed []) whole;
}
cut_column seed x (y ∷ ys) whole =
    let c = cut_column seed y ys whole in
    by_test (Cut seed x (y ∷ ys)) x.last
    (λ last. record {
      behind = [];
      more = y ∷ ys;
      parts = refl;
      column = last;
      draws = ap (λ (b : Bool). if b then [] else later_draws seed (y ∷ ys)) last;
    })
    (λ goes. record {
      behind = y ∷ c.behind;
      more = c.more;
      parts = ap (λ (l : List PlainStep). y ∷ l) c.parts;
      column = (goes, c.column);
      draws =
          ap (λ (b : Bool). if b then [] else later_draws seed (y ∷ ys)) goes
          ∙ ap (λ (l : List PlainFound). drawn_here seed y ++ l) c.draws
          ∙ sym (flat_map-cons (drawn_here seed) y c.behind);
    })

pub is_at_hand : (seed : List ℕ) (steps : List PlainStep) (n : ℕ) (x : PlainStep) (rest : List PlainStep) → AreSteps steps → AreWhole steps → (run seed steps n).left ≡ x ∷ rest → IsAtHand seed steps (run seed steps n) (results_in_column seed (run seed steps n) (x ∷ rest))
is_at_hand seed steps n x rest are whole e =
    let s = run seed steps n in
    let first : Here seed steps steps [] = record { front = []; before = []; parts = refl; whole = tt; none = tt; going = tt; results = refl } in
    let h = in_column seed steps steps (beginning seed steps).past n are first x rest e in
    let c = cut_column seed x rest (whole_behind (h.front ++ h.before) x rest (subst AreWhole (h.parts ∙ sym (append_assoc h.front h.before (x ∷ rest))) whole)) in
    let stand = run_stands seed steps are n in
    let here : IsWalkBy (is_drawn x.stage) IsMadeWalk seed x s.before s.walk = subst (λ (left : List PlainStep). IsWalkAt IsMadeWalk seed left s.before s.walk) e stand.walk in
    let is : IsStep x = step_here (h.front ++ h.before) rest x (subst AreSteps (h.parts ∙ sym (append_assoc h.front h.before (x ∷ rest))) are) in
    record {
      front = h.front;
      before = h.before;
      step = x;
      behind = c.behind;
      rest = c.more;
      parts = h.parts ∙ ap (λ (l : List PlainStep). h.front ++ (h.before ++ x ∷ l)) c.parts;
      whole = h.whole;
      none = h.none;
      one = one_column h.before x c.behind h.going c.column;
      fit = by is s.before s.walk (is_drawn x.stage) refl here;
      found = s.past.found;
      results = h.results;
      is = ap (λ (l : List PlainFound). s.past.found ++ (found_of x s.walk.best ++ l)) c.draws;
    }
  where
    by : IsStep x → (before : List ℕ) (w : Walk) (b : Bool) → is_drawn x.stage ≡ b → IsWalkBy b IsMadeWalk seed x before w → IsFit x.problem w.best
    by is before w true d k = subst (λ (v : Walk). IsFit x.problem v.best) (sym k) (draw_fits seed x is d)
    by is before w false d (none, (m, f)) = subst (λ (v : Walk). IsFit x.problem v.best) (sym f) (walk_position x.problem is.problem m).fit
