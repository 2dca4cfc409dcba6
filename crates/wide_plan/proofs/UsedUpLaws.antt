-- Where the tries are used up, the search of rows ends with that.
use Rattle.std.specs.Prelude.{ℕ, zero, suc, ◌≡◌, ◌≤◌, ◌+◌, ◌-◌, Bool, true, false, List, [], ◌∷◌, ◌++◌, Option, Some, None, cond}
use Rattle.std.specs.List.{AllByRecursion}
use Rattle.std.proofs.Common.{refl, sym, ap, subst, ◌∙◌, arith}
use Rattle.std.proofs.lemmas.Bool.{cond_both}
use Rattle.std.proofs.lemmas.List.Sums.{sum_by-cons}
use Rattle.pick_problem.specs.Problem.{PlainProblem}
use Rattle.search_run.specs.Step.{PlainStep}
use Rattle.wide_check.specs.Wide.{IsWideBest, IsWideProblem}
use Rattle.wide_search.specs.WideWalk.{Walk, try_once, walk}
use Rattle.wide_search.proofs.KeptLaws.{walk_best}
use Rattle.wide_plan.specs.Claims.{AreEmpty, IsUsedUp, open_walk, spent_on}
use Rattle.wide_plan.specs.Rows.{PlainRows, PlainWideSection, done_at, rows_after}
use Rattle.wide_plan.specs.declared.rows.RowsEnd.TheVariants.{Open}
use Rattle.wide_plan.proofs.EndLaws.{IsOver, all_tried, settled, start_tries}

-- ---- a walk that is done takes its tries

exact : (p : PlainProblem) (n : ℕ) → (walk p n).done ≡ true → walk p (walk p n).tries ≡ walk p n
exact p zero over = ap (walk p) (start_tries p)
exact p (suc n) over =
    let v : Walk = walk p n in
    cond_both v.done v (try_once p v) (λ (w : Walk). w.done ≡ true → walk p w.tries ≡ w)
    (λ _. exact p n)
    (λ going _. let e : v.tries + 1 ≡ suc n = omega (arith, all_tried p n going) in ap (walk p) e ∙ ap (λ (b : Bool). cond b v (try_once p v)) going)
    over

within : (p : PlainProblem) (n k : ℕ) → (walk p n).done ≡ true → (walk p n).tries ≤ k → walk p k ≡ walk p n
within p n k over le =
    let same = exact p n over in
    settled p (walk p n).tries k le (ap (λ (w : Walk). w.done) same ∙ over) ∙ same

over_before : (n k : ℕ) (steps : List PlainStep) → spent_on n steps ≤ k → AllByRecursion (IsOver n) steps → AllByRecursion (IsOver k) steps
over_before n k [] le over = tt
over_before n k (x ∷ steps) le over =
    let cons = sum_by-cons (λ (y : PlainStep). (walk y.problem n).tries) x steps in
    (ap (λ (w : Walk). w.done) (within x.problem n k over.0 (omega (arith, cons, le))) ∙ over.0, over_before n k steps (omega (arith, cons, le)) over.1)

spent_before : (n k : ℕ) (steps : List PlainStep) → spent_on n steps ≤ k → AllByRecursion (IsOver n) steps → spent_on k steps ≡ spent_on n steps
spent_before n k [] le over = refl
spent_before n k (x ∷ steps) le over =
    let cons = sum_by-cons (λ (y : PlainStep). (walk y.problem n).tries) x steps in
    let here = ap (λ (w : Walk). w.tries) (within x.problem n k over.0 (omega (arith, cons, le))) in
    omega (arith, cons, sum_by-cons (λ (y : PlainStep). (walk y.problem k).tries) x steps, here, spent_before n k steps (omega (arith, cons, le)) over.1)

-- ---- rows without a selection

none_met : (x : PlainStep) (n : ℕ) → IsWideProblem x.problem → IsWideBest x.problem None → (walk x.problem n).done ≡ true → (walk x.problem n).best ≡ None
none_met x n is empty over = by (walk x.problem n).best refl
  where
    by : (best : Option (List ℕ)) → (walk x.problem n).best ≡ best → best ≡ None
    by None e = refl
    by (Some q) e = absurd (empty q (subst (IsWideBest x.problem) e (walk_best x.problem is n over)).0)

opens : (front rest : List PlainStep) (x : PlainStep) (n : ℕ) → AllByRecursion (λ (y : PlainStep). IsWideProblem y.problem) front → AreEmpty front → AllByRecursion (IsOver n) front → spent_on n front + (walk x.problem (n - spent_on n front)).tries ≡ n → (walk x.problem (n - spent_on n front)).done ≡ false
    → (rows_after (front ++ x ∷ rest) n).end ≡ Open x.row (walk x.problem (n - spent_on n front)).best
opens [] rest x n are empty over spent going =
    let none : n - spent_on n [] ≡ n = omega arith in
    let w : Walk = walk x.problem n in
    let r : PlainRows = rows_after rest (n - w.tries) in
    let open' : w.done ≡ false = ap (λ (m : ℕ). (walk x.problem m).done) (sym none) ∙ going in
    ap (λ (b : Bool). (cond b (done_at x w r w.best) (record { closed = []; end = Open x.row w.best; tries = w.tries })).end) open'
    ∙ ap (λ (m : ℕ). Open x.row (walk x.problem m).best) (sym none)
opens (y ∷ front) rest x n are empty over spent going =
    let w : Walk = walk y.problem n in
    let k : ℕ = n - w.tries in
    let r : PlainRows = rows_after (front ++ x ∷ rest) k in
    let cons = sum_by-cons (λ (z : PlainStep). (walk z.problem n).tries) y front in
    let few : spent_on n front ≤ k = omega (arith, cons, spent) in
    let before = spent_before n k front few over.1 in
    let left : n - spent_on n (y ∷ front) ≡ k - spent_on k front = omega (arith, cons, before) in
    let same = ap (λ (m : ℕ). (walk x.problem m).tries) left in
    let again = opens front rest x k are.1 empty.1 (over_before n k front few over.1) (omega (arith, cons, before, same, spent)) (ap (λ (m : ℕ). (walk x.problem m).done) (sym left) ∙ going) in
    ap (λ (b : Bool). (cond b (done_at y w r w.best) (record { closed = []; end = Open y.row w.best; tries = w.tries })).end) over.0
    ∙ (ap (λ (o : Option (List ℕ)). (done_at y w r o).end) (none_met y n are.0 empty.0 over.0)
    ∙ (again
    ∙ ap (λ (m : ℕ). Open x.row (walk x.problem m).best) (sym left)))

front_are : (P : PlainStep → Type 0) (front rest : List PlainStep) → AllByRecursion P (front ++ rest) → AllByRecursion P front
front_are P [] rest h = tt
front_are P (x ∷ front) rest h = (h.0, front_are P front rest h.1)

pub used_up_ends : (steps : List PlainStep) (n : ℕ) (closed : List PlainWideSection) (tries : ℕ) → AllByRecursion (λ (y : PlainStep). IsWideProblem y.problem) steps → (u : IsUsedUp steps n closed tries) → (rows_after steps n).end ≡ Open u.step.row (open_walk steps n closed tries u).best
used_up_ends steps n closed tries are u =
    let here = subst (AllByRecursion (λ (y : PlainStep). IsWideProblem y.problem)) u.parts are in
    ap (λ (xs : List PlainStep). (rows_after xs n).end) u.parts
    ∙ opens u.front u.rest u.step n (front_are (λ (y : PlainStep). IsWideProblem y.problem) u.front (u.step ∷ u.rest) here) u.empty u.over u.spent u.going
