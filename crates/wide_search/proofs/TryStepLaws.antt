-- Tries in pieces.
use Rattle.std.specs.Prelude.{◌≡◌, ℕ, zero, suc, ◌+◌, ◌≤◌, true, false, List, [], ◌∷◌, ◌++◌, if◌then◌else◌}
use Rattle.std.proofs.Common.{arith, refl, sym, ap, ◌∙◌, append_assoc}
use Rattle.std.proofs.lemmas.List.{append-nil}
use Rattle.wide_check.specs.declared.token.WideToken.{WideToken}
use Rattle.wide_check.specs.declared.token.WideToken.TheVariants.{Enter}
use Rattle.pick_problem.specs.Problem.{PlainProblem}
use Rattle.pick_problem.specs.Walk.{upward}
use Rattle.wide_search.specs.WideWalk.{Walk, Rule, after_tries, rule, start, try_once, walk, way_of}
use Rattle.pick_problem.proofs.Deciding.{if_cases, if_true}

-- one more try, or none where the walk is done
abbrev pub one_more : PlainProblem → Walk → Walk
one_more p w = if w.done then w else try_once p w

pub after_pieces : (p : PlainProblem) (w : Walk) (n m : ℕ) → after_tries p (after_tries p w n) m ≡ after_tries p w (n + m)
after_pieces p w n zero = let e : n + 0 ≡ n = omega arith in ap (after_tries p w) (sym e)
after_pieces p w n (suc m) = let e : n + suc m ≡ suc (n + m) = omega arith in ap (one_more p) (after_pieces p w n m) ∙ ap (after_tries p w) (sym e)

pub after_done : (p : PlainProblem) (w : Walk) (n : ℕ) → w.done ≡ true → after_tries p w n ≡ w
after_done p w zero h = refl
after_done p w (suc n) h = ap (one_more p) (after_done p w n h) ∙ if_true w.done w (try_once p w) h

pub walk_pieces : (p : PlainProblem) (n m : ℕ) → after_tries p (walk p n) m ≡ walk p (n + m)
walk_pieces p n m = after_pieces p (start p) n m

-- a walk that isn't done made each try
pub all_made : (p : PlainProblem) (w : Walk) (n : ℕ) → (after_tries p w n).done ≡ false → (after_tries p w n).tries ≡ w.tries + n
all_made p w zero e = omega arith
all_made p w (suc n) e =
    let v : Walk = after_tries p w n in
    let old = all_made p w n in
    if_cases (λ (x : Walk). x.done ≡ false → x.tries ≡ w.tries + suc n) v.done v (try_once p v)
    (λ f g. absurd (let h : true ≡ false = sym f ∙ g in cc))
    (λ f g. omega (arith, old f))
    e

-- tries only append tokens
pub appended : (p : PlainProblem) (w : Walk) (n : ℕ) → (more : List WideToken) × ((after_tries p w n).tokens ≡ w.tokens ++ more)
appended p w zero = ([], sym (append-nil w.tokens))
appended p w (suc n) =
    let v : Walk = after_tries p w n in
    let old = appended p w n in
    if_cases (λ (x : Walk). (more : List WideToken) × (x.tokens ≡ w.tokens ++ more)) v.done v (try_once p v)
    (λ e. old)
    (λ e.
    let r : Rule = rule p v.best (upward (v.next ∷ v.stack)) v.next in
    let written : List WideToken = Enter ∷ (way_of p v.stack v.next r).tokens in
    (old.0 ++ written, ap (λ (ks : List WideToken). ks ++ written) old.1 ∙ append_assoc w.tokens old.0 written))

-- at most those granted are made
pub tries_within : (p : PlainProblem) (w : Walk) (n : ℕ) →
    (w.tries ≤ (after_tries p w n).tries) × ((after_tries p w n).tries ≤ w.tries + n)
tries_within p w zero = (omega arith, omega arith)
tries_within p w (suc n) =
    let v : Walk = after_tries p w n in
    let old : (w.tries ≤ v.tries) × (v.tries ≤ w.tries + n) = tries_within p w n in
    if_cases (λ (x : Walk). (w.tries ≤ x.tries) × (x.tries ≤ w.tries + suc n)) v.done v (try_once p v)
    (λ e. (old.0, omega (arith, old.1)))
    (λ e. (omega (arith, old.0), omega (arith, old.1)))
