-- Tries don't depend on what was written and tried before, and each counts once.
use Rattle.std.specs.Prelude.{◌≡◌, ℕ, zero, suc, ◌+◌, ◌-◌, ◌≤◌, List, [], ◌∷◌, ◌++◌}
use Rattle.std.proofs.Common.{arith, refl, sym, ap, ◌∙◌, append_assoc}
use Rattle.std.proofs.lemmas.List.{append-nil}
use Rattle.pick_problem.specs.declared.position.Position.{Position}
use Rattle.pick_problem.specs.declared.token.Token.{Token}
use Rattle.pick_problem.specs.declared.token.Token.TheVariants.{Enter}
use Rattle.pick_problem.specs.Problem.{PlainProblem}
use Rattle.pick_problem.specs.Walk.{Walk, Rule, after_tries, rule, try_once, upward, way_of}
use Rattle.pick_problem.specs.Standing.{afresh, grafted, position_of, walk_at}
use Rattle.pick_problem.proofs.Deciding.{by_test, if_cases, if_true, if_false}
use Rattle.pick_problem.proofs.TryStepLaws.{one_more, all_made}
use Rattle.pick_problem.proofs.WayLaws.{upward_reverse, reverse_upward}

abbrev with_tokens : Walk → List Token → ℕ → Walk
with_tokens w tokens tries = record { stack = w.stack; next = w.next; best = w.best; tries = tries; done = w.done; tokens = tokens }

try_grafted : (p : PlainProblem) (ks : List Token) (m : ℕ) (w : Walk) →
    try_once p (grafted ks m w) ≡ grafted ks m (try_once p w)
try_grafted p ks m w =
    let r : Rule = rule p w.best (upward (w.next ∷ w.stack)) w.next in
    let written : List Token = Enter ∷ (way_of p w.stack w.next r).tokens in
    let tokens : (ks ++ w.tokens) ++ written ≡ ks ++ (w.tokens ++ written) = append_assoc ks w.tokens written in
    let tries : m + w.tries + 1 ≡ m + (w.tries + 1) = omega arith in
    ap (λ (ls : List Token). with_tokens (try_once p w) ls (m + w.tries + 1)) tokens ∙ ap (λ (n : ℕ). with_tokens (try_once p w) (ks ++ (w.tokens ++ written)) n) tries

more_grafted : (p : PlainProblem) (ks : List Token) (m : ℕ) (w : Walk) →
    one_more p (grafted ks m w) ≡ grafted ks m (one_more p w)
more_grafted p ks m w =
    by_test (one_more p (grafted ks m w) ≡ grafted ks m (one_more p w)) w.done
    (λ e. if_true w.done (grafted ks m w) (try_once p (grafted ks m w)) e ∙ ap (grafted ks m) (sym (if_true w.done w (try_once p w) e)))
    (λ e.
    if_false w.done (grafted ks m w) (try_once p (grafted ks m w)) e
    ∙ (try_grafted p ks m w ∙ ap (grafted ks m) (sym (if_false w.done w (try_once p w) e))))

-- after other tokens and tries a walk goes on the same
pub grafted_goes_on : (p : PlainProblem) (ks : List Token) (m : ℕ) (w : Walk) (n : ℕ) →
    after_tries p (grafted ks m w) n ≡ grafted ks m (after_tries p w n)
grafted_goes_on p ks m w zero = refl
grafted_goes_on p ks m w (suc n) = ap (one_more p) (grafted_goes_on p ks m w n) ∙ more_grafted p ks m (after_tries p w n)

-- each walk is a fresh one after its tokens and tries
pub grafted_afresh : (w : Walk) → grafted w.tokens w.tries (afresh w) ≡ w
grafted_afresh w =
    let tries : w.tries + 0 ≡ w.tries = omega arith in
    ap (λ (ls : List Token). with_tokens w ls (w.tries + 0)) (append-nil w.tokens) ∙ ap (λ (n : ℕ). with_tokens w w.tokens n) tries

-- so what tries write and count is what they write and count afresh
pub afresh_goes_on : (p : PlainProblem) (w : Walk) (n : ℕ) →
    after_tries p w n ≡ grafted w.tokens w.tries (after_tries p (afresh w) n)
afresh_goes_on p w n = ap (λ (v : Walk). after_tries p v n) (sym (grafted_afresh w)) ∙ grafted_goes_on p w.tokens w.tries (afresh w) n

-- two walks at one place go on alike, whatever was written and tried
pub same_afresh : (p : PlainProblem) (v w : Walk) (n : ℕ) → afresh v ≡ afresh w →
    afresh (after_tries p v n) ≡ afresh (after_tries p w n)
same_afresh p v w n e =
    let there : (u : Walk) → afresh (after_tries p u n) ≡ afresh (after_tries p (afresh u) n) = λ u. ap afresh (afresh_goes_on p u n) in
    there v ∙ (ap (λ (u : Walk). afresh (after_tries p u n)) e ∙ sym (there w))

-- ---- tries that are made

-- at most those granted are made
pub tries_within : (p : PlainProblem) (w : Walk) (n : ℕ) →
    (w.tries ≤ (after_tries p w n).tries) × ((after_tries p w n).tries ≤ w.tries + n)
tries_within p w zero = (omega arith, omega arith)
tries_within p w (suc n) =
    let v : Walk = after_tries p w n in
    let old : (w.tries ≤ v.tries) × (v.tries ≤ w.tries + n) = tries_within p w n in
    if_cases (λ (x : Walk). (w.tries ≤ x.tries) × (x.tries ≤ w.tries + suc n)) v.done v (try_once p v)
    (λ e. (old.0, omega (arith, old.1)))
    (λ e. (omega (arith, old.0), omega (arith, old.1)))

-- with as many granted as were made a walk stands there too
pub as_many : (p : PlainProblem) (w : Walk) (n : ℕ) →
    after_tries p w ((after_tries p w n).tries - w.tries) ≡ after_tries p w n
as_many p w zero = let e : w.tries - w.tries ≡ 0 = omega arith in ap (after_tries p w) e
as_many p w (suc n) =
    let v : Walk = after_tries p w n in
    let old : after_tries p w (v.tries - w.tries) ≡ v = as_many p w n in
    by_test (after_tries p w ((after_tries p w (suc n)).tries - w.tries) ≡ after_tries p w (suc n)) v.done
    (λ e.
    let same : after_tries p w (suc n) ≡ v = if_true v.done v (try_once p v) e in
    ap (λ (u : Walk). after_tries p w (u.tries - w.tries)) same ∙ (old ∙ sym same))
    (λ e.
    let next : after_tries p w (suc n) ≡ try_once p v = if_false v.done v (try_once p v) e in
    let made : (try_once p v).tries ≡ w.tries + suc n = omega (arith, all_made p w n e) in
    let count : (after_tries p w (suc n)).tries - w.tries ≡ suc n = omega (arith, made, ap (λ (u : Walk). u.tries) next) in
    ap (after_tries p w) count)

-- ---- positions

pub position_at : (q : Position) (tokens : List Token) → position_of (walk_at q tokens) ≡ q
position_at q tokens = ap (λ (chosen : List ℕ). record { chosen = chosen; next = q.next; best = q.best; tries = q.tries; done = q.done }) (upward_reverse q.chosen)

pub walk_at_position : (w : Walk) → walk_at (position_of w) w.tokens ≡ w
walk_at_position w = ap (λ (stack : List ℕ). record { stack = stack; next = w.next; best = w.best; tries = w.tries; done = w.done; tokens = w.tokens }) (reverse_upward w.stack)

-- where tries lead is a matter of the position alone
pub same_position : (p : PlainProblem) (q : Position) (ks ls : List Token) (n : ℕ) →
    position_of (after_tries p (walk_at q ks) n) ≡ position_of (after_tries p (walk_at q ls) n)
same_position p q ks ls n =
    let there : (ms : List Token) → position_of (after_tries p (walk_at q ms) n) ≡ position_of (grafted [] q.tries (after_tries p (afresh (walk_at q [])) n)) = λ ms.
    ap position_of (afresh_goes_on p (walk_at q ms) n) in
    there ks ∙ sym (there ls)
