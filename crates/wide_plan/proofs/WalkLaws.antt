-- The walk of a row, in pieces.
use Rattle.std.specs.Prelude.{ℕ, ◌≡◌, ◌≤◌, ◌+◌, ◌-◌, Bool, true, List, Option, Some, None, cond}
use Rattle.std.proofs.Common.{sym, ap, ◌∙◌, arith}
use Rattle.pick_problem.specs.Problem.{PlainProblem}
use Rattle.wide_search.specs.Search.{PlainWide, after, begun, letters}
use Rattle.wide_search.specs.WideWalk.{Walk, after_tries, walk}
use Rattle.wide_search.proofs.TryStepLaws.{after_done, after_pieces}
use Rattle.wide_plan.specs.Walked.{PlainWalked, walked_of}

-- of n tries of a walk some are left
pub record IsTrying (old : PlainWide) (n left : ℕ) (now : PlainWide) (done : Bool) : Type 0 where
  pub most : left ≤ n
  pub problem : now.problem ≡ old.problem
  pub walk : now.walk ≡ after_tries old.problem old.walk (n - left)
  pub done_is : done ≡ now.walk.done

pub tries_begin : (old now : PlainWide) (n : ℕ) (done : Bool) → now ≡ after old 0 → done ≡ now.walk.done → IsTrying old n n now done
tries_begin old now n done is d =
    let e : 0 ≡ n - n = omega arith in
    record {
      most = omega arith;
      problem = ap (λ (s : PlainWide). s.problem) is;
      walk = ap (λ (s : PlainWide). s.walk) is ∙ ap (after_tries old.problem old.walk) e;
      done_is = d;
    }

module _ (old now middle later : PlainWide) (n left piece : ℕ) (done done' : Bool) where
  pub tries_more : IsTrying old n left now done → piece ≤ left → middle ≡ record now { spare = middle.spare } → later ≡ after middle piece → done' ≡ later.walk.done → IsTrying old n (left - piece) later done'
  tries_more h few roomy is d =
      let p = old.problem in
      let same : middle.problem ≡ p = ap (λ (s : PlainWide). s.problem) roomy ∙ h.problem in
      let there : middle.walk ≡ after_tries p old.walk (n - left) = ap (λ (s : PlainWide). s.walk) roomy ∙ h.walk in
      let e : (n - left) + piece ≡ n - (left - piece) = omega (arith, few, h.most) in
      record {
        most = omega (arith, h.most);
        problem = ap (λ (s : PlainWide). s.problem) is ∙ same;
        walk =
            ap (λ (s : PlainWide). s.walk) is
            ∙ (ap (λ (x : PlainProblem). after_tries x middle.walk piece) same
            ∙ (ap (λ (w : Walk). after_tries p w piece) there
            ∙ (after_pieces p old.walk (n - left) piece ∙ ap (after_tries p old.walk) e)));
        done_is = d;
      }

-- all were made
pub tried_all : (old now : PlainWide) (n left : ℕ) (done : Bool) → IsTrying old n left now done → left ≡ 0 → now.walk ≡ (after old n).walk
tried_all old now n left done h none = let e : n - left ≡ n = omega (arith, none) in h.walk ∙ ap (after_tries old.problem old.walk) e

-- or the walk is done
pub tried_over : (old now : PlainWide) (n left : ℕ) (done : Bool) → IsTrying old n left now done → done ≡ true → now.walk ≡ (after old n).walk
tried_over old now n left done h over =
    let p = old.problem in
    let there : Walk = after_tries p old.walk (n - left) in
    let is_over : there.done ≡ true = ap (λ (w : Walk). w.done) (sym h.walk) ∙ (sym h.done_is ∙ over) in
    let e : (n - left) + left ≡ n = omega (arith, h.most) in
    h.walk ∙ (sym (after_done p there left is_over) ∙ (after_pieces p old.walk (n - left) left ∙ ap (after_tries p old.walk) e))

-- the row, from what the walk was asked
pub row_walked : (p : PlainProblem) (n : ℕ) (begun' now : PlainWide) (made : ℕ) (best : Option (List ℕ)) (tree : Option (List ℕ)) (done : Bool) → begun' ≡ begun p → now.walk ≡ (after begun' n).walk → done ≡ now.walk.done → made ≡ now.walk.tries → best ≡ now.walk.best → tree ≡ (cond done (Some (letters now)) None)
    → ◌≡◌ {A = PlainWalked} (record { made = made; best = best; tree = tree }) (walked_of (walk p n))
row_walked p n begun' now made best tree done from is over m b t =
    let w : now.walk ≡ walk p n = is ∙ ap (λ (s : PlainWide). (after s n).walk) from in
    ap (λ (x : ℕ). record { made = x; best = best; tree = tree }) m
    ∙ (ap (λ (x : Option (List ℕ)). record { made = now.walk.tries; best = x; tree = tree }) b
    ∙ (ap (λ (x : Option (List ℕ)). record { made = now.walk.tries; best = now.walk.best; tree = x }) (t ∙ ap (λ (x : Bool). cond x (Some (letters now)) None) over)
    ∙ ap walked_of w))
