-- Scores by sums.
use Rattle.std.specs.Prelude.{◌≡◌, ℕ, ◌+◌, ◌-◌, ◌≤◌, ◌==◌, ◌&&◌, ◌||◌, Bool, true, false, List, ℤ, pos, ◌+ℤ◌, int_lt}
use Rattle.std.specs.Prelude.{nat_lt, Option, Some, None}
use Rattle.std.specs.Ordering.{int_eq}
use Rattle.std.proofs.Common.{arith, refl, sym, ap, ◌∙◌}
use Rattle.std.proofs.lemmas.Int.{ints}
use Rattle.std.proofs.lemmas.Bool.Decides.{nat_tests, Decides-int_eq}
use Rattle.pick_problem.specs.declared.item.Kind.TheVariants.{Changeless, Lean}
use Rattle.pick_problem.specs.Pool.{item_at}
use Rattle.pick_problem.specs.Problem.{PlainProblem, value_of, weight_of, cost_of}
use Rattle.pick_problem.specs.Score.{score_by, score_of}
use Rattle.pick_problem.specs.Walk.{IsHit, best_of, score_below}
use Rattle.pick_problem.proofs.Deciding.{by_test, eq_yes, if_false, if_true}
use Rattle.walk_engine.specs.declared.best.Best.{Best}
use Rattle.walk_engine.specs.declared.best.Sums.{Sums}
use Rattle.walk_engine.specs.declared.stack.Stack.{Stack}
use Rattle.walk_engine.specs.Best.{HasSums, plain_best}
use Rattle.walk_engine.specs.Stack.{IsStack, with_place}
use Rattle.walk_engine.proofs.CaseLaws.{same_lt, value_with}

or_never : (a b : Bool) → (a || (b && false)) ≡ a
or_never true b = refl
or_never false true = refl
or_never false false = refl

pub lower_changeless : (p : PlainProblem) (x y : List ℕ) (a b : Sums) → HasSums p x a → HasSums p y b →
    int_lt a.waste b.waste ≡ score_below (score_by Changeless p x) (score_by Changeless p y)
lower_changeless p x y a b ha hb =
    let first = (score_by Changeless p x).first in
    let second = (score_by Changeless p y).first in
    let same : int_lt a.waste b.waste ≡ int_lt first second = ap (λ (z : ℤ). int_lt z b.waste) ha.waste
    ∙ ap (λ (z : ℤ). int_lt first z) hb.waste in
    same ∙ sym (or_never (int_lt first second) (int_eq first second))

same_eq : (m n : ℕ) → (m == n) ≡ int_eq (pos m) (pos n)
same_eq m n =
    by_test ((m == n) ≡ int_eq (pos m) (pos n)) (m == n)
    (λ y. y ∙ sym ((Decides-int_eq (pos m) (pos n)).1 (ap pos (eq_yes m n y))))
    (λ y. by_test ((m == n) ≡ int_eq (pos m) (pos n)) (int_eq (pos m) (pos n))
    (λ z. let e : pos m ≡ pos n = (Decides-int_eq (pos m) (pos n)).0 z in let same : m ≡ n = cc in absurd
    (let yes_eq : (m == n) ≡ true = grind (arith, nat_tests) in let no_eq : true ≡ false = sym yes_eq ∙ y in cc))
    (λ z. y ∙ sym z))

pub lower_lean : (p : PlainProblem) (x y : List ℕ) (a b : Sums) → HasSums p x a → HasSums p y b →
    (nat_lt a.weight b.weight || ((a.weight == b.weight) && nat_lt a.excess b.excess)) ≡ score_below
    (score_by Lean p x) (score_by Lean p y)
lower_lean p x y a b ha hb =
    let excess : nat_lt a.excess b.excess ≡ nat_lt (value_of p x) (value_of p y) = same_lt a.excess b.excess
    (value_of p x) (value_of p y) (λ l. omega (arith, ha.excess, hb.excess, l)) (λ l. omega
    (arith, ha.excess, hb.excess, l)) in
    ap (λ (c : Bool). nat_lt a.weight b.weight || ((a.weight == b.weight) && c)) excess
    ∙ (ap (λ (n : ℕ). nat_lt n b.weight || ((n == b.weight) && nat_lt (value_of p x) (value_of p y))) ha.weight
    ∙ (ap (λ (n : ℕ). nat_lt (weight_of p x) n || ((weight_of p x == n) && nat_lt (value_of p x)
    (value_of p y))) hb.weight
    ∙ ap (λ (c : Bool). nat_lt (weight_of p x) (weight_of p y) || (c && nat_lt (value_of p x) (value_of p y)))
    (same_eq (weight_of p x) (weight_of p y))))

-- the sums of places that reach lo
pub sums_are : (p : PlainProblem) (s : Stack) (t : ℕ) (sums : Sums) → IsStack p t s →
    s.gap ≤ (item_at p.items t).value → sums.waste ≡ cost_of p (with_place s t) +ℤ pos (value_of p
    (with_place s t) - p.lo) → sums.weight ≡ weight_of p (with_place s t) →
    sums.excess ≡ (item_at p.items t).value - s.gap → HasSums p (with_place s t) sums
sums_are p s t sums is reaches waste weight excess =
    let v : value_of p (with_place s t) + s.gap ≡ p.lo + (item_at p.items t).value = value_with p s t is in
    record {
      waste = omega (arith, ints, v, waste, reaches);
      weight = weight;
      excess = omega (arith, v, reaches, excess);
    }

pub sums_of : (p : PlainProblem) (q : List ℕ) (sums : Sums) → sums.waste ≡ cost_of p q +ℤ pos sums.excess →
    sums.weight ≡ weight_of p q → p.lo + sums.excess ≡ value_of p q → HasSums p q sums
sums_of p q sums waste weight excess = record {
  waste = omega
      (arith, ints, waste, excess);
  weight = weight;
  excess = excess;
}

-- the best stays where a hit has no lower score
pub best_stays : (p : PlainProblem) (b : Best) (q : List ℕ) → b.found ≡ true →
    score_below (score_of p q) (score_of p b.places.items) ≡ false → best_of p (plain_best b) q IsHit ≡ plain_best b
best_stays p b q e same =
    let found : plain_best b ≡ Some b.places.items = if_true b.found (Some b.places.items) None e in
    ap (λ (o : Option (List ℕ)). best_of p o q IsHit) found
    ∙ (if_false (score_below (score_of p q) (score_of p b.places.items)) (Some q) (Some b.places.items) same
    ∙ sym found)
