-- The best so far, by its waste.
use Rattle.std.specs.Prelude.{◌≡◌, ℕ, true, false, List, ℤ, ◌<ℤ◌, ◌≤ℤ◌, int_le, int_lt, Option, Some, None}
use Rattle.std.proofs.Common.{arith, sym, ap, ◌∙◌}
use Rattle.std.proofs.lemmas.Int.{ints}
use Rattle.pick_problem.specs.Problem.{PlainProblem}
use Rattle.pick_problem.proofs.Deciding.{if_false, if_true}
use Rattle.wide_check.specs.Wide.{waste_of}
use Rattle.wide_check.specs.WideSteps.{least_waste}
use Rattle.wide_search.specs.declared.best.Best.{Best}
use Rattle.wide_search.specs.Best.{IsBestSoFar, plain_best}
use Rattle.wide_search.specs.WideWalk.{better, is_wasteful}

pub found_is : (b : Best) → b.found ≡ true → plain_best b ≡ Some b.places.items
found_is b e = if_true b.found (Some b.places.items) None e

pub none_is : (b : Best) → b.found ≡ false → plain_best b ≡ None
none_is b e = if_false b.found (Some b.places.items) None e

-- ---- the rule that looks at the best

pub wasteful_never : (p : PlainProblem) (b : Best) (q : List ℕ) (t : ℕ) → b.found ≡ false →
    false ≡ is_wasteful p (plain_best b) q t
wasteful_never p b q t e = sym (ap (λ (o : Option (List ℕ)). is_wasteful p o q t) (none_is b e))

pub wasteful_by : (p : PlainProblem) (b : Best) (q : List ℕ) (t : ℕ) (least : ℤ) → IsBestSoFar p b → b.found ≡ true →
    least ≡ least_waste p q t → int_le b.waste least ≡ is_wasteful p (plain_best b) q t
wasteful_by p b q t least is e same =
    ap (λ (z : ℤ). int_le z least) (is.waste e)
    ∙ (ap (int_le (waste_of p b.places.items)) same
    ∙ sym (ap (λ (o : Option (List ℕ)). is_wasteful p o q t) (found_is b e)))

-- ---- what a hit makes of it

int_lt_no : (x y : ℤ) → y ≤ℤ x → int_lt x y ≡ false
int_lt_no x y l = grind (arith, ints)

int_lt_yes : (x y : ℤ) → x <ℤ y → int_lt x y ≡ true
int_lt_yes x y l = grind (arith, ints)

-- it stays where it wastes no more
pub best_stays : (p : PlainProblem) (b : Best) (q : List ℕ) (waste : ℤ) → IsBestSoFar p b → b.found ≡ true →
    waste ≡ waste_of p q → b.waste ≤ℤ waste → plain_best b ≡ better p (plain_best b) q
best_stays p b q waste is e same l =
    let less : waste_of p b.places.items ≤ℤ waste_of p q = omega (arith, ints, is.waste e, same, l) in
    found_is b e
    ∙ sym (ap (λ (o : Option (List ℕ)). better p o q) (found_is b e)
    ∙ if_false (int_lt (waste_of p q) (waste_of p b.places.items)) (Some q) (Some b.places.items)
    (int_lt_no (waste_of p q) (waste_of p b.places.items) less))

-- the list becomes the best where there is none, or where it wastes less
pub best_first : (p : PlainProblem) (b : Best) (q : List ℕ) → b.found ≡ false → Some q ≡ better p (plain_best b) q
best_first p b q e = sym (ap (λ (o : Option (List ℕ)). better p o q) (none_is b e))

pub best_less : (p : PlainProblem) (b : Best) (q : List ℕ) (waste : ℤ) → IsBestSoFar p b → b.found ≡ true →
    waste ≡ waste_of p q → waste <ℤ b.waste → Some q ≡ better p (plain_best b) q
best_less p b q waste is e same l =
    let less : waste_of p q <ℤ waste_of p b.places.items = omega (arith, ints, is.waste e, same, l) in
    sym (ap (λ (o : Option (List ℕ)). better p o q) (found_is b e)
    ∙ if_true (int_lt (waste_of p q) (waste_of p b.places.items)) (Some q) (Some b.places.items)
    (int_lt_yes (waste_of p q) (waste_of p b.places.items) less))
