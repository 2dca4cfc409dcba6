-- The order in which a tree meets lists: its test.
use Rattle.std.specs.Prelude.{◌≡◌, ℕ, ◌<◌, ◌==◌, Bool, true, false, List, [], ◌∷◌, if◌then◌else◌, nat_lt}
use Rattle.std.proofs.Common.{arith, refl, ap, subst, inl, inr}
use Rattle.std.proofs.lemmas.Bool.Decides.{nat_tests}
use Rattle.pick_problem.proofs.Deciding.{eq_yes, if_cases, lt_yes}
use Rattle.wide_check.specs.Wide.{IsMetBefore, is_met_before}

pub met_less : (x y : ℕ) (a b : List ℕ) → x < y → is_met_before (x ∷ a) (y ∷ b) ≡ true
met_less x y a b l = let t : nat_lt x y ≡ true = grind (arith, nat_tests) in rw t refl

pub met_more : (x : ℕ) (a b : List ℕ) → is_met_before a b ≡ true → is_met_before (x ∷ a) (x ∷ b) ≡ true
met_more x a b h =
    let t : nat_lt x x ≡ false = grind (arith, nat_tests) in
    let e : (x == x) ≡ true = grind (arith, nat_tests) in
    rw (t, e) h

-- two lists that begin alike
pub more_front : (x : ℕ) (a b : List ℕ) → IsMetBefore a b → IsMetBefore (x ∷ a) (x ∷ b)
more_front x a b h =
    elim h [
      | inl g ↦ inl (record { place = g.place; more = g.more; is = ap (λ (r : List ℕ). x ∷ r) g.is })
      | inr g ↦
          inr (record {
            front = x ∷ g.front;
            place = g.place;
            other = g.other;
            rest = g.rest;
            behind = g.behind;
            first = ap (λ (r : List ℕ). x ∷ r) g.first;
            second = ap (λ (r : List ℕ). x ∷ r) g.second;
            smaller = g.smaller;
          })
    ]

pub less_front : (x y : ℕ) (a b : List ℕ) → x < y → IsMetBefore (x ∷ a) (y ∷ b)
less_front x y a b l = inr (record { front = []; place = x; other = y; rest = a; behind = b; first = refl; second = refl; smaller = l })

-- what the test says
pub met_by_test : (a b : List ℕ) → is_met_before a b ≡ true → IsMetBefore a b
met_by_test [] [] h = absurd (cc)
met_by_test [] (y ∷ b) h = inl (record { place = y; more = b; is = refl })
met_by_test (x ∷ a) [] h = absurd (cc)
met_by_test (x ∷ a) (y ∷ b) h =
    let rest = met_by_test a b in
    if_cases (λ (v : Bool). v ≡ true → IsMetBefore (x ∷ a) (y ∷ b)) (nat_lt x y) true (if x == y then is_met_before a b else false)
    (λ less _. less_front x y a b (lt_yes x y less))
    (λ more. if_cases (λ (v : Bool). v ≡ true → IsMetBefore (x ∷ a) (y ∷ b)) (x == y) (is_met_before a b) false
    (λ same k.
    let e : x ≡ y = eq_yes x y same in
    subst (λ (z : ℕ). IsMetBefore (x ∷ a) (z ∷ b)) e (more_front x a b (rest k)))
    (λ other k. absurd (cc)))
    h
