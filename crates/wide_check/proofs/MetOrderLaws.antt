-- Being met before is a strict total order, its test is right, and one list is the best.
use Rattle.std.specs.Prelude.{◌≡◌, ℕ, ◌<◌, ◌⊎◌, ◌↔◌, true, IsTrue, List, [], ◌∷◌, ◌++◌, Option, Some, None}
use Rattle.std.proofs.Common.{arith, rules, refl, sym, ap, subst, inl, inr, ◌∙◌}
use Rattle.std.proofs.lemmas.Bool.{cases_lt}
use Rattle.std.proofs.lemmas.Int.{ints}
use Rattle.pick_problem.specs.Problem.{PlainProblem}
use Rattle.wide_check.specs.Wide.{IsMetBefore, IsWideBest, IsWideBetter, is_met_before}
use Rattle.wide_check.proofs.MetLaws.{less_front, met_by_test, met_less, met_more, more_front}

nothing : (front : List ℕ) (x : ℕ) (xs : List ℕ) → [] ≡ front ++ x ∷ xs → ⊥
nothing [] x xs e = cc
nothing (y ∷ front) x xs e = cc

-- a list that goes on from another by front and place
test_goes_on : (a : List ℕ) (x : ℕ) (xs : List ℕ) → is_met_before a (a ++ x ∷ xs) ≡ true
test_goes_on [] x xs = refl
test_goes_on (y ∷ a) x xs = met_more y a (a ++ x ∷ xs) (test_goes_on a x xs)

test_smaller : (front : List ℕ) (x y : ℕ) (xs ys : List ℕ) → x < y → is_met_before (front ++ x ∷ xs) (front ++ y ∷ ys) ≡ true
test_smaller [] x y xs ys l = met_less x y xs ys l
test_smaller (z ∷ front) x y xs ys l = met_more z (front ++ x ∷ xs) (front ++ y ∷ ys) (test_smaller front x y xs ys l)

pub test_of_met : (a b : List ℕ) → IsMetBefore a b → is_met_before a b ≡ true
test_of_met a b h =
    elim h [
      | inl g ↦ subst (λ (r : List ℕ). is_met_before a r ≡ true) (sym g.is) (test_goes_on a g.place g.more)
      | inr g ↦
          subst (λ (r : List ℕ). is_met_before r b ≡ true) (sym g.first)
          (subst (λ (r : List ℕ). is_met_before (g.front ++ g.place ∷ g.rest) r ≡ true) (sym g.second) (test_smaller g.front g.place g.other g.rest g.behind g.smaller))
    ]

pub met_means : (a b : List ℕ) → IsTrue (is_met_before a b) ↔ IsMetBefore a b
met_means a b = (λ h. met_by_test a b (search rules), λ h. let t : is_met_before a b ≡ true = test_of_met a b h in search rules)

-- what the first places say of two lists that are met in order
pub record Heads (x : ℕ) (a : List ℕ) (y : ℕ) (b : List ℕ) : Type 0 where
  pub cases : (x < y) ⊎ ((x ≡ y) × IsMetBefore a b)

same_head : (x y : ℕ) (a b : List ℕ) → x ∷ a ≡ y ∷ b → x ≡ y
same_head x y a b e = cc

same_tail : (x y : ℕ) (a b : List ℕ) → x ∷ a ≡ y ∷ b → a ≡ b
same_tail x y a b e = cc

heads_of : (x y : ℕ) (a b front : List ℕ) (i j : ℕ) (rest behind : List ℕ) → x ∷ a ≡ front ++ i ∷ rest → y ∷ b ≡ front ++ j ∷ behind → i < j → Heads x a y b
heads_of x y a b [] i j rest behind e f l =
    record { cases = inl (omega (arith, same_head x i a rest e, same_head y j b behind f, l)) }
heads_of x y a b (z ∷ front) i j rest behind e f l =
    record {
      cases =
          inr (
            same_head x z a (front ++ i ∷ rest) e ∙ sym (same_head y z b (front ++ j ∷ behind) f),
            inr (record {
              front = front;
              place = i;
              other = j;
              rest = rest;
              behind = behind;
              first = same_tail x z a (front ++ i ∷ rest) e;
              second = same_tail y z b (front ++ j ∷ behind) f;
              smaller = l;
            }),
          );
    }

heads : (x y : ℕ) (a b : List ℕ) → IsMetBefore (x ∷ a) (y ∷ b) → Heads x a y b
heads x y a b h =
    elim h [
      | inl g ↦
          record {
            cases =
                inr (
                  sym (same_head y x b (a ++ g.place ∷ g.more) g.is),
                  inl (record { place = g.place; more = g.more; is = same_tail y x b (a ++ g.place ∷ g.more) g.is }),
                );
          }
      | inr g ↦ heads_of x y a b g.front g.place g.other g.rest g.behind g.first g.second g.smaller
    ]

-- nothing is met before the empty list
met_last : (a : List ℕ) → IsMetBefore a [] → ⊥
met_last [] h = elim h [ inl g ↦ nothing [] g.place g.more g.is | inr g ↦ nothing g.front g.place g.rest g.first ]
met_last (x ∷ a) h = elim h [ inl g ↦ nothing (x ∷ a) g.place g.more g.is | inr g ↦ nothing g.front g.other g.behind g.second ]

pub met_irreflexive : (a : List ℕ) → IsMetBefore a a → ⊥
met_irreflexive [] h = met_last [] h
met_irreflexive (x ∷ a) h =
    let rest = met_irreflexive a in
    elim (heads x x a a h).cases [ inl l ↦ omega (arith, l) | inr e ↦ rest e.1 ]

pub met_transitive : (a b c : List ℕ) → IsMetBefore a b → IsMetBefore b c → IsMetBefore a c
met_transitive a [] c h k = absurd (met_last a h)
met_transitive a (y ∷ b) [] h k = absurd (met_last (y ∷ b) k)
met_transitive [] (y ∷ b) (z ∷ c) h k = inl (record { place = z; more = c; is = refl })
met_transitive (x ∷ a) (y ∷ b) (z ∷ c) h k =
    let rest = met_transitive a b c in
    elim (heads x y a b h).cases [
      | inl l ↦
          elim (heads y z b c k).cases [
            | inl m ↦ less_front x z a c (omega (arith, l, m))
            | inr e ↦ less_front x z a c (omega (arith, l, e.0))
          ]
      | inr e ↦
          elim (heads y z b c k).cases [
            | inl m ↦ less_front x z a c (omega (arith, m, e.0))
            | inr f ↦
                let same : x ≡ z = e.0 ∙ f.0 in
                subst (λ (w : ℕ). IsMetBefore (x ∷ a) (w ∷ c)) same (more_front x a c (rest e.1 f.1))
          ]
    ]

pub met_total : (a b : List ℕ) → IsMetBefore a b ⊎ ((a ≡ b) ⊎ IsMetBefore b a)
met_total [] [] = inr (inl refl)
met_total [] (y ∷ b) = inl (inl (record { place = y; more = b; is = refl }))
met_total (x ∷ a) [] = inr (inr (inl (record { place = x; more = a; is = refl })))
met_total (x ∷ a) (y ∷ b) =
    let rest = met_total a b in
    elim (cases_lt x y) [
      | inl l ↦ inl (less_front x y a b l)
      | inr g ↦
          elim (cases_lt y x) [
            | inl l ↦ inr (inr (less_front y x b a l))
            | inr f ↦
                let same : x ≡ y = omega (arith, g, f) in
                elim rest [
                  | inl h ↦ inl (subst (λ (w : ℕ). IsMetBefore (x ∷ a) (w ∷ b)) same (more_front x a b h))
                  | inr k ↦
                      elim k [
                        | inl e ↦ inr (inl (subst (λ (w : ℕ). x ∷ a ≡ w ∷ b) same (ap (λ (r : List ℕ). x ∷ r) e)))
                        | inr h ↦ inr (inr (subst (λ (w : ℕ). IsMetBefore (w ∷ b) (x ∷ a)) same (more_front x b a h)))
                      ]
                ]
          ]
    ]

-- ---- the best

better_both : (p : PlainProblem) (a b : List ℕ) → IsWideBetter p a b → IsWideBetter p b a → ⊥
better_both p a b h k =
    elim h [
      | inl l ↦ elim k [ inl m ↦ omega (arith, ints, l, m) | inr m ↦ omega (arith, ints, l, m.0) ]
      | inr l ↦ elim k [ inl m ↦ omega (arith, ints, l.0, m) | inr m ↦ met_irreflexive a (met_transitive a b a l.1 m.1) ]
    ]

pub one_best_is : (p : PlainProblem) (a b : Option (List ℕ)) → IsWideBest p a → IsWideBest p b → a ≡ b
one_best_is p None None h k = refl
one_best_is p None (Some b) h k = absurd (h b k.0)
one_best_is p (Some a) None h k = absurd (k a h.0)
one_best_is p (Some a) (Some b) h k =
    elim (h.1 b k.0) [
      | inl e ↦ ap (λ (r : List ℕ). Some r) (sym e)
      | inr l ↦
          elim (k.1 a h.0) [
            | inl e ↦ ap (λ (r : List ℕ). Some r) e
            | inr m ↦ absurd (better_both p a b l m)
          ]
    ]
