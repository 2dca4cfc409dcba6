-- Coming before is a strict total order, and the test of it is right for lists that rise.
use Rattle.std.specs.Prelude.{◌≡◌, ℕ, ◌+◌, ◌<◌, ◌≤◌, ◌⊎◌, ◌↔◌, ◌==◌, Bool, true, false, List, [], ◌∷◌, ◌++◌, Contains, IsTrue, if◌then◌else◌, nat_lt}
use Rattle.std.proofs.Common.{arith, rules, refl, sym, ap, subst, inl, inr}
use Rattle.std.proofs.lemmas.Bool.{cases_lt}
use Rattle.std.proofs.lemmas.Bool.Decides.{nat_tests}
use Rattle.std.proofs.lemmas.List.Elements.{Contains-push, Contains-push_cases, Contains-append_left, Contains-append_right, Contains-append_cases}
use Rattle.pick_problem.specs.Problem.{Rising}
use Rattle.pick_problem.specs.Best.{ComesBefore, comes_before}
use Rattle.pick_problem.proofs.Deciding.{if_cases}

head_in : (x : ℕ) (xs : List ℕ) → Contains (x ∷ xs) x
head_in x xs = Contains-append_left (x ∷ []) xs x (Contains-push [] x)

tail_in : (x : ℕ) (xs : List ℕ) (t : ℕ) → Contains xs t → Contains (x ∷ xs) t
tail_in x xs t h = Contains-append_right (x ∷ []) xs t h

pub member_behind : (xs ys : List ℕ) (j : ℕ) → Contains (xs ++ j ∷ ys) j
member_behind xs ys j = Contains-append_right xs (j ∷ ys) j (head_in j ys)

none_in : (t : ℕ) → Contains [] t → ⊥
none_in t h = let low : h.0 < 0 = h.1 in omega arith

cases_in : (x : ℕ) (xs : List ℕ) (t : ℕ) → Contains (x ∷ xs) t → (x ≡ t) ⊎ Contains xs t
cases_in x xs t h =
    elim (Contains-append_cases (x ∷ []) xs t h) [
      | inl f ↦ elim (Contains-push_cases [] x t f) [ inl n ↦ absurd (none_in t n) | inr e ↦ inl e ]
      | inr r ↦ inr r
    ]

-- what a rising list holds is no less than where it begins
rising_low : (n t : ℕ) (q : List ℕ) (j : ℕ) → Rising n t q → Contains q j → t ≤ j
rising_low n t [] j h c = absurd (none_in j c)
rising_low n t (x ∷ q) j h c =
    elim (cases_in x q j c) [
      | inl e ↦ omega (arith, h.0, e)
      | inr r ↦ let low : x + 1 ≤ j = rising_low n (x + 1) q j h.2 r in omega (arith, h.0, low)
    ]

pub before_irreflexive : (a : List ℕ) → ComesBefore a a → ⊥
before_irreflexive a h = h.lacked h.held

pub before_transitive : (a b c : List ℕ) → ComesBefore a b → ComesBefore b c → ComesBefore a c
before_transitive a b c h k =
    elim (cases_lt h.place k.place) [
      | inl l ↦
          record {
            place = h.place;
            held = h.held;
            lacked = λ x. h.lacked ((k.same h.place l).1 x);
            same = λ t below. (λ x. (k.same t (omega arith)).0 ((h.same t below).0 x), λ x. (h.same t below).1 ((k.same t (omega arith)).1 x));
          }
      | inr g ↦
          elim (cases_lt k.place h.place) [
            | inl l ↦
                record {
                  place = k.place;
                  held = (h.same k.place l).1 k.held;
                  lacked = k.lacked;
                  same = λ t below. (λ x. (k.same t below).0 ((h.same t (omega arith)).0 x), λ x. (h.same t (omega arith)).1 ((k.same t below).1 x));
                }
            | inr f ↦ let e : k.place ≡ h.place = omega arith in absurd (h.lacked (subst (λ (t : ℕ). Contains b t) e k.held))
          ]
    ]

before_asymmetric : (a b : List ℕ) → ComesBefore a b → ComesBefore b a → ⊥
before_asymmetric a b h k = before_irreflexive a (before_transitive a b a h k)

pub test_less : (x y : ℕ) (a b : List ℕ) → x < y → comes_before (x ∷ a) (y ∷ b) ≡ true
test_less x y a b l = let t : nat_lt x y ≡ true = grind (arith, nat_tests) in rw t refl

pub test_more : (x : ℕ) (a b : List ℕ) → comes_before a b ≡ true → comes_before (x ∷ a) (x ∷ b) ≡ true
test_more x a b h =
    let t : nat_lt x x ≡ false = grind (arith, nat_tests) in
    let e : (x == x) ≡ true = grind (arith, nat_tests) in
    rw (t, e) h

-- of two lists that differ one comes before by the test
pub test_total : (n t : ℕ) (a b : List ℕ) → Rising n t a → Rising n t b → (comes_before a b ≡ true) ⊎ ((a ≡ b) ⊎ (comes_before b a ≡ true))
test_total n t [] [] ra rb = inr (inl refl)
test_total n t [] (y ∷ b) ra rb = inr (inr refl)
test_total n t (x ∷ a) [] ra rb = inl refl
test_total n t (x ∷ a) (y ∷ b) ra rb =
    let rest = test_total n (x + 1) a b ra.2 in
    elim (cases_lt x y) [
      | inl l ↦ inl (test_less x y a b l)
      | inr g ↦
          elim (cases_lt y x) [
            | inl l ↦ inr (inr (test_less y x b a l))
            | inr f ↦
                let e : y ≡ x = omega arith in
                elim (rest (subst (λ (z : ℕ). Rising n (z + 1) b) e rb.2)) [
                  | inl h ↦ inl (subst (λ (z : ℕ). comes_before (x ∷ a) (z ∷ b) ≡ true) (sym e) (test_more x a b h))
                  | inr k ↦
                      elim k [
                        | inl s ↦ inr (inl (subst (λ (z : ℕ). x ∷ a ≡ z ∷ b) (sym e) (ap (λ (r : List ℕ). x ∷ r) s)))
                        | inr h ↦ inr (inr (subst (λ (z : ℕ). comes_before (z ∷ b) (x ∷ a) ≡ true) (sym e) (test_more x b a h)))
                      ]
                ]
          ]
    ]

-- the first of one list is below the first of the other
first_less : (n t x : ℕ) (a b : List ℕ) → Rising n t (x ∷ a) → Rising n (x + 1) b → ComesBefore (x ∷ a) b
first_less n t x a b ra rb =
    record {
      place = x;
      held = head_in x a;
      lacked = λ h. let low : x + 1 ≤ x = rising_low n (x + 1) b x rb h in omega arith;
      same = λ s below. (
        λ h. let low : x ≤ s = rising_low n x (x ∷ a) s (omega arith, ra.1, ra.2) h in absurd (omega arith),
        λ h. let low : x + 1 ≤ s = rising_low n (x + 1) b s rb h in absurd (omega arith),
      );
    }

-- the two lists begin alike
first_same : (n x : ℕ) (a b : List ℕ) → Rising n (x + 1) a → Rising n (x + 1) b → ComesBefore a b → ComesBefore (x ∷ a) (x ∷ b)
first_same n x a b ra rb h =
    record {
      place = h.place;
      held = tail_in x a h.place h.held;
      lacked = λ k.
          let low : x + 1 ≤ h.place = rising_low n (x + 1) a h.place ra h.held in
          elim (cases_in x b h.place k) [ inl e ↦ absurd (omega arith) | inr r ↦ h.lacked r ];
      same = λ s below. (
        λ k. elim (cases_in x a s k) [ inl e ↦ subst (λ (z : ℕ). Contains (x ∷ b) z) e (head_in x b) | inr r ↦ tail_in x b s ((h.same s below).0 r) ],
        λ k. elim (cases_in x b s k) [ inl e ↦ subst (λ (z : ℕ). Contains (x ∷ a) z) e (head_in x a) | inr r ↦ tail_in x a s ((h.same s below).1 r) ],
      );
    }

pub before_by_test : (n t : ℕ) (a b : List ℕ) → Rising n t a → Rising n t b → comes_before a b ≡ true → ComesBefore a b
before_by_test n t [] b ra rb h = absurd (cc)
before_by_test n t (x ∷ a) [] ra rb h = first_less n t x a [] ra tt
before_by_test n t (x ∷ a) (y ∷ b) ra rb h =
    let rest = before_by_test n (x + 1) a b ra.2 in
    if_cases (λ (v : Bool). v ≡ true → ComesBefore (x ∷ a) (y ∷ b)) (nat_lt x y) true (if x == y then comes_before a b else false)
    (λ less _. let l : x < y = grind (arith, nat_tests) in first_less n t x a (y ∷ b) ra (omega arith, rb.1, rb.2))
    (λ more. if_cases (λ (v : Bool). v ≡ true → ComesBefore (x ∷ a) (y ∷ b)) (x == y) (comes_before a b) false
    (λ same k.
    let e : y ≡ x = grind (arith, nat_tests) in
    let rises : Rising n (x + 1) b = subst (λ (z : ℕ). Rising n (z + 1) b) e rb.2 in
    subst (λ (z : ℕ). ComesBefore (x ∷ a) (z ∷ b)) (sym e) (first_same n x a b ra.2 rises (rest rises k)))
    (λ other k. absurd (cc)))
    h

pub before_total : (n : ℕ) (a b : List ℕ) → Rising n 0 a → Rising n 0 b → ComesBefore a b ⊎ ((a ≡ b) ⊎ ComesBefore b a)
before_total n a b ra rb =
    elim (test_total n 0 a b ra rb) [
      | inl h ↦ inl (before_by_test n 0 a b ra rb h)
      | inr k ↦ elim k [ inl e ↦ inr (inl e) | inr h ↦ inr (inr (before_by_test n 0 b a rb ra h)) ]
    ]

-- for lists that rise the test is right
pub before_means : (n : ℕ) (a b : List ℕ) → Rising n 0 a → Rising n 0 b → (IsTrue (comes_before a b) ↔ ComesBefore a b)
before_means n a b ra rb = (
  λ h. before_by_test n 0 a b ra rb (search rules),
  λ h. elim (test_total n 0 a b ra rb) [
    | inl t ↦ search rules
    | inr k ↦
        elim k [
          | inl e ↦ absurd (before_irreflexive a (subst (λ (r : List ℕ). ComesBefore a r) (sym e) h))
          | inr t ↦ absurd (before_asymmetric a b h (before_by_test n 0 b a rb ra t))
        ]
  ],
)
