-- Marks that are put, counted and taken away.
use Rattle.std.proofs.Common.{◌≡◌, ◌∙◌, ◌⊎◌, inl, inr, ℕ, zero, suc, ◌+◌, ◌-◌, ◌<◌, ◌≤◌, ◌==◌, ◌||◌, ◌&&◌, Bool, true, false, cond, List, [], ◌∷◌, ◌++◌, length, set, filter, get_or, min, refl, sym, ap, arith, Contains}
use Rattle.std.specs.Prelude.{count_by}
use Rattle.std.proofs.lemmas.Bool.{cases_eq, eq-eqb, ne_eqb}
use Rattle.std.proofs.lemmas.List.{get_or-set_same, get_or-set_other}
use Rattle.std.proofs.lemmas.List.Sums.{sum_by-append}
use Rattle.payment_states.specs.Graph.{below}
use Rattle.payment_states.proofs.Below.{below_more}

-- a mark that is put
pub set_mark : (marks : List Bool) (p j : ℕ) → p < length marks → get_or (set marks p true) j false ≡ ((p == j) || get_or marks j false)
set_mark marks p j lt = by (cases_eq p j)
  where
    by : (p ≡ j) ⊎ (p ≡ j → ⊥) → get_or (set marks p true) j false ≡ ((p == j) || get_or marks j false)
    by (inl e) = ap (λ k. get_or (set marks p true) k false) (sym e) ∙ get_or-set_same marks p true false lt ∙ ap (λ b. b || get_or marks j false) (sym (eq-eqb p j e))
    by (inr ne) = get_or-set_other marks p j true false (λ e. ne (sym e)) ∙ ap (λ b. b || get_or marks j false) (sym (ne_eqb p j ne))

-- one place more of those that are marked
pub marked_more : (a b c : Bool) → (b || (a || c)) ≡ ((a || b) || c)
marked_more true true c = refl
marked_more true false c = refl
marked_more false true c = refl
marked_more false false c = refl

-- ---- counting

one_count : (b : Bool) → 0 + cond b 1 0 ≡ cond b 1 0
one_count true = omega arith
one_count false = omega arith

pub count_cons : {X : Type 0} (p : X → Bool) (x : X) (xs : List X) → count_by p (x ∷ xs) ≡ cond (p x) 1 0 + count_by p xs
count_cons p x xs = sum_by-append (λ y. cond (p y) 1 0) (x ∷ []) xs ∙ ap (λ m. m + count_by p xs) (one_count (p x))

pub count_append : {X : Type 0} (p : X → Bool) (xs ys : List X) → count_by p (xs ++ ys) ≡ count_by p xs + count_by p ys
count_append p xs ys = sum_by-append (λ y. cond (p y) 1 0) xs ys

pub count_more : (p : ℕ → Bool) (n : ℕ) → count_by p (below (n + 1)) ≡ count_by p (below n) + cond (p n) 1 0
count_more p n = ap (count_by p) (below_more n) ∙ count_append p (below n) (n ∷ []) ∙ ap (λ m. count_by p (below n) + m) (one_count (p n))

-- nothing counts before, and nothing after
pub count_none : (p : ℕ → Bool) (n : ℕ) → ((j : ℕ) → j < n → p j ≡ false) → count_by p (below n) ≡ 0
unfolding below
count_none p zero h = refl
count_none p (suc n) h =
    let e : suc n ≡ n + 1 = omega arith in
    ap (λ m. count_by p (below m)) e ∙ count_more p n ∙ (λ k. count_none p n (λ j lt. h j (omega arith)) k + cond (h n (omega arith) k) 1 0)

pub count_behind : (p : ℕ → Bool) (m n : ℕ) → ((j : ℕ) → m ≤ j → p j ≡ false) → count_by p (below (m + n)) ≡ count_by p (below m)
count_behind p m zero h = let e : m + 0 ≡ m = omega arith in ap (λ k. count_by p (below k)) e
count_behind p m (suc n) h =
    let e : m + suc n ≡ (m + n) + 1 = omega arith in
    ap (λ k. count_by p (below k)) e ∙ count_more p (m + n)
    ∙ (λ k. count_behind p m n h k + cond (h (m + n) (omega arith) k) 1 0)
    ∙ (let z : count_by p (below m) + 0 ≡ count_by p (below m) = omega arith in z)

pub count_to : (p : ℕ → Bool) (m n : ℕ) → m ≤ n → ((j : ℕ) → m ≤ j → p j ≡ false) → count_by p (below n) ≡ count_by p (below m)
count_to p m n le h = let e : n ≡ m + (n - m) = omega arith in ap (λ k. count_by p (below k)) e ∙ count_behind p m (n - m) h

-- up to the greatest number
pub more_is : (b : Bool) (count c : ℕ) → count ≡ min 4294967295 c → cond b (min 4294967295 (count + 1)) count ≡ min 4294967295 (c + cond b 1 0)
more_is true count c e = omega arith
more_is false count c e = omega arith

-- those of a filter that pass
pub count_filter : {X : Type 0} (p q : X → Bool) (xs : List X) → count_by p (filter q xs) ≡ count_by (λ x. p x && q x) xs
count_filter p q [] = refl
count_filter {X = X} p q (x ∷ xs) = by (q x) (p x) refl (count_filter p q xs) ∙ sym (count_cons (λ x. p x && q x) x xs)
  where
    plus : (m : ℕ) → m ≡ 0 + m
    plus m = omega arith

    by : (b a : Bool) → p x ≡ a → count_by p (filter q xs) ≡ count_by (λ x. p x && q x) xs → count_by p (cond b (x ∷ filter q xs) (filter q xs)) ≡ cond (a && b) 1 0 + count_by (λ x. p x && q x) xs
    by true true h e = count_cons p x (filter q xs) ∙ (λ k. cond (h k) 1 0 + e k)
    by true false h e = count_cons p x (filter q xs) ∙ (λ k. cond (h k) 1 0 + e k)
    by false true h e = e ∙ plus (count_by (λ x. p x && q x) xs)
    by false false h e = e ∙ plus (count_by (λ x. p x && q x) xs)

pub count_agree : {X : Type 0} (p q : X → Bool) (xs : List X) → ((x : X) → Contains xs x → p x ≡ q x) → count_by p xs ≡ count_by q xs
count_agree p q [] same = refl
count_agree p q (x ∷ xs) same =
    count_cons p x xs
    ∙ (λ k. cond (same x (0, omega arith, refl) k) 1 0 + count_agree p q xs (λ y c. same y (suc c.0, omega arith, c.2)) k)
    ∙ sym (count_cons q x xs)
