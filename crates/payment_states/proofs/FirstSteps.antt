-- The first number that passes a test.
use Rattle.std.proofs.Common.{◌≡◌, ◌∙◌, ◌⊎◌, inl, inr, ℕ, zero, suc, ◌<◌, ◌||◌, Bool, true, false, cond, List, [], ◌∷◌, filter, Option, Some, None, refl, sym, ap, arith, Contains}
use Rattle.std.specs.Prelude.{find, min}
use Rattle.std.specs.List.{list_any}
use Rattle.std.specs.Option.{option_or}
use Rattle.std.proofs.lemmas.List.Folds.{find-append}
use Rattle.std.proofs.lemmas.Option.{none-some, same_Some}
use Rattle.std.proofs.lemmas.List.Elements.{filter-append}
use Rattle.payment_states.specs.Graph.{below}
use Rattle.payment_states.specs.Least.{least_by, lesser}
use Rattle.payment_states.specs.ByPlace.{place_if}
use Rattle.payment_states.proofs.LeastSteps.{least_append, lesser_either, lesser_none}

-- one number more
pub find_more : (p : ℕ → Bool) (n : ℕ) → find p (below (suc n)) ≡ option_or (find p (below n)) (place_if (p n) n)
unfolding below
find_more p n = find-append p (below n) (n ∷ [])

-- what is found is below
pub find_below : (p : ℕ → Bool) (n k : ℕ) → find p (below n) ≡ Some k → k < n
unfolding below
find_below p zero k e = absurd (none-some k e)
find_below p (suc n) k e = by (find p (below n)) (p n) (λ e. find_below p n k e) (sym (find_more p n) ∙ e)
  where
    by : (r : Option ℕ) (b : Bool) → (r ≡ Some k → k < n) → option_or r (place_if b n) ≡ Some k → k < suc n
    by (Some m) b h e = let l : k < n = h e in omega arith
    by None true h e = let s : n ≡ k = same_Some n k e in omega arith
    by None false h e = absurd (none-some k e)

-- either test
pub find_or : (p q : ℕ → Bool) (n : ℕ) → find (λ k. p k || q k) (below n) ≡ lesser (find p (below n)) (find q (below n))
unfolding below
find_or p q zero = refl
find_or p q (suc n) =
    find_more (λ k. p k || q k) n
    ∙ ap (λ r. option_or r (place_if (p n || q n) n)) (find_or p q n)
    ∙ by (find p (below n)) (find q (below n)) (p n) (q n) (find_below p n) (find_below q n)
    ∙ (λ k. lesser (sym (find_more p n) k) (sym (find_more q n) k))
  where
    by : (r s : Option ℕ) (b c : Bool) → ((k : ℕ) → r ≡ Some k → k < n) → ((k : ℕ) → s ≡ Some k → k < n) → option_or (lesser r s) (place_if (b || c) n) ≡ lesser (option_or r (place_if b n)) (option_or s (place_if c n))
    by None None true true h i = let e : n ≡ min n n = omega arith in ap Some e
    by None None true false h i = refl
    by None None false true h i = refl
    by None None false false h i = refl
    by (Some x) None b true h i = let l : x < n = h x refl in let e : x ≡ min x n = omega arith in ap Some e
    by (Some x) None b false h i = refl
    by None (Some y) true c h i = let l : y < n = i y refl in let e : y ≡ min n y = omega arith in ap Some e
    by None (Some y) false c h i = refl
    by (Some x) (Some y) b c h i = refl

find_never : (n : ℕ) → find (λ k. false) (below n) ≡ None
unfolding below
find_never zero = refl
find_never (suc n) = find_more (λ k. false) n ∙ ap (λ r. option_or r None) (find_never n)

-- some test
pub find_any : {X : Type 0} (w : X → ℕ → Bool) (xs : List X) (n : ℕ) → find (λ k. list_any (λ x. w x k) xs) (below n) ≡ least_by (λ x. find (w x) (below n)) xs
find_any w [] n = find_never n
find_any w (x ∷ xs) n = find_or (w x) (λ k. list_any (λ y. w y k) xs) n ∙ ap (lesser (find (w x) (below n))) (find_any w xs n)

-- it is determined by what the test gives
pub find_agree : {X : Type 0} (p q : X → Bool) (xs : List X) → ((x : X) → Contains xs x → p x ≡ q x) → find p xs ≡ find q xs
find_agree p q [] same = refl
find_agree p q (x ∷ xs) same = (λ k. cond (same x (0, omega arith, refl) k) (Some x) (find_agree p q xs (λ y c. same y (suc c.0, omega arith, c.2)) k))

-- what is found among those that pass another is below
pub found_below : (p q : ℕ → Bool) (n m : ℕ) → find q (filter p (below n)) ≡ Some m → m < n
unfolding below
found_below p q zero m e = absurd (none-some m e)
found_below p q (suc n) m e =
    by (find q (filter p (below n))) (p n) (λ e. found_below p q n m e)
    (sym (find-append q (filter p (below n)) (cond (p n) (n ∷ []) [])) ∙ ap (find q) (sym (filter-append p (below n) (n ∷ []))) ∙ e)
  where
    last : (b : Bool) → place_if b n ≡ Some m → m < suc n
    last true e = let s : n ≡ m = same_Some n m e in omega arith
    last false e = absurd (none-some m e)

    by : (r : Option ℕ) (b : Bool) → (r ≡ Some m → m < n) → option_or r (find q (cond b (n ∷ []) [])) ≡ Some m → m < suc n
    by (Some x) b h e = let l : m < n = h e in omega arith
    by None true h e = last (q n) e
    by None false h e = absurd (none-some m e)

-- the least of the numbers below n that pass p and then q is the first
pub first_is_least : (p q : ℕ → Bool) (n : ℕ) → find q (filter p (below n)) ≡ least_by (λ j. place_if (q j) j) (filter p (below n))
unfolding below
first_is_least p q zero = refl
first_is_least p q (suc n) =
    ap (find q) (filter-append p (below n) (n ∷ []))
    ∙ find-append q (filter p (below n)) (cond (p n) (n ∷ []) [])
    ∙ ap (λ r. option_or r (find q (cond (p n) (n ∷ []) []))) (first_is_least p q n)
    ∙ by (least_by (λ j. place_if (q j) j) (filter p (below n))) (p n) (λ m e. found_below p q n m (first_is_least p q n ∙ e))
    ∙ sym (ap (least_by (λ j. place_if (q j) j)) (filter-append p (below n) (n ∷ [])) ∙ least_append (λ j. place_if (q j) j) (filter p (below n)) (cond (p n) (n ∷ []) []))
  where
    one : (r : Option ℕ) (b : Bool) → ((m : ℕ) → r ≡ Some m → m < n) → option_or r (place_if b n) ≡ lesser r (place_if b n)
    one None b h = refl
    one (Some x) true h = let l : x < n = h x refl in let e : x ≡ min x n = omega arith in ap Some e
    one (Some x) false h = refl

    by : (r : Option ℕ) (c : Bool) → ((m : ℕ) → r ≡ Some m → m < n) → option_or r (find q (cond c (n ∷ []) [])) ≡ lesser r (least_by (λ j. place_if (q j) j) (cond c (n ∷ []) []))
    by r true h = one r (q n) h ∙ ap (lesser r) (sym (lesser_none (place_if (q n) n)))
    by r false h = right r ∙ sym (lesser_none r)
      where
        right : (r : Option ℕ) → option_or r None ≡ r
        right None = refl
        right (Some x) = refl

-- where some value is the least, it is that of some element
pub least_attained : {X : Type 0} (f : X → Option ℕ) (xs : List X) (k : ℕ) → least_by f xs ≡ Some k → (x : X) × Contains xs x × (f x ≡ Some k)
least_attained f [] k e = absurd (none-some k e)
least_attained {X = X} f (x ∷ xs) k e = by (lesser_either (f x) (least_by f xs) k e) (λ h. least_attained f xs k h)
  where
    by : (f x ≡ Some k) ⊎ (least_by f xs ≡ Some k) → (least_by f xs ≡ Some k → (y : X) × Contains xs y × (f y ≡ Some k)) → (y : X) × Contains (x ∷ xs) y × (f y ≡ Some k)
    by (inl h) rest = (x, (0, omega arith, refl), h)
    by (inr h) rest = let r = rest h in (r.0, (suc r.1.0, omega arith, r.1.2), r.2)
