-- The numbers below a number.
use Rattle.std.proofs.Common.{◌≡◌, ◌∙◌, ◌⊎◌, inl, inr, ℕ, zero, suc, ◌+◌, ◌<◌, ◌≤◌, ◌==◌, cond, List, [], ◌∷◌, ◌++◌, length, map, filter, get_or, refl, sym, ap, subst, arith, Contains}
use Rattle.std.proofs.lemmas.Bool.{eq-eqb, ne_eqb, cases_eq, cases_lt}
use Rattle.std.proofs.lemmas.List.{length-append, length-map, map-append, get_or_append_left, get_or_push, same_lists}
use Rattle.std.proofs.lemmas.List.Elements.{filter-append}
use Rattle.payment_states.specs.Graph.{below}

pub length-below : (n : ℕ) → length (below n) ≡ n
unfolding below
length-below zero = refl
length-below (suc n) = let e = length-append (below n) (n ∷ []) in let h = length-below n in omega arith

pub length-map_below : {X : Type 0} (f : ℕ → X) (n : ℕ) → length (map f (below n)) ≡ n
length-map_below f n = length-map (below n) f ∙ length-below n

-- one more, as a loop writes it
pub below_more : (n : ℕ) → below (n + 1) ≡ below n ++ n ∷ []
unfolding below
below_more n = let e : n + 1 ≡ suc n = omega arith in ap below e

pub map_below_more : {X : Type 0} (f : ℕ → X) (n : ℕ) → map f (below (n + 1)) ≡ map f (below n) ++ f n ∷ []
map_below_more f n = ap (map f) (below_more n) ∙ map-append f (below n) (n ∷ [])

pub get_or-below : (n i d : ℕ) → i < n → get_or (below n) i d ≡ i
unfolding below
get_or-below zero i d lt = absurd (omega arith)
get_or-below (suc n) i d lt = by (get_or-below n i d) (cases_lt i n)
  where
    by : (i < n → get_or (below n) i d ≡ i) → (i < n) ⊎ (n ≤ i) → get_or (below n ++ n ∷ []) i d ≡ i
    by r (inl h) = let l : i < length (below n) = subst (λ k. i < k) (sym (length-below n)) h in get_or_append_left (below n) (n ∷ []) d i l ∙ r h
    by r (inr h) = let e : i ≡ n = omega arith in get_or_push (below n) n d i (length-below n ∙ sym e) ∙ sym e

pub get_or_map : {X Y : Type 0} (f : X → Y) (xs : List X) (i : ℕ) (d : Y) (e : X) → i < length xs → get_or (map f xs) i d ≡ f (get_or xs i e)
get_or_map f [] i d e lt = absurd (omega arith)
get_or_map f (x ∷ xs) zero d e lt = refl
get_or_map f (x ∷ xs) (suc i) d e lt = get_or_map f xs i d e (omega arith)

pub get_or-map_below : {X : Type 0} (f : ℕ → X) (n i : ℕ) (d : X) → i < n → get_or (map f (below n)) i d ≡ f i
get_or-map_below f n i d lt = get_or_map f (below n) i d 0 (subst (λ k. i < k) (sym (length-below n)) lt) ∙ ap f (get_or-below n i 0 lt)

filter_no : (n i : ℕ) → n ≤ i → filter (λ j. i == j) (below n) ≡ []
unfolding below
filter_no zero i le = refl
filter_no (suc n) i le =
    filter-append (λ j. i == j) (below n) (n ∷ [])
    ∙ (λ k. filter_no n i (omega arith) k ++ cond (ne_eqb i n (λ e. absurd (omega arith)) k) (n ∷ []) [])

-- the only one that is i
pub filter_one : (n i : ℕ) → i < n → filter (λ j. i == j) (below n) ≡ i ∷ []
unfolding below
filter_one zero i lt = absurd (omega arith)
filter_one (suc n) i lt = filter-append (λ j. i == j) (below n) (n ∷ []) ∙ by (filter_one n i) (cases_eq i n)
  where
    by : (i < n → filter (λ j. i == j) (below n) ≡ i ∷ []) → (i ≡ n) ⊎ (i ≡ n → ⊥) → filter (λ j. i == j) (below n) ++ cond (i == n) (n ∷ []) [] ≡ i ∷ []
    by r (inl e) = (λ k. filter_no n i (omega arith) k ++ cond (eq-eqb i n e k) (n ∷ []) []) ∙ ap (λ m. m ∷ []) (sym e)
    by r (inr ne) = (λ k. r (omega arith) k ++ cond (ne_eqb i n ne k) (n ∷ []) [])

-- a map is determined by what the function gives
pub map_same : {X Y : Type 0} (f h : X → Y) (xs : List X) → ((x : X) → f x ≡ h x) → map f xs ≡ map h xs
map_same f h [] same = refl
map_same f h (x ∷ xs) same = (λ k. same x k ∷ map_same f h xs same k)

-- on the numbers below n alone
pub map_below_same : {X : Type 0} (f h : ℕ → X) (n : ℕ) → ((i : ℕ) → i < n → f i ≡ h i) → map f (below n) ≡ map h (below n)
unfolding below
map_below_same f h zero same = refl
map_below_same f h (suc n) same =
    map-append f (below n) (n ∷ [])
    ∙ (λ k. map_below_same f h n (λ i lt. same i (omega arith)) k ++ same n (omega arith) k ∷ [])
    ∙ sym (map-append h (below n) (n ∷ []))

pub below_within : (n k : ℕ) → Contains (below n) k → k < n
below_within n k c = let e = get_or-below n c.0 k (subst (λ m. c.0 < m) (length-below n) c.1) in let l = length-below n in let s = c.2 in let t = c.1 in omega arith

-- a map, by places
pub map_places : {X Y : Type 0} (f : X → Y) (xs : List X) (d : X) → map (λ i. f (get_or xs i d)) (below (length xs)) ≡ map f xs
map_places {Y = Y} f xs d =
    same_lists (map (λ i. f (get_or xs i d)) (below (length xs))) (map f xs) (length-map_below (λ i. f (get_or xs i d)) (length xs) ∙ sym (length-map xs f))
    (λ k e lt. let n = length-map_below (λ i. f (get_or xs i d)) (length xs) in get_or-map_below (λ i. f (get_or xs i d)) (length xs) k e (omega arith) ∙ sym (get_or_map f xs k e d (omega arith)))
