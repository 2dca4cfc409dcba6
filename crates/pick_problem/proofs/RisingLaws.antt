-- Rising lists of places: what they bring, weigh and cost at most or at least.
use Rattle.std.specs.Prelude.{◌≡◌, ◌≢◌, ℕ, zero, suc, ◌+◌, ◌-◌, ◌*◌, ◌<◌, ◌≤◌, ◌⊎◌, List, [], ◌∷◌, ◌++◌, length, get_or, drop, pos, ◌≤ℤ◌, All}
use Rattle.std.proofs.Common.{arith, refl, sym, ap, subst, inl, inr, ◌∙◌}
use Rattle.std.proofs.lemmas.Bool.{cases_lt}
use Rattle.std.proofs.lemmas.Int.{ints}
use Rattle.std.proofs.lemmas.List.{get_or-drop, length-drop}
use Rattle.std.proofs.lemmas.List.Elements.{All-cons, All-head, All-nil, All-tail}
use Rattle.std.proofs.lemmas.List.Sums.{prefix_len-le-length}
use Rattle.std.proofs.Math.Nat.{mul-le-mul_left}
use Rattle.pick_problem.specs.declared.item.Item.{Item}
use Rattle.pick_problem.specs.Pool.{IsItem, IsInOrder, no_item, item_at}
use Rattle.pick_problem.specs.Problem.{PlainProblem, IsProblem, Rising, value_of, weight_of, cost_of}
use Rattle.pick_problem.specs.Later.{total_value, later_value, least, least_weight, NoNegative, is_twin, behind_twins}
use Rattle.pick_problem.specs.Steps.{needed}
use Rattle.pick_problem.proofs.SumLaws.{item_is}

pub Rising-earlier : (n s t : ℕ) (q : List ℕ) → s ≤ t → Rising n t q → Rising n s q
Rising-earlier n s t [] l h = tt
Rising-earlier n s t (j ∷ q) l h = (omega (arith, h.0), h.1, h.2)

pub Rising-wider : (s n b : ℕ) (q : List ℕ) → s ≤ n → Rising s b q → Rising n b q
Rising-wider s n b [] l h = tt
Rising-wider s n b (j ∷ q) l h = (h.0, omega (arith, h.1), Rising-wider s n (j + 1) q l h.2)

-- the value from a place on is that of its item and of what is after it
total_step : (xs : List Item) (t : ℕ) → t < length xs → total_value (drop t xs) ≡ (get_or xs t no_item).value + total_value (drop (t + 1) xs)
total_step [] t l = absurd (omega arith)
total_step (x ∷ xs) zero l = refl
total_step (x ∷ xs) (suc t) l =
    let e : suc t + 1 ≡ suc (t + 1) = omega arith in
    subst (λ (k : ℕ). total_value (drop t xs) ≡ (get_or xs t no_item).value + total_value (drop k (x ∷ xs))) (sym e) (total_step xs t (omega arith))

pub later_value-step : (p : PlainProblem) (t : ℕ) → t < length p.items → later_value p t ≡ (item_at p.items t).value + later_value p (t + 1)
later_value-step p t l = total_step p.items t l

-- the sums of what is left fall
total_one : (xs : List Item) (t : ℕ) → total_value (drop (t + 1) xs) ≤ total_value (drop t xs)
total_one [] zero = omega arith
total_one [] (suc t) = let e : suc t + 1 ≡ suc (t + 1) = omega arith in subst (λ (k : ℕ). total_value (drop k []) ≤ total_value (drop (suc t) [])) (sym e) (omega arith)
total_one (x ∷ xs) zero = omega arith
total_one (x ∷ xs) (suc t) =
    let e : suc t + 1 ≡ suc (t + 1) = omega arith in
    subst (λ (k : ℕ). total_value (drop k (x ∷ xs)) ≤ total_value (drop t xs)) (sym e) (total_one xs t)

later_by : (p : PlainProblem) (s k : ℕ) → later_value p (s + k) ≤ later_value p s
later_by p s zero = let e : s + 0 ≡ s = omega arith in subst (λ (t : ℕ). later_value p t ≤ later_value p s) (sym e) (omega arith)
later_by p s (suc k) =
    let e : s + suc k ≡ (s + k) + 1 = omega arith in
    subst (λ (t : ℕ). later_value p t ≤ later_value p s) (sym e) (omega (arith, total_one p.items (s + k), later_by p s k))

pub later_value-falls : (p : PlainProblem) (s t : ℕ) → s ≤ t → later_value p t ≤ later_value p s
later_value-falls p s t l = let e : s + (t - s) ≡ t = omega arith in subst (λ (k : ℕ). later_value p k ≤ later_value p s) e (later_by p s (t - s))

-- places from t on have no more value than all of them
pub Rising-value : (p : PlainProblem) (t : ℕ) (q : List ℕ) → Rising (length p.items) t q → value_of p q ≤ later_value p t
Rising-value p t [] h = omega arith
Rising-value p t (j ∷ q) h =
    let rest : value_of p q ≤ later_value p (j + 1) = Rising-value p (j + 1) q h.2 in
    omega (arith, rest, later_value-step p j h.1, later_value-falls p t j h.0)

least_head : (x : Item) (xs : List Item) → least (x ∷ xs) ≤ x.weight
least_head x [] = omega arith
least_head x (y ∷ ys) = omega arith

least_at : (xs : List Item) (i : ℕ) → i < length xs → least xs ≤ (get_or xs i no_item).weight
least_at [] i l = absurd (omega arith)
least_at (x ∷ xs) zero l = least_head x xs
least_at (x ∷ []) (suc i) l = absurd (omega arith)
least_at (x ∷ y ∷ ys) (suc i) l = let rest : least (y ∷ ys) ≤ (get_or (y ∷ ys) i no_item).weight = least_at (y ∷ ys) i (omega arith) in omega (arith, rest)

pub least_weight-le : (p : PlainProblem) (t j : ℕ) → t ≤ j → j < length p.items → least_weight p t ≤ (item_at p.items j).weight
least_weight-le p t j l below =
    let e : t + (j - t) ≡ j = omega arith in
    let inside : j - t < length (drop t p.items) = omega (arith, length-drop t p.items) in
    let at : get_or (drop t p.items) (j - t) no_item ≡ get_or p.items j no_item = get_or-drop t p.items (j - t) no_item ∙ ap (λ (k : ℕ). get_or p.items k no_item) e in
    subst (λ (x : Item). least_weight p t ≤ x.weight) at (least_at (drop t p.items) (j - t) inside)

-- each of the places from t on weighs at least the least
pub Rising-weight : (p : PlainProblem) (t s : ℕ) (q : List ℕ) → t ≤ s → Rising (length p.items) s q → length q * least_weight p t ≤ weight_of p q
Rising-weight p t s [] l h = omega arith
Rising-weight p t s (j ∷ q) l h =
    let rest : length q * least_weight p t ≤ weight_of p q = Rising-weight p t (j + 1) q (omega (arith, h.0)) h.2 in
    let here : least_weight p t ≤ (item_at p.items j).weight = least_weight-le p t j (omega (arith, h.0)) h.1 in
    omega (arith, rest, here)

-- of more value, or of the same and no heavier
abbrev pub IsLighter : Item → Item → Type 0
IsLighter x y = (y.value < x.value) ⊎ ((x.value ≡ y.value) × (x.weight ≤ y.weight))

lighter_self : (x : Item) → IsLighter x x
lighter_self x = inr (refl, omega arith)

lighter_then : (x y z : Item) → IsLighter x y → IsLighter y z → IsLighter x z
lighter_then x y z h k =
    elim h [
      | inl l ↦ elim k [ inl m ↦ inl (omega arith) | inr m ↦ inl (omega (arith, m.0)) ]
      | inr l ↦ elim k [ inl m ↦ inl (omega (arith, l.0)) | inr m ↦ inr (omega (arith, l.0, m.0), omega (arith, l.1, m.1)) ]
    ]

lighter_from : (x y : Item) → IsInOrder x y → IsLighter x y
lighter_from x y h =
    elim h [ inl l ↦ inl l | inr s ↦ elim s.1 [ inl l ↦ inr (s.0, omega arith) | inr e ↦ inr (s.0, omega (arith, e.0)) ] ]

lighter_by : (p : PlainProblem) → IsProblem p → (t k : ℕ) → t + k < length p.items → IsLighter (item_at p.items t) (item_at p.items (t + k))
lighter_by p is t zero l = let e : t + 0 ≡ t = omega arith in subst (λ (s : ℕ). IsLighter (item_at p.items t) (item_at p.items s)) (sym e) (lighter_self (item_at p.items t))
lighter_by p is t (suc k) l =
    let e : t + suc k ≡ (t + k) + 1 = omega arith in
    let here : IsLighter (item_at p.items (t + k)) (item_at p.items (t + k + 1)) = lighter_from (item_at p.items (t + k)) (item_at p.items (t + k + 1)) (is.items.order (t + k) no_item (omega arith)) in
    subst (λ (s : ℕ). IsLighter (item_at p.items t) (item_at p.items s)) (sym e) (lighter_then (item_at p.items t) (item_at p.items (t + k)) (item_at p.items (t + k + 1)) (lighter_by p is t k (omega arith)) here)

pub lighter_first : (p : PlainProblem) → IsProblem p → (t j : ℕ) → t ≤ j → j < length p.items → IsLighter (item_at p.items t) (item_at p.items j)
lighter_first p is t j l below = let e : t + (j - t) ≡ j = omega arith in subst (λ (s : ℕ). IsLighter (item_at p.items t) (item_at p.items s)) e (lighter_by p is t (j - t) (omega arith))

pub value-falls : (p : PlainProblem) → IsProblem p → (t j : ℕ) → t ≤ j → j < length p.items → (item_at p.items j).value ≤ (item_at p.items t).value
value-falls p is t j l below = elim (lighter_first p is t j l below) [ inl m ↦ omega arith | inr e ↦ omega (arith, e.0) ]

-- each of the places from t on has at most the value of t
pub Rising-most : (p : PlainProblem) → IsProblem p → (t s : ℕ) (q : List ℕ) → t ≤ s → Rising (length p.items) s q → value_of p q ≤ length q * (item_at p.items t).value
Rising-most p is t s [] l h = omega arith
Rising-most p is t s (j ∷ q) l h =
    let rest : value_of p q ≤ length q * (item_at p.items t).value = Rising-most p is t (j + 1) q (omega (arith, h.0)) h.2 in
    let here : (item_at p.items j).value ≤ (item_at p.items t).value = value-falls p is t j (omega (arith, h.0)) h.1 in
    omega (arith, rest, here)

-- a place that is added has a value and a weight
pub Rising-some : (p : PlainProblem) → IsProblem p → (t j : ℕ) (q : List ℕ) → Rising (length p.items) t (j ∷ q) → (0 < value_of p (j ∷ q)) × (0 < weight_of p (j ∷ q))
Rising-some p is t j q h = let item : IsItem (item_at p.items j) = item_is p j is h.1 in (omega (arith, item.value), omega (arith, item.weight))

pub needed-le : (n v k : ℕ) → 0 < v → n ≤ k * v → needed n v ≤ k
needed-le n v k some h =
    elim (cases_lt k (needed n v)) [
      | inl l ↦ absurd (omega (arith, mul-le-mul_left v l))
      | inr g ↦ g
    ]

pub cost-nonneg : (p : PlainProblem) (t : ℕ) (q : List ℕ) → NoNegative p → Rising (length p.items) t q → pos 0 ≤ℤ cost_of p q
cost-nonneg p t [] none h = omega (arith, ints)
cost-nonneg p t (j ∷ q) none h =
    let rest : pos 0 ≤ℤ cost_of p q = cost-nonneg p (j + 1) q none h.2 in
    let here : pos 0 ≤ℤ (item_at p.items j).cost = none j no_item h.1 in
    omega (arith, ints, rest, here)

-- a list that rises begins with one that does, up to any of its places
pub Rising-front : (n t : ℕ) (xs ys : List ℕ) → Rising n t (xs ++ ys) → Rising n t xs
Rising-front n t [] ys h = tt
Rising-front n t (x ∷ xs) ys h = (h.0, h.1, Rising-front n (x + 1) xs ys h.2)

pub Rising-join : (n b s : ℕ) (xs ys : List ℕ) → s ≤ n → b ≤ s → Rising s b xs → Rising n s ys → Rising n b (xs ++ ys)
Rising-join n b s [] ys l m h k = Rising-earlier n b s ys m k
Rising-join n b s (x ∷ xs) ys l m h k = (h.0, omega (arith, h.1), Rising-join n (x + 1) s xs ys l (omega (arith, h.1)) h.2 k)

pub Rising-push : (n b t : ℕ) (chosen : List ℕ) → b ≤ t → t < n → Rising t b chosen → Rising n b (chosen ++ t ∷ [])
Rising-push n b t [] l m h = (l, m, tt)
Rising-push n b t (j ∷ chosen) l m h = (h.0, omega (arith, h.1), Rising-push n (j + 1) t chosen (omega (arith, h.1)) m h.2)

-- places below t that don't include t - 1 are below it
pub Rising-short : (t b : ℕ) (chosen : List ℕ) → 0 < t → All (λ j. j ≢ t - 1) chosen → Rising t b chosen → Rising (t - 1) b chosen
Rising-short t b [] some avoid h = tt
Rising-short t b (j ∷ chosen) some avoid h =
    let other : j ≢ t - 1 = All-head (λ (k : ℕ). k ≢ t - 1) j chosen avoid in
    (h.0, omega (arith, h.1, other), Rising-short t (j + 1) chosen some (All-tail (λ (k : ℕ). k ≢ t - 1) j chosen avoid) h.2)

pub All-front : (P : ℕ → Type 0) (xs ys : List ℕ) → All P (xs ++ ys) → All P xs
All-front P [] ys h = All-nil P
All-front P (x ∷ xs) ys h = All-cons P x xs (All-head P x (xs ++ ys) h) (All-front P xs ys (All-tail P x (xs ++ ys) h))

pub All-back : (P : ℕ → Type 0) (xs ys : List ℕ) → All P (xs ++ ys) → All P ys
All-back P [] ys h = h
All-back P (x ∷ xs) ys h = All-back P xs ys (All-tail P x (xs ++ ys) h)

pub twins_within : (p : PlainProblem) (t : ℕ) → t ≤ length p.items → behind_twins p t ≤ length p.items
twins_within p t below = omega (arith, prefix_len-le-length (is_twin p.kind (item_at p.items (t - 1))) (drop t p.items), length-drop t p.items)

pub Rising-until : (n b : ℕ) (front : List ℕ) (last : ℕ) → Rising n b (front ++ last ∷ []) → Rising last b front × (b ≤ last) × (last < n)
Rising-until n b [] last h = (tt, h.0, h.1)
Rising-until n b (j ∷ front) last h =
    let rest = Rising-until n (j + 1) front last h.2 in
    ((h.0, omega (arith, rest.1), rest.0), omega (arith, h.0, rest.1), rest.2)

pub Rising-avoids : (t b : ℕ) (xs : List ℕ) → Rising t b xs → All (λ j. j ≢ t) xs
Rising-avoids t b [] h = All-nil (λ (j : ℕ). j ≢ t)
Rising-avoids t b (j ∷ xs) h = All-cons (λ (i : ℕ). i ≢ t) j xs (λ e. omega (arith, e, h.1)) (Rising-avoids t (j + 1) xs h.2)
