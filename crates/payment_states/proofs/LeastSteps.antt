-- The least of values.
use Rattle.std.proofs.Common.{◌≡◌, ◌∙◌, ◌⊎◌, inl, inr, ℕ, suc, ◌+◌, ◌<◌, ◌≤◌, ◌==◌, ◌||◌, Bool, true, false, cond, List, [], ◌∷◌, ◌++◌, length, map, take, filter, get_or, Option, Some, None, refl, sym, ap, arith, Contains}
use Rattle.std.specs.Prelude.{min}
use Rattle.std.specs.List.{list_any}
use Rattle.std.proofs.lemmas.List.{take_more}
use Rattle.std.proofs.lemmas.Bool.{cases_lt}
use Rattle.std.proofs.lemmas.Option.{same_Some}
use Rattle.fund_base.proofs.Lists.{none_pass}
use Rattle.payment_states.specs.Graph.{IsInOrder, below, kin, steps, within}
use Rattle.payment_states.specs.Least.{least_by, lesser, value_at}
use Rattle.payment_states.proofs.Below.{filter_one, get_or-map_below}
use Rattle.payment_states.proofs.Paths.{parent_before, within_step}

pub lesser_none : (a : Option ℕ) → lesser a None ≡ a
lesser_none None = refl
lesser_none (Some m) = refl

pub lesser_assoc : (a b c : Option ℕ) → lesser (lesser a b) c ≡ lesser a (lesser b c)
lesser_assoc None b c = refl
lesser_assoc (Some m) None c = refl
lesser_assoc (Some m) (Some n) None = refl
lesser_assoc (Some m) (Some n) (Some k) = let e : min (min m n) k ≡ min m (min n k) = omega arith in ap Some e

pub lesser_comm : (a b : Option ℕ) → lesser a b ≡ lesser b a
lesser_comm None b = sym (lesser_none b)
lesser_comm (Some m) None = refl
lesser_comm (Some m) (Some n) = let e : min m n ≡ min n m = omega arith in ap Some e

pub lesser_same : (a : Option ℕ) → lesser a a ≡ a
lesser_same None = refl
lesser_same (Some m) = let e : min m m ≡ m = omega arith in ap Some e

-- it is one of the two
pub lesser_either : (a b : Option ℕ) (k : ℕ) → lesser a b ≡ Some k → (a ≡ Some k) ⊎ (b ≡ Some k)
lesser_either None b k e = inr e
lesser_either (Some m) None k e = inl e
lesser_either (Some m) (Some n) k e = by (cases_lt m n)
  where
    by : (m < n) ⊎ (n ≤ m) → (Some m ≡ Some k) ⊎ (Some n ≡ Some k)
    by (inl h) = let s : min m n ≡ k = same_Some (min m n) k e in let t : m ≡ k = omega arith in inl (ap Some t)
    by (inr h) = let s : min m n ≡ k = same_Some (min m n) k e in let t : n ≡ k = omega arith in inr (ap Some t)

-- two pairs, put together the other way
lesser_swap : (a b c d : Option ℕ) → lesser (lesser a b) (lesser c d) ≡ lesser (lesser a c) (lesser b d)
lesser_swap a b c d =
    lesser_assoc a b (lesser c d)
    ∙ ap (lesser a) (sym (lesser_assoc b c d) ∙ ap (λ e. lesser e d) (lesser_comm b c) ∙ lesser_assoc c b d)
    ∙ sym (lesser_assoc a c (lesser b d))

-- the values of lists, one after the other
pub least_append : {X : Type 0} (f : X → Option ℕ) (xs ys : List X) → least_by f (xs ++ ys) ≡ lesser (least_by f xs) (least_by f ys)
least_append f [] ys = refl
least_append f (x ∷ xs) ys = ap (lesser (f x)) (least_append f xs ys) ∙ sym (lesser_assoc (f x) (least_by f xs) (least_by f ys))

-- one element more
pub least_more : {X : Type 0} (f : X → Option ℕ) (own : Option ℕ) (xs : List X) (i : ℕ) (d : X) → i < length xs
    → lesser (lesser own (least_by f (take i xs))) (f (get_or xs i d)) ≡ lesser own (least_by f (take (i + 1) xs))
least_more f own xs i d lt =
    lesser_assoc own (least_by f (take i xs)) (f (get_or xs i d))
    ∙ ap (lesser own) (ap (lesser (least_by f (take i xs))) (sym (lesser_none (f (get_or xs i d)))) ∙ sym (least_append f (take i xs) (get_or xs i d ∷ [])) ∙ ap (least_by f) (sym (take_more xs i d lt)))

-- it is determined by the values
pub least_agree : {X : Type 0} (f h : X → Option ℕ) (xs : List X) → ((x : X) → Contains xs x → f x ≡ h x) → least_by f xs ≡ least_by h xs
least_agree f h [] same = refl
least_agree f h (x ∷ xs) same = (λ k. lesser (same x (0, omega arith, refl) k) (least_agree f h xs (λ y c. same y (suc c.0, omega arith, c.2)) k))

-- and by which elements pass
pub filter_agree : {X : Type 0} (p q : X → Bool) (xs : List X) → ((x : X) → p x ≡ q x) → filter p xs ≡ filter q xs
filter_agree p q [] same = refl
filter_agree p q (x ∷ xs) same = (λ k. cond (same x k) (x ∷ filter_agree p q xs same k) (filter_agree p q xs same k))

-- of those that pass one test or the other
pub least_or : {X : Type 0} (f : X → Option ℕ) (p q : X → Bool) (xs : List X) → least_by f (filter (λ x. p x || q x) xs) ≡ lesser (least_by f (filter p xs)) (least_by f (filter q xs))
least_or f p q [] = refl
least_or {X = X} f p q (x ∷ xs) = by (p x) (q x) (filter (λ x. p x || q x) xs) (filter p xs) (filter q xs) (least_or f p q xs)
  where
    by : (a b : Bool) (both left right : List X) → least_by f both ≡ lesser (least_by f left) (least_by f right)
        → least_by f (cond (a || b) (x ∷ both) both) ≡ lesser (least_by f (cond a (x ∷ left) left)) (least_by f (cond b (x ∷ right) right))
    by true true both left right e =
        ap (lesser (f x)) e ∙ ap (λ v. lesser v (lesser (least_by f left) (least_by f right))) (sym (lesser_same (f x))) ∙ lesser_swap (f x) (f x) (least_by f left) (least_by f right)
    by true false both left right e = ap (lesser (f x)) e ∙ sym (lesser_assoc (f x) (least_by f left) (least_by f right))
    by false true both left right e =
        ap (lesser (f x)) (e ∙ lesser_comm (least_by f left) (least_by f right)) ∙ sym (lesser_assoc (f x) (least_by f right) (least_by f left)) ∙ lesser_comm (lesser (f x) (least_by f right)) (least_by f left)
    by false false both left right e = e

-- of those that pass some test
pub least_any : {X Y : Type 0} (f : X → Option ℕ) (w : Y → X → Bool) (ys : List Y) (xs : List X) → least_by f (filter (λ x. list_any (λ y. w y x) ys) xs) ≡ least_by (λ y. least_by f (filter (w y) xs)) ys
least_any f w [] xs = ap (least_by f) (none_pass xs)
least_any f w (y ∷ ys) xs = least_or f (w y) (λ x. list_any (λ z. w z x) ys) xs ∙ ap (lesser (least_by f (filter (w y) xs))) (least_any f w ys xs)

-- The least over it and its ancestors, from its own and its parents'.
pub least_step : (g : List (List ℕ)) (f : ℕ → Option ℕ) (i : ℕ) → IsInOrder g → i < length g → least_by f (kin g i) ≡ lesser (f i) (least_by (λ p. least_by f (kin g p)) (steps g i))
least_step g f i order lt =
    ap (least_by f) (filter_agree (within g (length g) i) (λ j. (i == j) || list_any (λ p. within g (length g) p j) (steps g i)) (below (length g)) (λ j. within_step g i j order lt))
    ∙ least_or f (λ j. i == j) (λ j. list_any (λ p. within g (length g) p j) (steps g i)) (below (length g))
    ∙ (λ k. lesser ((ap (least_by f) (filter_one (length g) i lt) ∙ lesser_none (f i)) k) (least_any f (within g (length g)) (steps g i) (below (length g)) k))

-- the same, where the parents' are known
pub least_known : (g : List (List ℕ)) (own : List (Option ℕ)) (i : ℕ) → IsInOrder g → i < length g
    → lesser (value_at own i) (least_by (value_at (map (λ j. least_by (value_at own) (kin g j)) (below i))) (steps g i)) ≡ least_by (value_at own) (kin g i)
least_known g own i order lt =
    ap (lesser (value_at own i)) (least_agree (value_at (map (λ j. least_by (value_at own) (kin g j)) (below i))) (λ p. least_by (value_at own) (kin g p)) (steps g i)
    (λ p c. get_or-map_below (λ j. least_by (value_at own) (kin g j)) i p None (parent_before g i p order lt c)))
    ∙ sym (least_step g (value_at own) i order lt)
