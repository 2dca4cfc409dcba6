-- Ways through parents, and the test of so many steps.
use Rattle.std.proofs.Common.{◌≡◌, ◌∙◌, ◌⊎◌, inl, inr, ℕ, zero, suc, ◌<◌, ◌≤◌, ◌==◌, Bool, true, false, ◌||◌, List, [], ◌∷◌, length, refl, sym, ap, subst, arith, Contains, All}
use Rattle.std.specs.List.{list_any}
use Rattle.std.proofs.lemmas.Bool.{eqb-true, eq-eqb, or_cases, or_left, or_right}
use Rattle.std.proofs.lemmas.List.Elements.{All-contains}
use Rattle.std.proofs.lemmas.List.Folds.{list_any-from_Any}
use Rattle.fund_base.proofs.Lists.{any_found}
use Rattle.payment_states.specs.Graph.{IsInOrder, Reaches, steps, within}
use Rattle.payment_states.specs.Graph.Reaches.{itself, through}

pub any_has : {X : Type 0} (p : X → Bool) (xs : List X) (x : X) → Contains xs x → p x ≡ true → list_any p xs ≡ true
any_has p xs x c h = list_any-from_Any p xs (c.0, x, c.1, c.2, h)

-- what some steps reach is reached
pub sound : (g : List (List ℕ)) (n i j : ℕ) → within g n i j ≡ true → Reaches g i j
unfolding within
sound g zero i j h = subst (Reaches g i) (eqb-true i j h) itself
sound g (suc n) i j h = by (λ p. sound g n p j) (or_cases (i == j) (list_any (λ p. within g n p j) (steps g i)) h)
  where
    next : ((p : ℕ) → within g n p j ≡ true → Reaches g p j) → (p : ℕ) × Contains (steps g i) p × (within g n p j ≡ true) → Reaches g i j
    next r f = through f.1 (r f.0 f.2)

    by : ((p : ℕ) → within g n p j ≡ true → Reaches g p j) → (i == j ≡ true) ⊎ (list_any (λ p. within g n p j) (steps g i) ≡ true) → Reaches g i j
    by r (inl e) = subst (Reaches g i) (eqb-true i j e) itself
    by r (inr h) = next r (any_found (λ p. within g n p j) (steps g i) h)

within_itself : (g : List (List ℕ)) (n i : ℕ) → within g n i i ≡ true
unfolding within
within_itself g zero i = eq-eqb i i refl
within_itself g (suc n) i = or_left (i == i) (list_any (λ p. within g n p i) (steps g i)) (eq-eqb i i refl)

within_through : (g : List (List ℕ)) (n i p j : ℕ) → Contains (steps g i) p → within g n p j ≡ true → within g (suc n) i j ≡ true
unfolding within
within_through g n i p j c h = or_right (i == j) (list_any (λ p. within g n p j) (steps g i)) (any_has (λ p. within g n p j) (steps g i) p c h)

-- a parent stands before its child
pub parent_before : (g : List (List ℕ)) (i p : ℕ) → IsInOrder g → i < length g → Contains (steps g i) p → p < i
parent_before g i p order lt c = All-contains (λ q. q < i) (steps g i) p (order i lt) c

-- what is reached is reached in as many steps as there are places before it
pub complete : (g : List (List ℕ)) → IsInOrder g → {i j : ℕ} → Reaches g i j → (n : ℕ) → i < length g → i ≤ n → within g n i j ≡ true
complete g order (itself {i = i}) n lt le = within_itself g n i
complete g order (through {i = i} {p = p} {j = j} c r) zero lt le = absurd (let b : p < i = parent_before g i p order lt c in omega arith)
complete g order (through {i = i} {p = p} {j = j} c r) (suc n) lt le =
    let b : p < i = parent_before g i p order lt c in
    within_through g n i p j c (complete g order r n (omega arith) (omega arith))

-- it is decided by as many steps as there are places
pub decides : (g : List (List ℕ)) (i j : ℕ) → IsInOrder g → i < length g → (within g (length g) i j ≡ true → Reaches g i j) × (Reaches g i j → within g (length g) i j ≡ true)
decides g i j order lt = (sound g (length g) i j, λ r. complete g order r (length g) lt (omega arith))

-- an ancestor doesn't stand later
pub no_later : (g : List (List ℕ)) → IsInOrder g → {i j : ℕ} → Reaches g i j → i < length g → j ≤ i
no_later g order (itself {i = i}) lt = omega arith
no_later g order (through {i = i} {p = p} {j = j} c r) lt =
    let b : p < i = parent_before g i p order lt c in
    let k : j ≤ p = no_later g order r (omega arith) in omega arith

-- one step more
pub then_step : (g : List (List ℕ)) {i j : ℕ} → Reaches g i j → (p : ℕ) → Contains (steps g j) p → Reaches g i p
then_step g itself p c = through c itself
then_step g (through d r) p c = through d (then_step g r p c)

-- the last step of a way
pub last_step : (g : List (List ℕ)) {i j : ℕ} → Reaches g i j → (i ≡ j) ⊎ ((m : ℕ) × Reaches g i m × Contains (steps g m) j)
last_step g (itself {i = i}) = inl refl
last_step g (through {i = i} {p = p} {j = j} c r) = by (last_step g r)
  where
    by : (p ≡ j) ⊎ ((m : ℕ) × Reaches g p m × Contains (steps g m) j) → (i ≡ j) ⊎ ((m : ℕ) × Reaches g i m × Contains (steps g m) j)
    by (inl e) = inr (i, itself, subst (Contains (steps g i)) e c)
    by (inr h) = inr (h.0, through c h.1, h.2)

-- ---- the first step, as an equation

no_steps : (g : List (List ℕ)) (i : ℕ) → IsInOrder g → i < length g → i ≤ 0 → steps g i ≡ []
no_steps g i order lt le = by (steps g i) refl
  where
    by : (ps : List ℕ) → steps g i ≡ ps → ps ≡ []
    by [] e = refl
    by (p ∷ ps) e = absurd (let b : p < i = subst (λ qs. All (λ q. q < i) qs) e (order i lt) 0 0 (omega arith) in omega arith)

-- the test of a list is determined by its elements
pub any_agree : {X : Type 0} (p q : X → Bool) (xs : List X) → ((x : X) → Contains xs x → p x ≡ q x) → list_any p xs ≡ list_any q xs
any_agree p q [] h = refl
any_agree p q (x ∷ xs) h = (λ k. h x (0, omega arith, refl) k || any_agree p q xs (λ y c. h y (suc c.0, omega arith, c.2)) k)

-- more steps than there are places before it reach no more
more_steps : (g : List (List ℕ)) (n i j : ℕ) → IsInOrder g → i < length g → i ≤ n → within g (suc n) i j ≡ within g n i j
unfolding within
more_steps g zero i j order lt le = ap (λ ps. (i == j) || list_any (λ p. p == j) ps) (no_steps g i order lt le) ∙ or_none (i == j)
  where
    or_none : (b : Bool) → (b || false) ≡ b
    or_none true = refl
    or_none false = refl
more_steps g (suc n) i j order lt le =
    ap (λ b. (i == j) || b) (any_agree (λ p. within g (suc n) p j) (λ p. within g n p j) (steps g i) (λ p c. let b : p < i = parent_before g i p order lt c in more_steps g n p j order (omega arith) (omega arith)))

opened : (g : List (List ℕ)) (n i j : ℕ) → within g (suc n) i j ≡ ((i == j) || list_any (λ p. within g n p j) (steps g i))
unfolding within
opened g n i j = refl

-- a place reaches itself and what its parents reach
pub within_step : (g : List (List ℕ)) (i j : ℕ) → IsInOrder g → i < length g → within g (length g) i j ≡ ((i == j) || list_any (λ p. within g (length g) p j) (steps g i))
within_step g i j order lt = sym (more_steps g (length g) i j order lt (omega arith)) ∙ opened g (length g) i j
