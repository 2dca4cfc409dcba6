-- The marks of a place and its ancestors, put from the back of the list.
use Rattle.std.proofs.Common.{◌≡◌, ◌∙◌, ◌⊎◌, inl, inr, ℕ, ◌+◌, ◌<◌, ◌≤◌, ◌==◌, ◌||◌, ◌&&◌, Bool, true, false, List, length, refl, sym, subst, arith, Contains}
use Rattle.std.specs.List.{list_any}
use Rattle.std.proofs.lemmas.Bool.{and_from, and_parts, cases_lt, eq-eqb, eqb-true, or_cases, or_left, or_right, true≢false}
use Rattle.fund_base.proofs.Lists.{any_found}
use Rattle.payment_states.specs.Graph.{IsInOrder, Reaches, steps, within}
use Rattle.payment_states.specs.Graph.Reaches.{itself, through}
use Rattle.payment_states.proofs.Paths.{any_has, decides, last_step, no_later, parent_before, then_step}

-- j is i, or a parent of a place from s on that i reaches
abbrev pub Known : List (List ℕ) → ℕ → ℕ → ℕ → Type 0
Known g i s j = (i ≡ j) ⊎ ((m : ℕ) × (s ≤ m) × Reaches g i m × Contains (steps g m) j)

-- just what is known is marked
abbrev pub AreMarks : List (List ℕ) → ℕ → ℕ → (ℕ → Bool) → Type 0
AreMarks g i s marks = (j : ℕ) → (marks j ≡ true → Known g i s j) × (Known g i s j → marks j ≡ true)

has : (ps : List ℕ) (j : ℕ) → list_any (λ p. p == j) ps ≡ true → Contains ps j
has ps j h = let f = any_found (λ p. p == j) ps h in subst (Contains ps) (eqb-true f.0 j f.2) f.1

is_had : (ps : List ℕ) (j : ℕ) → Contains ps j → list_any (λ p. p == j) ps ≡ true
is_had ps j c = any_has (λ p. p == j) ps j c (eq-eqb j j refl)

known_path : (g : List (List ℕ)) (i s j : ℕ) → Known g i s j → Reaches g i j
known_path g i s j (inl e) = subst (Reaches g i) e itself
known_path g i s j (inr f) = then_step g f.2 j f.3

-- a place that is reached is known from the places after it
path_known : (g : List (List ℕ)) (i k : ℕ) → IsInOrder g → i < length g → Reaches g i k → Known g i (k + 1) k
path_known g i k order lt r = by (last_step g r)
  where
    by : (i ≡ k) ⊎ ((m : ℕ) × Reaches g i m × Contains (steps g m) k) → Known g i (k + 1) k
    by (inl e) = inl e
    by (inr f) =
        let le : f.0 ≤ i = no_later g order f.1 lt in
        let b : k < f.0 = parent_before g f.0 k order (omega arith) f.2 in
        inr (f.0, omega arith, f.1, f.2)

-- the start alone, seen from any place after it
pub known_from : (g : List (List ℕ)) (i s : ℕ) (marks : ℕ → Bool) → IsInOrder g → i < length g → i < s → ((j : ℕ) → marks j ≡ (i == j)) → AreMarks g i s marks
known_from g i s marks order lt after is j = (λ h. inl (eqb-true i j (sym (is j) ∙ h)), back)
  where
    back : Known g i s j → marks j ≡ true
    back (inl e) = is j ∙ eq-eqb i j e
    back (inr f) = absurd (let le : f.0 ≤ i = no_later g order f.2 lt in let b = f.1 in omega arith)

pub known_start : (g : List (List ℕ)) (i : ℕ) (marks : ℕ → Bool) → IsInOrder g → i < length g → ((j : ℕ) → marks j ≡ (i == j)) → AreMarks g i (i + 1) marks
known_start g i marks order lt is = known_from g i (i + 1) marks order lt (omega arith) is

-- one place more
pub known_step : (g : List (List ℕ)) (i s k : ℕ) (old new : ℕ → Bool) → IsInOrder g → i < length g → s ≡ k + 1 → AreMarks g i s old
    → ((j : ℕ) → new j ≡ ((old k && list_any (λ p. p == j) (steps g k)) || old j)) → AreMarks g i k new
known_step g i s k old new order lt e are is j = (λ h. there (or_cases (old k && list_any (λ p. p == j) (steps g k)) (old j) (sym (is j) ∙ h)), λ h. is j ∙ back h)
  where
    more : Known g i s j → Known g i k j
    more (inl e) = inl e
    more (inr f) = inr (f.0, (let b = f.1 in omega arith), f.2, f.3)

    there : ((old k && list_any (λ p. p == j) (steps g k)) ≡ true) ⊎ (old j ≡ true) → Known g i k j
    there (inl h) = let p = and_parts (old k) (list_any (λ p. p == j) (steps g k)) h in inr (k, omega arith, known_path g i s k ((are k).0 p.0), has (steps g k) j p.1)
    there (inr h) = more ((are j).0 h)

    split : (m : ℕ) → Reaches g i m → Contains (steps g m) j → (k < m) ⊎ (m ≤ k) → k ≤ m → ((old k && list_any (λ p. p == j) (steps g k)) || old j) ≡ true
    split m r c (inl b) le = or_right (old k && list_any (λ p. p == j) (steps g k)) (old j) ((are j).1 (inr (m, omega arith, r, c)))
    split m r c (inr b) le =
        let same : m ≡ k = omega arith in
        let here : Reaches g i k = subst (Reaches g i) same r in
        or_left (old k && list_any (λ p. p == j) (steps g k)) (old j)
        (and_from (old k) (list_any (λ p. p == j) (steps g k)) ((are k).1 (subst (λ n. Known g i n k) (sym e) (path_known g i k order lt here))) (is_had (steps g k) j (subst (λ n. Contains (steps g n) j) same c)))

    back : Known g i k j → ((old k && list_any (λ p. p == j) (steps g k)) || old j) ≡ true
    back (inl e) = or_right (old k && list_any (λ p. p == j) (steps g k)) (old j) ((are j).1 (inl e))
    back (inr f) = split f.0 f.2 f.3 (cases_lt k f.0) f.1

-- what holds of the start, and with a place of its parents, holds of all that is reached
walk : (g : List (List ℕ)) (i : ℕ) (P : ℕ → Type 0) → ((m j : ℕ) → Reaches g i m → P m → Contains (steps g m) j → P j) → {a k : ℕ} → Reaches g a k → Reaches g i a → P a → P k
walk g i P step itself r h = h
walk g i P step (through {i = a} {p = p} {j = k} c rest) r h = walk g i P step rest (then_step g r p c) (step a p r h c)

-- at the end just its ancestors and itself are marked
pub known_end : (g : List (List ℕ)) (i s low : ℕ) (marks : ℕ → Bool) → IsInOrder g → i < length g → s ≤ low → AreMarks g i s marks → ((j : ℕ) → j < low → marks j ≡ false) → (j : ℕ) → marks j ≡ within g (length g) i j
known_end g i s low marks order lt le are none j = same (marks j) (within g (length g) i j) (λ h. (decides g i j order lt).1 (known_path g i s j ((are j).0 h))) (λ h. (are j).1 (all ((decides g i j order lt).0 h)))
  where
    same : (a b : Bool) → (a ≡ true → b ≡ true) → (b ≡ true → a ≡ true) → a ≡ b
    same true b f h = sym (f refl)
    same false true f h = h refl
    same false false f h = refl

    at : (m : ℕ) → Known g i s m → (m < low) ⊎ (low ≤ m) → s ≤ m
    at m k (inl b) = absurd (true≢false (sym ((are m).1 k) ∙ none m b))
    at m k (inr b) = omega arith

    all : Reaches g i j → Known g i s j
    all r = walk g i (Known g i s) (λ m j r k c. inr (m, at m k (cases_lt m low), r, c)) r itself (inl refl)
