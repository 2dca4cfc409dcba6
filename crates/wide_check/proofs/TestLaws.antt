-- What the tests of a node mean.
use Rattle.std.specs.Prelude.{◌≡◌, ◌≢◌, ◌↔◌, ℕ, suc, ◌+◌, ◌-◌, ◌<◌, ◌≤◌, true, false, List, [], ◌∷◌, ◌++◌, length, All, Some, slice_get}
use Rattle.std.proofs.Common.{arith, refl, sym, ap, subst, inl, inr, ◌∙◌}
use Rattle.std.proofs.lemmas.Bool.{cases_lt}
use Rattle.std.proofs.lemmas.List.Elements.{All-head, All-nil, All-tail}
use Rattle.pick_problem.specs.Pool.{item_at}
use Rattle.pick_problem.specs.Problem.{PlainProblem, Rising, value_of, weight_of}
use Rattle.pick_problem.specs.Later.{behind_twins, is_twin}
use Rattle.pick_problem.specs.Tails.{IsRunEnd}
use Rattle.pick_problem.proofs.RisingLaws.{Rising-avoids, Rising-push, Rising-until}
use Rattle.pick_problem.proofs.SoundLaws.{Ends, empty, pushed, ends}
use Rattle.pick_problem.proofs.TailLaws.{run_is}
use Rattle.wide_check.specs.Wide.{IsWide}

-- ---- the last place

only : {x j : ℕ} → x ≡ j → x ∷ [] ≡ j ∷ []
only same = cc

with_first : (x : ℕ) (q r : List ℕ) → q ≡ r → x ∷ q ≡ x ∷ r
with_first x q r same = cc

-- a list that has a last element is a front and that element
pub last_split : (q : List ℕ) (j : ℕ) → slice_get q (length q - 1) ≡ Some j → (front : List ℕ) × (q ≡ front ++ j ∷ [])
last_split [] j e = absurd (cc)
last_split (x ∷ []) j e = let same : x ≡ j = cc in ([], only same)
last_split (x ∷ y ∷ ys) j e =
    let at : length (x ∷ y ∷ ys) - 1 ≡ suc (length (y ∷ ys) - 1) = omega arith in
    let rest = last_split (y ∷ ys) j (sym (ap (λ (k : ℕ). slice_get (x ∷ y ∷ ys) k) at) ∙ e) in
    let whole : y ∷ ys ≡ rest.0 ++ j ∷ [] = rest.1 in
    (x ∷ rest.0, with_first x (y ∷ ys) (rest.0 ++ j ∷ []) whole)

pub last_at : (front : List ℕ) (j : ℕ) → slice_get (front ++ j ∷ []) (length (front ++ j ∷ []) - 1) ≡ Some j
last_at [] j = refl
last_at (x ∷ []) j = refl
last_at (x ∷ y ∷ ys) j =
    let at : length (x ∷ y ∷ ys ++ j ∷ []) - 1 ≡ suc (length (y ∷ ys ++ j ∷ []) - 1) = omega arith in
    ap (λ (k : ℕ). slice_get (x ∷ y ∷ ys ++ j ∷ []) k) at ∙ last_at (y ∷ ys) j

-- what holds of each holds of the last
last_of : (P : ℕ → Type 0) (xs : List ℕ) (j : ℕ) → All P (xs ++ j ∷ []) → P j
last_of P [] j all = All-head P j [] all
last_of P (x ∷ xs) j all = last_of P xs j (All-tail P x (xs ++ j ∷ []) all)

-- ---- selections

some_place : (p : PlainProblem) (q : List ℕ) → 1 ≤ p.lo → p.lo ≤ value_of p q → 0 < length q
some_place p [] some reaches = absurd (omega (arith, some, reaches))
some_place p (j ∷ q) some reaches = omega arith

pub wide_of : (p : PlainProblem) (q : List ℕ) → 1 ≤ p.lo → Rising (length p.items) 0 q → p.lo ≤ value_of p q →
    value_of p q ≤ p.hi → weight_of p q ≤ p.most_weight → IsWide p q
wide_of p q some rising reaches under light =
    record { some = some_place p q some reaches; rising = rising; reaches = reaches; under = under; light = light }

-- ---- twins

avoids_by : (t : ℕ) (q : List ℕ) → Ends q → 0 < t → Rising t 0 q → (slice_get q (length q - 1) ≡ Some (t - 1) → ⊥) →
    All (λ j. j ≢ t - 1) q
avoids_by t q empty some rising other = All-nil (λ j. j ≢ t - 1)
avoids_by t q (pushed front last) some rising other =
    let until = Rising-until t 0 front last rising in
    let apart : last ≢ t - 1 = λ e. other (last_at front last ∙ ap (λ (j : ℕ). Some j) e) in
    Rising-avoids (t - 1) 0 (front ++ last ∷ []) (Rising-push (t - 1) 0 last front (omega arith) (omega (arith, until.2, apart)) until.0)

-- the place before isn't chosen, where it isn't the last one
pub avoids_before : (t : ℕ) (q : List ℕ) → 0 < t → Rising t 0 q → (slice_get q (length q - 1) ≡ Some (t - 1) → ⊥) →
    All (λ j. j ≢ t - 1) q
avoids_before t q some rising other = avoids_by t q (ends q) some rising other

pub last_is_chosen : (t : ℕ) (q : List ℕ) → slice_get q (length q - 1) ≡ Some (t - 1) → All (λ j. j ≢ t - 1) q → ⊥
last_is_chosen t q e avoids =
    let split = last_split q (t - 1) e in
    last_of (λ j. j ≢ t - 1) split.0 (t - 1) (subst (λ (r : List ℕ). All (λ j. j ≢ t - 1) r) split.1 avoids) refl

-- a run goes on after its first place exactly where the next place is a twin
pub twin_next : (p : PlainProblem) (t end : ℕ) → 0 < t → t < length p.items → end ≡ behind_twins p (t - 1 + 1) →
    (t < end) ↔ (is_twin p.kind (item_at p.items (t - 1)) (item_at p.items t) ≡ true)
twin_next p t end some below e =
    let run : IsRunEnd p (t - 1) (behind_twins p (t - 1 + 1)) = run_is p (t - 1) (omega (arith, below)) in (
      λ l. run.twins t (omega (arith, some)) (omega (arith, l, e)),
      λ twin. elim (cases_lt t end) [
        | inl l ↦ l
        | inr g ↦
            let at : behind_twins p (t - 1 + 1) ≡ t = omega (arith, g, e, run.behind, some) in
            let other : is_twin p.kind (item_at p.items (t - 1)) (item_at p.items t) ≡ false =
            subst (λ (k : ℕ). is_twin p.kind (item_at p.items (t - 1)) (item_at p.items k) ≡ false) at (run.ends (omega (arith, at, below))) in
            absurd (let clash : true ≡ false = sym twin ∙ other in cc)
      ],
    )
