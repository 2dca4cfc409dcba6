-- What the tests of a node mean.
use Rattle.std.specs.Prelude.{◌≡◌, ◌≢◌, ◌↔◌, ℕ, suc, ◌+◌, ◌-◌, ◌*◌, ◌/◌, ◌%◌, ◌<◌, ◌≤◌, true, false, List, [], ◌∷◌, ◌++◌, length, min, All, Some, slice_get}
use Rattle.std.proofs.Common.{arith, refl, sym, ap, subst, inl, inr, ◌∙◌}
use Rattle.std.proofs.lemmas.Bool.{cases_lt}
use Rattle.std.proofs.lemmas.Grind.{div_ceil_times}
use Rattle.std.proofs.lemmas.List.Elements.{All-cons, All-head, All-nil, All-tail}
use Rattle.std.proofs.Math.Nat.{mul-le-mul_right}
use Rattle.pick_problem.specs.declared.item.Kind.{Kind}
use Rattle.pick_problem.specs.declared.item.Kind.TheVariants.{Changeless, Lean}
use Rattle.pick_problem.specs.Pool.{item_at}
use Rattle.pick_problem.specs.Problem.{PlainProblem, IsProblem, Rising, value_of, weight_of}
use Rattle.pick_problem.specs.Admissible.{Fits, IsAdmissible, NeedsEach}
use Rattle.pick_problem.specs.Later.{behind_twins, is_twin}
use Rattle.pick_problem.specs.Steps.{needed}
use Rattle.pick_problem.specs.Tails.{IsRunEnd}
use Rattle.pick_problem.proofs.RisingLaws.{Rising-avoids, Rising-push, Rising-until, needed-le, value-falls}
use Rattle.pick_problem.proofs.SoundLaws.{Ends, empty, pushed, ends}
use Rattle.pick_problem.proofs.TailLaws.{run_is}

-- ---- the last place

only : {x j : ℕ} → x ≡ j → x ∷ [] ≡ j ∷ []
only same = cc

with_first : (x : ℕ) (q r : List ℕ) → q ≡ r → x ∷ q ≡ x ∷ r
with_first x q r same = cc

-- a list that has a last element is a front and that element
pub last_split : (q : List ℕ) (j : ℕ) → slice_get q (length q - 1) ≡ Some j → (front : List ℕ) × (q ≡ front ++ j ∷ [])
last_split [] j e = absurd (cc)
last_split (x ∷ []) j e = let same : x ≡ j = cc in ([], only same)
last_split (x ∷ y ∷ ys) j e =
    let at : length (x ∷ y ∷ ys) - 1 ≡ suc (length (y ∷ ys) - 1) = omega arith in
    let rest = last_split (y ∷ ys) j (sym (ap (λ (k : ℕ). slice_get (x ∷ y ∷ ys) k) at) ∙ e) in
    let whole : y ∷ ys ≡ rest.0 ++ j ∷ [] = rest.1 in
    (x ∷ rest.0, with_first x (y ∷ ys) (rest.0 ++ j ∷ []) whole)

pub last_at : (front : List ℕ) (j : ℕ) → slice_get (front ++ j ∷ []) (length (front ++ j ∷ []) - 1) ≡ Some j
last_at [] j = refl
last_at (x ∷ []) j = refl
last_at (x ∷ y ∷ ys) j =
    let at : length (x ∷ y ∷ ys ++ j ∷ []) - 1 ≡ suc (length (y ∷ ys ++ j ∷ []) - 1) = omega arith in
    ap (λ (k : ℕ). slice_get (x ∷ y ∷ ys ++ j ∷ []) k) at ∙ last_at (y ∷ ys) j

pub last_below : (n : ℕ) (q : List ℕ) (j : ℕ) → Rising n 0 q → Some j ≡ slice_get q (length q - 1) → j < n
last_below n q j rising e =
    let split = last_split q j (sym e) in
    omega (arith, Rising-until n 0 split.0 j (subst (λ (r : List ℕ). Rising n 0 r) split.1 rising))

-- no chosen place has less value than the last one
no_less : (p : PlainProblem) → IsProblem p → (t : ℕ) → t < length p.items → (b : ℕ) (xs : List ℕ) → Rising t b xs →
    All (λ i. (item_at p.items t).value ≤ (item_at p.items i).value) (xs ++ t ∷ [])
no_less p is t below b [] h = All-cons (λ i. (item_at p.items t).value ≤ (item_at p.items i).value) t [] (omega arith) (All-nil (λ i. (item_at p.items t).value ≤ (item_at p.items i).value))
no_less p is t below b (x ∷ xs) h =
    All-cons (λ i. (item_at p.items t).value ≤ (item_at p.items i).value) x (xs ++ t ∷ []) (value-falls p is x t (omega (arith, h.1)) below) (no_less p is t below (x + 1) xs h.2)

-- what holds of each holds of the last
last_of : (P : ℕ → Type 0) (xs : List ℕ) (j : ℕ) → All P (xs ++ j ∷ []) → P j
last_of P [] j all = All-head P j [] all
last_of P (x ∷ xs) j all = last_of P xs j (All-tail P x (xs ++ j ∷ []) all)

-- each place is needed exactly where the last one is
pub needs_last : (p : PlainProblem) → IsProblem p → (q : List ℕ) (j : ℕ) → Rising (length p.items) 0 q →
    Some j ≡ slice_get q (length q - 1) → (value_of p q < p.lo + (item_at p.items j).value) ↔ NeedsEach p q
needs_last p is q j rising e =
    let split = last_split q j (sym e) in
    let below : j < length p.items = last_below (length p.items) q j rising e in
    let until = Rising-until (length p.items) 0 split.0 j (subst (λ (r : List ℕ). Rising (length p.items) 0 r) split.1 rising) in
    let least : All (λ i. (item_at p.items j).value ≤ (item_at p.items i).value) q =
    subst (λ (r : List ℕ). All (λ i. (item_at p.items j).value ≤ (item_at p.items i).value) r) (sym split.1) (no_less p is j below 0 split.0 until.0) in
    let of_last : NeedsEach p q → value_of p q - (item_at p.items j).value < p.lo =
    λ needs. last_of (λ i. value_of p q - (item_at p.items i).value < p.lo) split.0 j (subst (λ (r : List ℕ). All (λ i. value_of p q - (item_at p.items i).value < p.lo) r) split.1 needs) in (
      λ low k d within. omega (arith, low, least k d within, is.some),
      λ needs. omega (arith, of_last needs, is.some),
    )

-- ---- admissible

pub needs_of : (p : PlainProblem) (q : List ℕ) → p.kind ≡ Changeless → IsAdmissible p q →
    (value_of p q ≤ p.hi) × NeedsEach p q
needs_of p q kind good = let fits : Fits Changeless p q = subst (λ (k : Kind). Fits k p q) kind good.fits in fits

some_place : (p : PlainProblem) (q : List ℕ) → 1 ≤ p.lo → p.lo ≤ value_of p q → 0 < length q
some_place p [] some reaches = absurd (omega (arith, some, reaches))
some_place p (j ∷ q) some reaches = omega arith

pub admissible_changeless : (p : PlainProblem) (q : List ℕ) → 1 ≤ p.lo → Rising (length p.items) 0 q →
    p.lo ≤ value_of p q → weight_of p q ≤ p.most_weight → p.kind ≡ Changeless → value_of p q ≤ p.hi → NeedsEach p q →
    IsAdmissible p q
admissible_changeless p q some rising reaches light kind below needs =
    record { some = some_place p q some reaches; rising = rising; reaches = reaches; light = light; fits = let fits : Fits Changeless p q = (below, needs) in subst (λ (k : Kind). Fits k p q) (sym kind) fits }

pub admissible_lean : (p : PlainProblem) (q : List ℕ) → 1 ≤ p.lo → Rising (length p.items) 0 q → p.lo ≤ value_of p q →
    weight_of p q ≤ p.most_weight → p.kind ≡ Lean → IsAdmissible p q
admissible_lean p q some rising reaches light kind =
    record { some = some_place p q some reaches; rising = rising; reaches = reaches; light = light; fits = let fits : Fits Lean p q = tt in subst (λ (k : Kind). Fits k p q) (sym kind) fits }

-- ---- twins

avoids_by : (t : ℕ) (q : List ℕ) → Ends q → 0 < t → Rising t 0 q → (slice_get q (length q - 1) ≡ Some (t - 1) → ⊥) →
    All (λ j. j ≢ t - 1) q
avoids_by t q empty some rising other = All-nil (λ j. j ≢ t - 1)
avoids_by t q (pushed front last) some rising other =
    let until = Rising-until t 0 front last rising in
    let apart : last ≢ t - 1 = λ e. other (last_at front last ∙ ap (λ (j : ℕ). Some j) e) in
    Rising-avoids (t - 1) 0 (front ++ last ∷ []) (Rising-push (t - 1) 0 last front (omega arith) (omega (arith, until.2, apart)) until.0)

-- the place before isn't chosen, where it isn't the last one
pub avoids_before : (t : ℕ) (q : List ℕ) → 0 < t → Rising t 0 q → (slice_get q (length q - 1) ≡ Some (t - 1) → ⊥) →
    All (λ j. j ≢ t - 1) q
avoids_before t q some rising other = avoids_by t q (ends q) some rising other

pub last_is_chosen : (t : ℕ) (q : List ℕ) → slice_get q (length q - 1) ≡ Some (t - 1) → All (λ j. j ≢ t - 1) q → ⊥
last_is_chosen t q e avoids =
    let split = last_split q (t - 1) e in
    last_of (λ j. j ≢ t - 1) split.0 (t - 1) (subst (λ (r : List ℕ). All (λ j. j ≢ t - 1) r) split.1 avoids) refl

-- a run goes on after its first place exactly where the next place is a twin
pub twin_next : (p : PlainProblem) (t end : ℕ) → 0 < t → t < length p.items → end ≡ behind_twins p (t - 1 + 1) →
    (t < end) ↔ (is_twin p.kind (item_at p.items (t - 1)) (item_at p.items t) ≡ true)
twin_next p t end some below e =
    let run : IsRunEnd p (t - 1) (behind_twins p (t - 1 + 1)) = run_is p (t - 1) (omega (arith, below)) in (
      λ l. run.twins t (omega (arith, some)) (omega (arith, l, e)),
      λ twin. elim (cases_lt t end) [
        | inl l ↦ l
        | inr g ↦
            let at : behind_twins p (t - 1 + 1) ≡ t = omega (arith, g, e, run.behind, some) in
            let other : is_twin p.kind (item_at p.items (t - 1)) (item_at p.items t) ≡ false =
            subst (λ (k : ℕ). is_twin p.kind (item_at p.items (t - 1)) (item_at p.items k) ≡ false) at (run.ends (omega (arith, at, below))) in
            absurd (let clash : true ≡ false = sym twin ∙ other in cc)
      ],
    )

-- ---- how many more are needed

pub needed_is : (n v : ℕ) → 0 < v → needed n v ≡ n / v + min 1 (n % v)
needed_is n v some =
    let times : (n ≤ (n / v + min 1 (n % v)) * v) × ((n / v + min 1 (n % v)) * v < n + v) = div_ceil_times n v some in
    let most : needed n v ≤ n / v + min 1 (n % v) = needed-le n v (n / v + min 1 (n % v)) some times.0 in
    let enough : n ≤ needed n v * v = omega arith in
    elim (cases_lt (needed n v) (n / v + min 1 (n % v))) [
      | inl l ↦
          let more : (needed n v + 1) * v ≤ (n / v + min 1 (n % v)) * v = mul-le-mul_right v (omega (arith, l)) in
          absurd (omega (arith, more, enough, times.1))
      | inr g ↦ omega (arith, g, most)
    ]
