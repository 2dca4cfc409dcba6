-- The order into which a seed puts places.
use Rattle.std.specs.Prelude.{◌≡◌, ℕ, zero, suc, ◌+◌, ◌-◌, ◌%◌, ◌^◌, ◌<◌, ◌≤◌, ◌==◌, true, false, List, [], ◌∷◌, ◌++◌, length, cond, swap, All}
use Rattle.std.specs.List.{range_with_len}
use Rattle.std.specs.List.Sorted.{IsPermutation}
use Rattle.std.proofs.Common.{arith, refl, ap, ◌∙◌, inl, inr}
use Rattle.std.proofs.lemmas.Bool.{cases_lt}
use Rattle.std.proofs.lemmas.Bool.Decides.{nat_tests}
use Rattle.std.proofs.lemmas.List.Edits.{length-swap}
use Rattle.std.proofs.lemmas.List.Elements.{All-cons}
use Rattle.std.proofs.lemmas.List.FromFn.{length-range_with_len}
use Rattle.std.proofs.lemmas.List.Sums.{sum_by-cons}
use Rattle.std.proofs.lemmas.List.Sorted.{IsPermutation-refl, IsPermutation-swap, IsPermutation-trans, All-permutation, sum_by-IsPermutation}
use Rattle.rand_chacha.specs.ChaCha.{ChaCha, key_of, next_word}
use Rattle.pick_problem.specs.Problem.{PlainProblem}
use Rattle.random_draw.specs.Order.{word, shuffled_from, order_of}
use Rattle.random_draw.specs.KeptPlaces.{AreFresh, times}

-- the state of the words of a seed once so many are used
abbrev pub words_at : List ℕ → ℕ → ChaCha
words_at seed w = record { key = key_of seed; stream = 0; word_pos = w }

pub word_is : (seed : List ℕ) (w x : ℕ) (words new : ChaCha) → words ≡ words_at seed w → (x, new) ≡ next_word 10 words → x ≡ word seed w
unfolding word
word_is seed w x words new e h = ap (λ (r : ℕ × ChaCha). r.0) h ∙ ap (λ (s : ChaCha). (next_word 10 s).0) e

pub words_are : (seed : List ℕ) (w x : ℕ) (words new : ChaCha) → words ≡ words_at seed w → w + 1 < 2 ^ 68 → (x, new) ≡ next_word 10 words → new ≡ words_at seed (w + 1)
words_are seed w x words new e l h =
    let small : (w + 1) % 2 ^ 68 ≡ w + 1 = omega arith in
    ap (λ (r : ℕ × ChaCha). r.1) h ∙ ap (λ (s : ChaCha). (next_word 10 s).1) e ∙ ap (λ (n : ℕ). words_at seed n) small

-- one exchange, and the order goes on
pub exchanged : (seed : List ℕ) (last w x : ℕ) (xs ys : List ℕ) → 0 < last → x ≡ word seed w → ys ≡ swap xs last (x % (last + 1)) → shuffled_from seed (w + 1) (last - 1) ys ≡ shuffled_from seed w last xs
unfolding shuffled_from
exchanged seed zero w x xs ys some is e = absurd (omega arith)
exchanged seed (suc i) w x xs ys some is e =
    let next : w + 1 ≡ suc w = omega arith in
    let before : suc i - 1 ≡ i = omega arith in
    let many : suc i + 1 ≡ suc (suc i) = omega arith in
    let same : ys ≡ swap xs (suc i) (word seed w % suc (suc i)) = e ∙ ap (λ (n : ℕ). swap xs (suc i) (n % (suc i + 1))) is ∙ ap (λ (n : ℕ). swap xs (suc i) (word seed w % n)) many in
    rw (next, before, same) refl

-- no entry is left to exchange
pub whole : (seed : List ℕ) (w last : ℕ) (xs : List ℕ) → last ≡ 0 → xs ≡ shuffled_from seed w last xs
unfolding shuffled_from
whole seed w last xs e = rw e refl

moved : (seed : List ℕ) (w last : ℕ) (xs : List ℕ) → last ≤ length xs - 1 → IsPermutation xs (shuffled_from seed w last xs)
unfolding shuffled_from
moved seed w zero xs h = IsPermutation-refl xs
moved seed w (suc i) xs h =
    let other : ℕ = word seed w % suc (suc i) in
    let ys : List ℕ = swap xs (suc i) other in
    IsPermutation-trans xs ys (shuffled_from seed (suc w) i ys)
    (IsPermutation-swap xs ys (suc i) other (omega arith) (omega arith) refl)
    (moved seed (suc w) i ys (omega (arith, length-swap xs (suc i) other)))

pub order_moves : (seed : List ℕ) (n : ℕ) → IsPermutation (range_with_len 0 n) (order_of seed n)
unfolding order_of
order_moves seed n = moved seed 0 (n - 1) (range_with_len 0 n) (omega (arith, length-range_with_len 0 n))

-- the places with one more
pub one_more_place : (a n : ℕ) → range_with_len a (n + 1) ≡ range_with_len a n ++ (a + n) ∷ []
one_more_place a zero = let e : a + 0 ≡ a = omega arith in rw e refl
one_more_place a (suc n) =
    let e : a + 1 + n ≡ a + suc n = omega arith in
    let f : suc n + 1 ≡ suc (n + 1) = omega arith in
    rw f (ap (λ (r : List ℕ). a ∷ r) (one_more_place (a + 1) n ∙ ap (λ (k : ℕ). range_with_len (a + 1) n ++ k ∷ []) e))

below_all : (a n m : ℕ) → a + n ≤ m → All (λ j. j < m) (range_with_len a n)
below_all a zero m h = λ k d l. absurd (omega arith)
below_all a (suc n) m h = All-cons (λ j. j < m) a (range_with_len (a + 1) n) (omega arith) (below_all (a + 1) n m (omega arith))

times_past : (j a : ℕ) (xs : List ℕ) → (a == j) ≡ false → times j (a ∷ xs) ≡ times j xs
times_past j a xs other = let none : ◌≡◌ {A = ℕ} (cond (a == j) 1 0) 0 = rw other refl in omega (arith, sum_by-cons (λ k. cond (k == j) 1 0) a xs, none)

none_below : (j a n : ℕ) → j < a → times j (range_with_len a n) ≡ 0
none_below j a zero h = refl
none_below j a (suc n) h =
    let other : (a == j) ≡ false = grind (arith, nat_tests) in
    times_past j a (range_with_len (a + 1) n) other ∙ (none_below j (a + 1) n (omega arith))

pub none_above : (j a n : ℕ) → a + n ≤ j → times j (range_with_len a n) ≡ 0
none_above j a zero h = refl
none_above j a (suc n) h =
    let other : (a == j) ≡ false = grind (arith, nat_tests) in
    times_past j a (range_with_len (a + 1) n) other ∙ (none_above j (a + 1) n (omega arith))

-- each place stands once
pub once_each : (j a n : ℕ) → a ≤ j → j < a + n → times j (range_with_len a n) ≡ 1
once_each j a zero l h = absurd (omega arith)
once_each j a (suc n) l h =
    elim (cases_lt a j) [
      | inl more ↦
          let other : (a == j) ≡ false = grind (arith, nat_tests) in
          times_past j a (range_with_len (a + 1) n) other ∙ once_each j (a + 1) n (omega arith) (omega arith)
      | inr same ↦
          let here : (a == j) ≡ true = grind (arith, nat_tests) in
          let one : ◌≡◌ {A = ℕ} (cond (a == j) 1 0) 1 = rw here refl in
          omega (arith, sum_by-cons (λ k. cond (k == j) 1 0) a (range_with_len (a + 1) n), one, none_below j (a + 1) n (omega arith))
    ]

most_once : (j n : ℕ) → times j (range_with_len 0 n) ≤ 1
most_once j n =
    elim (cases_lt j n) [
      | inl l ↦ omega (arith, once_each j 0 n (omega arith) (omega arith))
      | inr g ↦ omega (arith, none_above j 0 n (omega arith))
    ]

-- a place stands as often in an order as in the places
pub times-order : (seed : List ℕ) (j n : ℕ) → times j (order_of seed n) ≡ times j (range_with_len 0 n)
times-order seed j n = sum_by-IsPermutation (λ k. cond (k == j) 1 0) (range_with_len 0 n) (order_of seed n) (order_moves seed n)

-- the places of a pool in any order are to be added
pub order_fresh : (p : PlainProblem) (seed : List ℕ) → AreFresh p [] (order_of seed (length p.items))
order_fresh p seed =
    record {
      below = All-permutation (λ j. j < length p.items) (range_with_len 0 (length p.items)) (order_of seed (length p.items)) (order_moves seed (length p.items)) (below_all 0 (length p.items) (length p.items) (omega arith));
      once = λ j. omega (arith, times-order seed j (length p.items), most_once j (length p.items));
    }
