-- What orders are, in words of their own.
use Rattle.std.specs.Prelude.{◌≡◌, ℕ, zero, suc, ◌-◌, ◌%◌, ◌<◌, ◌≤◌, List, length, swap, get_or, slice_index}
use Rattle.std.specs.List.{range_with_len}
use Rattle.std.proofs.Common.{arith, zero-add, refl, sym, ap, ◌∙◌, inl, inr}
use Rattle.std.proofs.lemmas.Bool.{cases_lt}
use Rattle.std.proofs.lemmas.List.{get_or-set_same, get_or-set_other}
use Rattle.std.proofs.lemmas.List.Edits.{length-swap, swap_is}
use Rattle.std.proofs.lemmas.List.FromFn.{length-range_with_len, get_or-range_with_len}
use Rattle.std.proofs.Math.ListN.{set, length-set}
use Rattle.random_draw.specs.Order.{word, shuffled_from, order_of}
use Rattle.random_draw.specs.KeptPlaces.{times}
use Rattle.random_draw.proofs.OrderLaws.{once_each, none_above, times-order}

pub stands_once : (seed : List ℕ) (n j : ℕ) → j < n → times j (order_of seed n) ≡ 1
stands_once seed n j l = times-order seed j n ∙ once_each j 0 n (omega arith) (omega arith)

pub stands_never : (seed : List ℕ) (n j : ℕ) → n ≤ j → times j (order_of seed n) ≡ 0
stands_never seed n j l = times-order seed j n ∙ none_above j 0 n (omega arith)

-- an entry after the two that are exchanged stays
swap_behind : (xs : List ℕ) (i j k : ℕ) → i < length xs → j ≤ i → i < k → get_or (swap xs i j) k 0 ≡ get_or xs k 0
swap_behind xs i j k a b c =
    let same : get_or (swap xs i j) k 0 ≡ get_or (set (set xs i (get_or xs j 0)) j (get_or xs i 0)) k 0 = ap (λ (ys : List ℕ). get_or ys k 0) (sym (swap_is xs i j 0 a (omega arith))) in
    same ∙ (get_or-set_other (set xs i (get_or xs j 0)) j k (get_or xs i 0) 0 (λ e. omega (arith, e)) ∙ get_or-set_other xs i k (get_or xs j 0) 0 (λ e. omega (arith, e)))

-- what stood at the one number stands at the other
swap_at : (xs : List ℕ) (i j : ℕ) → i < length xs → j ≤ i → get_or (swap xs i j) i 0 ≡ get_or xs j 0
swap_at xs i j a b =
    let ys : List ℕ = set xs i (get_or xs j 0) in
    let same : get_or (swap xs i j) i 0 ≡ get_or (set (set xs i (get_or xs j 0)) j (get_or xs i 0)) i 0 = ap (λ (zs : List ℕ). get_or zs i 0) (sym (swap_is xs i j 0 a (omega arith))) in
    elim (cases_lt j i) [
      | inl l ↦ same ∙ (get_or-set_other (set xs i (get_or xs j 0)) j i (get_or xs i 0) 0 (λ e. omega (arith, e)) ∙ get_or-set_same xs i (get_or xs j 0) 0 a)
      | inr g ↦
          let e : j ≡ i = omega arith in
          same ∙ (ap (λ (k : ℕ). get_or (set (set xs i (get_or xs j 0)) j (get_or xs i 0)) k 0) (sym e) ∙ (get_or-set_same (set xs i (get_or xs j 0)) j (get_or xs i 0) 0 (omega (arith, length-set xs i (get_or xs j 0))) ∙ ap (λ (k : ℕ). get_or xs k 0) (sym e)))
    ]

-- entries after those that are left to exchange stay
stays_behind : (seed : List ℕ) (w i k : ℕ) (xs : List ℕ) → i ≤ length xs - 1 → i < k → get_or (shuffled_from seed w i xs) k 0 ≡ get_or xs k 0
unfolding shuffled_from
stays_behind seed w zero k xs few l = refl
stays_behind seed w (suc i) k xs few l =
    let other : ℕ = word seed w % suc (suc i) in
    stays_behind seed (suc w) i k (swap xs (suc i) other) (omega (arith, length-swap xs (suc i) other)) (omega arith) ∙ swap_behind xs (suc i) other k (omega arith) (omega arith) l

pub last_entry : (seed : List ℕ) (n : ℕ) → 0 < n → slice_index (order_of seed n) (n - 1) ≡ word seed 0 % n
unfolding order_of shuffled_from
last_entry seed zero l = absurd (omega arith)
last_entry seed (suc zero) l = omega arith
last_entry seed (suc (suc i)) l =
    let xs : List ℕ = range_with_len 0 (suc (suc i)) in
    let other : ℕ = word seed 0 % suc (suc i) in
    let len : length xs ≡ suc (suc i) = length-range_with_len 0 (suc (suc i)) in
    let before : suc (suc i) - 1 ≡ suc i = omega arith in
    rw before
    (stays_behind seed 1 i (suc i) (swap xs (suc i) other) (omega (arith, length-swap xs (suc i) other)) (omega arith)
    ∙ (swap_at xs (suc i) other (omega arith) (omega arith) ∙ (get_or-range_with_len 0 (suc (suc i)) other 0 (omega arith) ∙ zero-add other)))
