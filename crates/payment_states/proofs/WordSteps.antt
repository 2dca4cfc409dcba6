-- Flags of 64 places in one word.
use Rattle.std.proofs.Common.{◌≡◌, ◌∙◌, ◌⊎◌, inl, inr, ℕ, zero, suc, ◌+◌, ◌-◌, ◌*◌, ◌%◌, ◌<◌, ◌≤◌, ◌==◌, ◌||◌, ◌&&◌, ◌^◌, Bool, true, false, cond, List, length, map, get_or, set, min, max, refl, sym, ap, subst, arith}
use Rattle.std.specs.Prelude.{bit_and, bit_or, count_by, count_ones, nat_lt}
use Rattle.std.specs.Int.{bit_at, w64}
use Rattle.std.proofs.lemmas.Bool.{cases_eq, cases_lt, cases_order, eq-eqb, le-ltb, lt-ltb, ne_eqb}
use Rattle.std.proofs.lemmas.List.{get_or-set_other, get_or-set_same, get_or_past}
use Rattle.std.proofs.lemmas.Nat.{and_le_l}
use Rattle.std.proofs.lemmas.Nat.Bits.{bit_at-lt, bit_at-zero, bit_at_and, bit_at_or, bit_at_set_other, bit_at_set_same, same_from_bits_below}
use Rattle.std.proofs.lemmas.Simd.{bit_mask_l, mask_l-lt, ones-mask_l}
use lib.Lanes.{mask_l}
use Rattle.payment_states.specs.Graph.{below}
use Rattle.payment_states.specs.Words.{flag_count, has_flag}
use Rattle.payment_states.proofs.Below.{get_or-map_below, length-map_below}
use Rattle.payment_states.proofs.CountSteps.{count_agree}

pub no_flag : (k : ℕ) → has_flag 0 k ≡ false
unfolding has_flag
no_flag k = ap (λ n. n == 1) (bit_at-zero k)

either : (x y : ℕ) → x < 2 → y < 2 → (max x y == 1) ≡ ((x == 1) || (y == 1))
either zero zero a b = refl
either zero (suc zero) a b = refl
either (suc zero) zero a b = refl
either (suc zero) (suc zero) a b = refl
either zero (suc (suc y)) a b = absurd (omega arith)
either (suc zero) (suc (suc y)) a b = absurd (omega arith)
either (suc (suc x)) y a b = absurd (omega arith)

both : (x y : ℕ) → x < 2 → y < 2 → (min x y == 1) ≡ ((x == 1) && (y == 1))
both zero zero a b = refl
both zero (suc zero) a b = refl
both (suc zero) zero a b = refl
both (suc zero) (suc zero) a b = refl
both zero (suc (suc y)) a b = absurd (omega arith)
both (suc zero) (suc (suc y)) a b = absurd (omega arith)
both (suc (suc x)) y a b = absurd (omega arith)

pub flag_or : (a b k : ℕ) → has_flag (bit_or a b) k ≡ (has_flag a k || has_flag b k)
unfolding has_flag
flag_or a b k = ap (λ n. n == 1) (bit_at_or a b k) ∙ either (bit_at a k) (bit_at b k) (bit_at-lt a k) (bit_at-lt b k)

flag_and : (a b k : ℕ) → has_flag (bit_and a b) k ≡ (has_flag a k && has_flag b k)
unfolding has_flag
flag_and a b k = ap (λ n. n == 1) (bit_at_and a b k) ∙ both (bit_at a k) (bit_at b k) (bit_at-lt a k) (bit_at-lt b k)

-- one flag alone
pub flag_set : (k j : ℕ) → k < 64 → has_flag (1 * 2 ^ k % 2 ^ 64) j ≡ (k == j)
unfolding has_flag
flag_set k j lt = by (cases_eq k j)
  where
    by : (k ≡ j) ⊎ (k ≡ j → ⊥) → (bit_at (1 * 2 ^ k % 2 ^ 64) j == 1) ≡ (k == j)
    by (inl e) = ap (λ i. bit_at (1 * 2 ^ k % 2 ^ 64) i == 1) (sym e) ∙ ap (λ n. n == 1) (bit_at_set_same w64 0 k lt) ∙ sym (eq-eqb k j e)
    by (inr ne) = ap (λ n. n == 1) (bit_at_set_other w64 0 k lt j (λ e. ne (sym e)) ∙ bit_at-zero j) ∙ sym (ne_eqb k j ne)

one_bit : (n : ℕ) → n < 2 → cond (n == 1) 1 0 ≡ n
one_bit zero lt = refl
one_bit (suc zero) lt = refl
one_bit (suc (suc n)) lt = absurd (omega arith)

-- so many flags as there are ones
ones_are : (n x : ℕ) → x < 2 ^ n → count_ones x ≡ count_by (has_flag x) (below n)
unfolding has_flag
ones_are n x lt = ap count_ones (same_from_bits_below n x (mask_l flags) lt small same) ∙ ones-mask_l (has_flag x) (below n)
  where
    flags : List Bool
    flags = map (has_flag x) (below n)

    small : mask_l flags < 2 ^ n
    small = subst (λ m. mask_l flags < 2 ^ m) (length-map_below (has_flag x) n) (mask_l-lt flags)

    same : (i : ℕ) → i < n → bit_at x i ≡ bit_at (mask_l flags) i
    same i within = sym (bit_mask_l flags i ∙ ap (λ b. cond b 1 0) (get_or-map_below (has_flag x) n i false within) ∙ one_bit (bit_at x i) (bit_at-lt x i))

pub flags_both : (a b : ℕ) → a < 2 ^ 64 → count_ones (bit_and a b) ≡ flag_count (has_flag a) b
unfolding flag_count
flags_both a b lt =
    let small : bit_and a b < 2 ^ 64 = omega (arith, and_le_l a b, lt) in
    ones_are 64 (bit_and a b) small ∙ count_agree (has_flag (bit_and a b)) (λ k. has_flag a k && has_flag b k) (below 64) (λ k c. flag_and a b k)

-- the distance of a later place
pub behind_is : (place first k : ℕ) → first ≤ place → (place - first == k) ≡ (place == first + k)
behind_is place first k le = by (cases_eq place (first + k))
  where
    by : (place ≡ first + k) ⊎ (place ≡ first + k → ⊥) → (place - first == k) ≡ (place == first + k)
    by (inl e) = eq-eqb (place - first) k (omega arith) ∙ sym (eq-eqb place (first + k) e)
    by (inr ne) = ne_eqb (place - first) k (λ e. ne (omega arith)) ∙ sym (ne_eqb place (first + k) ne)

-- ---- words that are put together

pub or_none : (b : Bool) → (b || false) ≡ b
or_none true = refl
or_none false = refl

pub or_group : (a b c : Bool) → ((a || b) || c) ≡ (a || (b || c))
or_group true b c = refl
or_group false b c = refl

-- one flag more, whose place is p
pub one_flag : (flags : List Bool) (first p k : ℕ) → first ≤ p
    → ((nat_lt (first + k) p && get_or flags (first + k) false) || (get_or flags p false && (p - first == k))) ≡ (nat_lt (first + k) (p + 1) && get_or flags (first + k) false)
one_flag flags first p k le = by (cases_order (first + k) p)
  where
    here : Bool
    here = get_or flags (first + k) false

    no_more : (a b : Bool) → (a || (b && false)) ≡ a
    no_more true b = refl
    no_more false true = refl
    no_more false false = refl

    all_of : (b : Bool) → (b && true) ≡ b
    all_of true = refl
    all_of false = refl

    by : (first + k ≡ p) ⊎ ((first + k < p) ⊎ (p < first + k)) → ((nat_lt (first + k) p && here) || (get_or flags p false && (p - first == k))) ≡ (nat_lt (first + k) (p + 1) && here)
    by (inl e) =
        (λ j. (le-ltb (first + k) p (omega arith) j && here) || (get_or flags p false && eq-eqb (p - first) k (omega arith) j))
        ∙ all_of (get_or flags p false)
        ∙ ap (λ n. get_or flags n false) (sym e)
        ∙ sym (ap (λ b. b && here) (lt-ltb (first + k) (p + 1) (omega arith)))
    by (inr (inl b)) =
        (λ j. (lt-ltb (first + k) p b j && here) || (get_or flags p false && ne_eqb (p - first) k (λ e. absurd (omega arith)) j))
        ∙ no_more here (get_or flags p false)
        ∙ sym (ap (λ b. b && here) (lt-ltb (first + k) (p + 1) (omega arith)))
    by (inr (inr b)) =
        (λ j. (le-ltb (first + k) p (omega arith) j && here) || (get_or flags p false && ne_eqb (p - first) k (λ e. absurd (omega arith)) j))
        ∙ no_more false (get_or flags p false)
        ∙ sym (ap (λ b. b && here) (le-ltb (first + k) (p + 1) (omega arith)))

pub all_flags : (flags : List Bool) (first end p k : ℕ) → k < 64 → end ≤ p → (end ≡ first + 64) ⊎ ((end ≡ length flags) × (length flags ≤ first + 64)) → (nat_lt (first + k) p && get_or flags (first + k) false) ≡ get_or flags (first + k) false
all_flags flags first end p k small le ends = by (cases_lt (first + k) p) ends
  where
    by : (first + k < p) ⊎ (p ≤ first + k) → (end ≡ first + 64) ⊎ ((end ≡ length flags) × (length flags ≤ first + 64)) → (nat_lt (first + k) p && get_or flags (first + k) false) ≡ get_or flags (first + k) false
    by (inl b) e = ap (λ x. x && get_or flags (first + k) false) (lt-ltb (first + k) p b)
    by (inr b) (inl e) = absurd (omega arith)
    by (inr b) (inr e) =
        let is = e.0 in
        ap (λ x. x && get_or flags (first + k) false) (le-ltb (first + k) p b) ∙ sym (get_or_past flags (first + k) false (omega arith))

-- ---- a word put at one place

pub flag_put : (words : List ℕ) (p j k word : ℕ) → p < length words → has_flag (get_or (set words p (bit_or (get_or words p 0) word)) j 0) k ≡ ((has_flag word k && (p == j)) || has_flag (get_or words j 0) k)
flag_put words p j k word lt = by (cases_eq j p)
  where
    put : ℕ
    put = bit_or (get_or words p 0) word

    both_ways : (a b : Bool) → (a || b) ≡ ((b && true) || a)
    both_ways true true = refl
    both_ways true false = refl
    both_ways false true = refl
    both_ways false false = refl

    not_here : (a b : Bool) → a ≡ ((b && false) || a)
    not_here a true = refl
    not_here a false = refl

    by : (j ≡ p) ⊎ (j ≡ p → ⊥) → has_flag (get_or (set words p put) j 0) k ≡ ((has_flag word k && (p == j)) || has_flag (get_or words j 0) k)
    by (inl e) =
        ap (λ i. has_flag (get_or (set words p put) i 0) k) e
        ∙ ap (λ x. has_flag x k) (get_or-set_same words p put 0 lt)
        ∙ flag_or (get_or words p 0) word k
        ∙ both_ways (has_flag (get_or words p 0) k) (has_flag word k)
        ∙ (λ i. (has_flag word k && sym (eq-eqb p j (sym e)) i) || has_flag (get_or words (sym e i) 0) k)
    by (inr ne) =
        ap (λ x. has_flag x k) (get_or-set_other words p j put 0 ne)
        ∙ not_here (has_flag (get_or words j 0) k) (has_flag word k)
        ∙ ap (λ b. (has_flag word k && b) || has_flag (get_or words j 0) k) (sym (ne_eqb p j (λ e. ne (sym e))))

pub put_more : (a b c d : Bool) → ((a && b) || ((a && c) || d)) ≡ ((a && (c || b)) || d)
put_more false b c d = refl
put_more true true true d = refl
put_more true true false d = refl
put_more true false true d = refl
put_more true false false d = refl

pub put_none : (a d : Bool) → d ≡ ((a && false) || d)
put_none true d = refl
put_none false d = refl

pub same_eqb : (a b : ℕ) → (a == b) ≡ (b == a)
same_eqb a b = by (cases_eq a b)
  where
    by : (a ≡ b) ⊎ (a ≡ b → ⊥) → (a == b) ≡ (b == a)
    by (inl e) = eq-eqb a b e ∙ sym (eq-eqb b a (sym e))
    by (inr ne) = ne_eqb a b ne ∙ sym (ne_eqb b a (λ e. ne (sym e)))
