-- The numbers of ancestors and descendants are those of any list that has each of them once.
use Rattle.std.proofs.Common.{◌≡◌, ◌∙◌, ◌⊎◌, inl, inr, ℕ, zero, suc, ◌<◌, ◌&&◌, Bool, true, List, [], ◌∷◌, length, filter, get_or, min, Contains, refl, sym, ap, subst, arith}
use Rattle.std.specs.Prelude.{count_by, ◌↔◌}
use Rattle.std.specs.List.{AllPairs}
use Rattle.std.proofs.lemmas.Bool.{and_from, and_parts, true≢false}
use Rattle.std.proofs.lemmas.List.Elements.{All-contains, All-contains_itself, All-filter}
use Rattle.std.proofs.lemmas.List.Kept.{AllPairs-filter}
use Rattle.std.proofs.lemmas.List.Sums.{length-filter}
use Rattle.wallet_text.specs.WalletRules.{AreDistinct, ParentsComeFirst}
use Rattle.payment_states.specs.Candidates.{ancestors, descendants, is_pending, is_pending_state}
use Rattle.payment_states.specs.Causes.{HasCause, IsKin}
use Rattle.payment_states.specs.Graph.{below, within}
use Rattle.payment_states.specs.Payments.{state_at}
use Rattle.payment_states.specs.PendingView.{PendingView, kin_of, graph}
use Rattle.payment_states.specs.declared.state.State.{State}
use Rattle.payment_states.specs.declared.state.State.TheVariants as state
use Rattle.payment_states.proofs.Below.{below_within}
use Rattle.payment_states.proofs.CauseSteps.{cause_is, is_cause}
use Rattle.payment_states.proofs.KinSteps.{below_has, below_rises, kin_has, kin_only, kin_rises, filter_has, filter_only, kin_stands, tested, tests}

abbrev Rises : List ℕ → Type 0
Rises xs = AllPairs (λ (a b : ℕ). a < b) xs

-- ---- rising lists of the same numbers

rest_rises : (x : ℕ) (xs : List ℕ) → Rises (x ∷ xs) → Rises xs
rest_rises x xs h = λ i j d lt in_range. h (suc i) (suc j) d (omega arith) (omega arith)

-- one of a rising list is the first, or is in the rest and greater
split : (x : ℕ) (xs : List ℕ) (j : ℕ) → Rises (x ∷ xs) → Contains (x ∷ xs) j → (x ≡ j) ⊎ ((x < j) × Contains xs j)
split x xs j h c = by c.0 c.1 c.2
  where
    by : (k : ℕ) → k < length (x ∷ xs) → get_or (x ∷ xs) k j ≡ j → (x ≡ j) ⊎ ((x < j) × Contains xs j)
    by zero lt e = inl e
    by (suc k) lt e = inr (subst (λ m. x < m) e (h 0 (suc k) j (omega arith) lt), (k, omega arith, e))

heads : (x y : ℕ) (xs ys : List ℕ) → (x ≡ y) ⊎ ((x < y) × Contains xs y) → (y ≡ x) ⊎ ((y < x) × Contains ys x) → x ≡ y
heads x y xs ys (inl e) b = e
heads x y xs ys (inr a) (inl e) = sym e
heads x y xs ys (inr a) (inr b) = let p = a.0 in let q = b.0 in absurd (omega arith)

later : (x : ℕ) (xs : List ℕ) (j : ℕ) → Rises (x ∷ xs) → Contains xs j → x < j
later x xs j h c = let lt = c.1 in subst (λ m. x < m) c.2 (h 0 (suc c.0) j (omega arith) (omega arith))

same_rising : (xs ys : List ℕ) → Rises xs → Rises ys → ((j : ℕ) → Contains xs j → Contains ys j) → ((j : ℕ) → Contains ys j → Contains xs j) → xs ≡ ys
same_rising [] [] a b there back = refl
same_rising [] (y ∷ ys) a b there back = let c = back y (0, omega arith, refl) in let lt = c.1 in absurd (omega arith)
same_rising (x ∷ xs) [] a b there back = let c = there x (0, omega arith, refl) in let lt = c.1 in absurd (omega arith)
same_rising (x ∷ xs) (y ∷ ys) a b there back =
    let rest =
    same_rising xs ys (rest_rises x xs a) (rest_rises y ys b)
    (λ j c. in_ys j (later x xs j a c) (split y ys j b (there j (behind x xs j c))))
    (λ j c. in_xs j (later y ys j b c) (split x xs j a (back j (behind y ys j c)))) in
    λ k. same k ∷ rest k
  where
    same : x ≡ y
    same = heads x y xs ys (split x xs y a (back y (0, omega arith, refl))) (split y ys x b (there x (0, omega arith, refl)))

    in_ys : (j : ℕ) → x < j → (y ≡ j) ⊎ ((y < j) × Contains ys j) → Contains ys j
    in_ys j lt (inl e) = absurd (let s = same in omega arith)
    in_ys j lt (inr h) = h.1

    in_xs : (j : ℕ) → y < j → (x ≡ j) ⊎ ((x < j) × Contains xs j) → Contains xs j
    in_xs j lt (inl e) = absurd (let s = same in omega arith)
    in_xs j lt (inr h) = h.1

    behind : (z : ℕ) (zs : List ℕ) (j : ℕ) → Contains zs j → Contains (z ∷ zs) j
    behind z zs j c = (suc c.0, (let lt = c.1 in omega arith), c.2)

-- what a filter keeps was there
filter_from : (p : ℕ → Bool) (xs : List ℕ) (x : ℕ) → Contains (filter p xs) x → Contains xs x
filter_from p xs x c = All-contains (Contains xs) (filter p xs) x (All-filter p (Contains xs) xs (All-contains_itself xs)) c

-- those that pass are a list that has each of them once
pub passing : (p : ℕ → Bool) (xs places : List ℕ) → Rises xs → Rises places → ((j : ℕ) → Contains places j ↔ (Contains xs j × (p j ≡ true))) → filter p xs ≡ places
passing p xs places a b is =
    same_rising (filter p xs) places (AllPairs-filter (λ (a b : ℕ). a < b) p xs a) b
    (λ j c. (is j).1 (filter_from p xs j c, filter_only p xs j c))
    (λ j c. let h = (is j).0 c in filter_has p xs j h.0 h.1)

-- and so many pass
counted : (p : ℕ → Bool) (xs places : List ℕ) → Rises xs → Rises places → ((j : ℕ) → Contains places j ↔ (Contains xs j × (p j ≡ true))) → count_by p xs ≡ length places
counted p xs places a b is = sym (length-filter p xs) ∙ ap (λ (l : List ℕ). length l) (passing p xs places a b is)

-- ---- which are Pending

pending_state : (s : State) → is_pending_state s ≡ true → s ≡ state.Pending
pending_state state.Pending e = refl
pending_state (state.Confirmed height) e = absurd (true≢false (sym e))
pending_state (state.Conflicted by) e = absurd (true≢false (sym e))
pending_state state.Abandoned e = absurd (true≢false (sym e))
pending_state (state.Replaced by) e = absurd (true≢false (sym e))

module _ (w : PendingView) (apart : AreDistinct w.pending) (rule : ParentsComeFirst w.pending) where
  pub waits : (j : ℕ) → j < length w.pending → is_pending w j ≡ true → HasCause w j state.Pending
  waits j lt e = subst (HasCause w j) (pending_state (state_at w j) e) (cause_is w apart rule j lt)

  pub waits_back : (j : ℕ) → j < length w.pending → HasCause w j state.Pending → is_pending w j ≡ true
  waits_back j lt h = ap is_pending_state (is_cause w apart rule j state.Pending lt h)

  pub pending_kin : (i : ℕ) (places : List ℕ) → i < length w.pending → Rises places → ((j : ℕ) → Contains places j ↔ (IsKin w i j × HasCause w j state.Pending)) → filter (is_pending w) (kin_of w i) ≡ places
  pending_kin i places lt rises is =
      passing (is_pending w) (kin_of w i) places (kin_rises w apart rule i) rises (λ j. (
        (λ c. let h = (is j).0 c in (kin_has w apart rule i j lt h.0, waits_back j (kin_stands w apart rule h.0 lt) h.1)),
        (λ h. let k = kin_only w apart rule i j lt h.0 in (is j).1 (k, waits j (kin_stands w apart rule k lt) h.1)),
      ))

  pub ancestors_are : (i : ℕ) (places : List ℕ) → i < length w.pending → Rises places → ((j : ℕ) → Contains places j ↔ (IsKin w i j × HasCause w j state.Pending)) → ancestors w i ≡ min 4294967295 (length places)
  ancestors_are i places lt rises is =
      ap (λ n. min 4294967295 n) (counted (is_pending w) (kin_of w i) places (kin_rises w apart rule i) rises (λ j. (
        (λ c. let h = (is j).0 c in (kin_has w apart rule i j lt h.0, waits_back j (kin_stands w apart rule h.0 lt) h.1)),
        (λ h. let k = kin_only w apart rule i j lt h.0 in (is j).1 (k, waits j (kin_stands w apart rule k lt) h.1)),
      )))

  pub descendants_are : (i : ℕ) (places : List ℕ) → i < length w.pending → Rises places → ((j : ℕ) → Contains places j ↔ ((j < length w.pending) × IsKin w j i × HasCause w j state.Pending)) → descendants w i ≡ min 4294967295 (length places)
  descendants_are i places lt rises is =
      ap (λ n. min 4294967295 n) (counted (λ j. is_pending w j && within (graph w) (length (graph w)) j i) (below (length w.pending)) places (below_rises (length w.pending)) rises (λ j. (
        (λ c. let h = (is j).0 c in
            (below_has (length w.pending) j h.0, and_from (is_pending w j) (within (graph w) (length (graph w)) j i) (waits_back j h.0 h.2) (tests w apart rule j i h.0 h.1))),
        (λ h. let p = and_parts (is_pending w j) (within (graph w) (length (graph w)) j i) h.1 in
            let stands = below_within (length w.pending) j h.0 in
            (is j).1 (stands, tested w apart rule j i stands p.1, waits j stands p.0)),
      )))
