-- What it comes to that a payment is Pending.
use Rattle.std.proofs.Common.{◌≡◌, ◌≢◌, ◌∙◌, ◌⊎◌, inl, inr, ℕ, ◌<◌, ◌≤◌, ◌&&◌, ◌||◌, Bool, true, false, cond, List, [], ◌∷◌, length, filter, get_or, Option, Some, None, All, Contains, refl, sym, ap, arith, slice_get}
use Rattle.std.specs.Prelude.{◌==◌, find, is_none, is_some, nat_lt, not, option_and_then, option_map}
use Rattle.std.specs.List.{list_any}
use Rattle.std.proofs.lemmas.Bool.Decides.{Decides-eqb}
use Rattle.std.proofs.lemmas.Bool.{cases_order, false_from_ne_true, lt-ltb, true≢false, or_right}
use Rattle.std.proofs.lemmas.List.{length-map}
use Rattle.std.proofs.lemmas.List.Folds.{list_any_at, list_any_none}
use Rattle.std.proofs.lemmas.Option.{none-some, same_Some, slice_get_cases}
use Rattle.fund_base.proofs.Lists.{any_found, and_second}
use Rattle.fund_base.specs.Outpoints.{same_outpoint}
use Rattle.fund_base.proofs.OutpointLaws.{same_outpoint-Decides}
use Rattle.fund_base.specs.declared.outpoint.OutPoint.{OutPoint}
use Rattle.tx_codec.specs.Txid.{txid_of}
use Rattle.tx_codec.specs.declared.tx.TxIn.{TxIn}
use Rattle.wallet_text.specs.WalletRules.{AreDistinct, ParentsComeFirst}
use Rattle.coin_book.specs.History.{Confirmed}
use Rattle.coin_book.specs.Spends.{has_input, height_of, spend_at, spends_of}
use Rattle.coin_book.specs.declared.coin.Spend.{Spend}
use Rattle.payment_states.specs.Candidates.{is_pending, is_pending_state}
use Rattle.payment_states.specs.Graph.{IsInOrder, below, kin, steps, within}
use Rattle.payment_states.specs.Payments.{conflicts_at, conflict, first_of, is_abandoned, is_alive, replaced, replacer, state_at, txid_at, txid_in}
use Rattle.payment_states.specs.PendingView.{PendingView, kin_of, graph, is_listed, parents, shares, tx_at}
use Rattle.payment_states.proofs.Below.{get_or-below, length-below}
use Rattle.payment_states.proofs.ConflictSteps.{first_place_is}
use Rattle.payment_states.proofs.FirstSteps.{find_below}
use Rattle.payment_states.proofs.FitSteps.{some_find}
use Rattle.payment_states.proofs.Order.{order_from_rule}
use Rattle.payment_states.proofs.ParentSteps.{parents_is}
use Rattle.payment_states.proofs.Paths.{any_has, within_step}

-- ---- tests that nothing passes

none_found : {X : Type 0} (p : X → Bool) (xs : List X) → find p xs ≡ None → list_any p xs ≡ false
none_found {X = X} p xs e = sym (some_find p xs) ∙ ap (λ (o : Option X). is_some o) e

not_found : {X : Type 0} (p : X → Bool) (xs : List X) → list_any p xs ≡ false → find p xs ≡ None
not_found {X = X} p xs e = by (find p xs) (some_find p xs ∙ e)
  where
    by : (o : Option X) → is_some o ≡ false → o ≡ None
    by None h = refl
    by (Some x) h = absurd (true≢false h)

-- below a number
none_at : (p : ℕ → Bool) (n k : ℕ) → list_any p (below n) ≡ false → k < n → p k ≡ false
none_at p n k none lt =
    false_from_ne_true (p k)
    (λ t. let m = length-below n in
    true≢false (sym (list_any_at p (below n) k 0 (omega arith) (ap p (get_or-below n k 0 lt) ∙ t)) ∙ none))

at_none : (p : ℕ → Bool) (n : ℕ) → ((k : ℕ) → k < n → p k ≡ false) → list_any p (below n) ≡ false
at_none p n h =
    list_any_none p (below n)
    (λ k d lt. let m = length-below n in
    let in_range : k < n = omega arith in
    ap p (get_or-below n k d in_range) ∙ h k in_range)

pub any_filter : {X : Type 0} (p q : X → Bool) (xs : List X) → list_any p (filter q xs) ≡ list_any (λ x. q x && p x) xs
any_filter p q [] = refl
any_filter {X = X} p q (x ∷ xs) = by (q x) (any_filter p q xs)
  where
    by : (b : Bool) → list_any p (filter q xs) ≡ list_any (λ x. q x && p x) xs → list_any p (cond b (x ∷ filter q xs) (filter q xs)) ≡ ((b && p x) || list_any (λ x. q x && p x) xs)
    by true e = ap (λ (b : Bool). p x || b) e
    by false e = e

false_and : (a b : Bool) → (a ≡ true → b ≡ false) → (a && b) ≡ false
false_and true b h = h refl
false_and false b h = refl

-- of it and its ancestors none passes
abbrev IsQuiet : List (List ℕ) → ℕ → (ℕ → Bool) → Type 0
IsQuiet g i p = (j : ℕ) → j < length g → within g (length g) i j ≡ true → p j ≡ false

quiet : (g : List (List ℕ)) (i : ℕ) (p : ℕ → Bool) → list_any p (kin g i) ≡ false → IsQuiet g i p
quiet g i p e = λ j lt in_range.
    and_second (within g (length g) i j) (p j) (none_at (λ k. within g (length g) i k && p k) (length g) j (sym (any_filter p (within g (length g) i) (below (length g))) ∙ e) lt) in_range

unquiet : (g : List (List ℕ)) (i : ℕ) (p : ℕ → Bool) → IsQuiet g i p → list_any p (kin g i) ≡ false
unquiet g i p h =
    any_filter p (within g (length g) i) (below (length g))
    ∙ at_none (λ k. within g (length g) i k && p k) (length g) (λ k lt. false_and (within g (length g) i k) (p k) (h k lt))

-- what a parent reaches is reached
by_parent : (g : List (List ℕ)) (i p j : ℕ) → IsInOrder g → i < length g → Contains (steps g i) p → within g (length g) p j ≡ true → within g (length g) i j ≡ true
by_parent g i p j order lt c h =
    within_step g i j order lt ∙ or_right (i == j) (list_any (λ q. within g (length g) q j) (steps g i)) (any_has (λ q. within g (length g) q j) (steps g i) p c h)

-- so what none of its kin passes, none of a parent's does
parent_quiet : (g : List (List ℕ)) (i p : ℕ) (test : ℕ → Bool) → IsInOrder g → i < length g → Contains (steps g i) p → list_any test (kin g i) ≡ false → list_any test (kin g p) ≡ false
parent_quiet g i p test order lt c e = unquiet g p test (λ j below h. quiet g i test e j below (by_parent g i p j order lt c h))

-- it is among its own kin
itself_in : (g : List (List ℕ)) (i : ℕ) (test : ℕ → Bool) → IsInOrder g → i < length g → list_any test (kin g i) ≡ false → test i ≡ false
itself_in g i test order lt e =
    quiet g i test e i lt (within_step g i i order lt ∙ ap (λ (b : Bool). b || list_any (λ q. within g (length g) q i) (steps g i)) ((Decides-eqb i i).1 refl))

found_passes : {X : Type 0} (p : X → Bool) (xs : List X) (x : X) → find p xs ≡ Some x → p x ≡ true
found_passes p [] x e = absurd (none-some x e)
found_passes {X = X} p (y ∷ xs) x e = by (p y) refl e (λ r. found_passes p xs x r)
  where
    by : (b : Bool) → p y ≡ b → cond b (Some y) (find p xs) ≡ Some x → (find p xs ≡ Some x → p x ≡ true) → p x ≡ true
    by true h e rest = ap p (sym (same_Some y x e)) ∙ h
    by false h e rest = rest e

inside : {X : Type 0} (xs : List X) (i : ℕ) → i < length xs → is_some (slice_get xs i) ≡ true
inside {X = X} xs i lt = by (slice_get_cases xs i).1
  where
    by : ((x : X) × (i < length xs) × (slice_get xs i ≡ Some x) × (get_or xs i x ≡ x)) ⊎ ((length xs ≤ i) × (slice_get xs i ≡ None)) → is_some (slice_get xs i) ≡ true
    by (inl c) = ap (λ (o : Option X). is_some o) c.2
    by (inr c) = let le = c.0 in absurd (omega arith)

-- two that spend an outpoint share it
both_spend : (o : OutPoint) (xs ys : List TxIn) → has_input o xs ≡ true → has_input o ys ≡ true → list_any (λ (x : TxIn). has_input x.prev ys) xs ≡ true
unfolding has_input
both_spend o xs ys a b =
    let f = any_found (λ (x : TxIn). same_outpoint x.prev o) xs a in
    any_has (λ (x : TxIn). list_any (λ (y : TxIn). same_outpoint y.prev x.prev) ys) xs f.0 f.1
    (ap (λ (p : OutPoint). list_any (λ (y : TxIn). same_outpoint y.prev p) ys) ((same_outpoint-Decides f.0.prev o).0 f.2) ∙ b)

-- ---- a Pending payment

pub record IsClear (w : PendingView) (i : ℕ) : Type 0 where
  pub height : height_of w.chain (txid_of (tx_at w i)) ≡ None
  pub conflict : conflict w i ≡ None
  pub abandoned : is_abandoned w i ≡ false
  pub replaced : replaced w i ≡ None

named : (chain : List Confirmed) (p : ℕ) → p < length chain → txid_in chain p ≢ None
named chain p lt = λ e. by (slice_get chain p) (inside chain p lt) e
  where
    by : (o : Option Confirmed) → is_some o ≡ true → option_map (λ (c : Confirmed). txid_of c.tx) o ≡ None → ⊥
    by None h e = true≢false (sym h)
    by (Some c) h e = none-some (txid_of c.tx) (sym e)

placed : (w : PendingView) (i : ℕ) → option_and_then (txid_in w.chain) (conflict w i) ≡ None → conflict w i ≡ None
unfolding conflict
placed w i e = by (conflict w i) refl e
  where
    by : (o : Option ℕ) → conflict w i ≡ o → option_and_then (txid_in w.chain) o ≡ None → o ≡ None
    by None h e = refl
    by (Some p) h e = absurd (named w.chain p (find_below (λ place. list_any (λ j. conflicts_at w.chain (tx_at w j) place) (kin_of w i)) (length w.chain) p h) e)

unnamed : (w : PendingView) (o : Option ℕ) → option_map (txid_at w.pending) o ≡ None → o ≡ None
unnamed w None e = refl
unnamed w (Some k) e = absurd (none-some (txid_at w.pending k) (sym e))

pub clear : (w : PendingView) (i : ℕ) → is_pending w i ≡ true → IsClear w i
unfolding state_at
clear w i is = by (height_of w.chain (txid_of (tx_at w i))) (option_and_then (txid_in w.chain) (conflict w i)) (is_abandoned w i) (option_map (txid_at w.pending) (replaced w i)) refl refl refl refl is
  where
    by : (h : Option ℕ) (c : Option (List ℕ)) (g : Bool) (r : Option (List ℕ)) → height_of w.chain (txid_of (tx_at w i)) ≡ h → option_and_then (txid_in w.chain) (conflict w i) ≡ c → is_abandoned w i ≡ g → option_map (txid_at w.pending) (replaced w i) ≡ r
        → is_pending_state (first_of h c g r) ≡ true → IsClear w i
    by (Some x) c g r a b d e t = absurd (true≢false (sym t))
    by None (Some x) g r a b d e t = absurd (true≢false (sym t))
    by None None true r a b d e t = absurd (true≢false (sym t))
    by None None false (Some x) a b d e t = absurd (true≢false (sym t))
    by None None false None a b d e t = record { height = a; conflict = placed w i b; abandoned = d; replaced = unnamed w (replaced w i) e }

pub pending_is : (w : PendingView) (i : ℕ) → IsClear w i → is_pending w i ≡ true
unfolding state_at
pending_is w i h =
    ap (λ (a : Option ℕ). is_pending_state (first_of a (option_and_then (txid_in w.chain) (conflict w i)) (is_abandoned w i) (option_map (txid_at w.pending) (replaced w i)))) h.height
    ∙ ap (λ (a : Option ℕ). is_pending_state (first_of None (option_and_then (txid_in w.chain) a) (is_abandoned w i) (option_map (txid_at w.pending) (replaced w i)))) h.conflict
    ∙ ap (λ (a : Bool). is_pending_state (first_of None None a (option_map (txid_at w.pending) (replaced w i)))) h.abandoned
    ∙ ap (λ (a : Option ℕ). is_pending_state (first_of None None false (option_map (txid_at w.pending) a))) h.replaced

-- no one of its kin has a replacer
none_replaced : (w : PendingView) (i : ℕ) → replaced w i ≡ None → list_any (λ j. is_some (replacer w j)) (kin_of w i) ≡ false
unfolding replaced
none_replaced w i e = by (find (λ j. is_some (replacer w j)) (kin_of w i)) refl e
  where
    has : (m : ℕ) (o : Option ℕ) → is_some o ≡ true → o ≡ None → ⊥
    has m None t e = true≢false (sym t)
    has m (Some k) t e = none-some k (sym e)

    by : (o : Option ℕ) → find (λ j. is_some (replacer w j)) (kin_of w i) ≡ o → option_and_then (replacer w) o ≡ None → list_any (λ j. is_some (replacer w j)) (kin_of w i) ≡ false
    by None f e = none_found (λ j. is_some (replacer w j)) (kin_of w i) f
    by (Some m) f e = absurd (has m (replacer w m) (found_passes (λ j. is_some (replacer w j)) (kin_of w i) m f) e)

then_none : (w : PendingView) (i : ℕ) → list_any (λ j. is_some (replacer w j)) (kin_of w i) ≡ false → replaced w i ≡ None
unfolding replaced
then_none w i e = ap (option_and_then (replacer w)) (not_found (λ j. is_some (replacer w j)) (kin_of w i) e)

-- ---- its parents

parent_clear : (w : PendingView) (i p : ℕ) → IsInOrder (graph w) → i < length (graph w) → Contains (steps (graph w) i) p → height_of w.chain (txid_of (tx_at w p)) ≡ None → IsClear w i → IsClear w p
unfolding conflict is_abandoned
parent_clear w i p order lt c none h = record {
  height = none;
  conflict = not_found (λ place. list_any (λ j. conflicts_at w.chain (tx_at w j) place) (kin_of w p)) (below (length w.chain))
      (at_none (λ place. list_any (λ j. conflicts_at w.chain (tx_at w j) place) (kin_of w p)) (length w.chain)
      (λ place in_list. parent_quiet (graph w) i p (λ j. conflicts_at w.chain (tx_at w j) place) order lt c
      (none_at (λ place. list_any (λ j. conflicts_at w.chain (tx_at w j) place) (kin_of w i)) (length w.chain) place (none_found (λ place. list_any (λ j. conflicts_at w.chain (tx_at w j) place) (kin_of w i)) (below (length w.chain)) h.conflict) in_list)));
  abandoned = parent_quiet (graph w) i p (λ j. is_listed w.abandoned (txid_of (tx_at w j))) order lt c h.abandoned;
  replaced = then_none w p (parent_quiet (graph w) i p (λ j. is_some (replacer w j)) order lt c (none_replaced w i h.replaced));
}

pub parents_pending : (w : PendingView) (i : ℕ) → AreDistinct w.pending → ParentsComeFirst w.pending → i < length w.pending → is_pending w i ≡ true → (p : ℕ) → Contains (steps (graph w) i) p → is_pending w p ≡ true
parents_pending w i apart first lt is p c =
    let n = length-map w.pending (parents w.chain w.pending) in
    pending_is w p (parent_clear w i p (order_from_rule w.chain w.pending first) (omega arith) c ((parents_is w i p apart lt).0 c).1 (clear w i is))

-- ---- its inputs

unspent : (chain : List Confirmed) (o : OutPoint) → list_any (λ k. is_some (spend_at chain o k)) (below (length chain)) ≡ false → spends_of chain o ≡ []
unspent chain o e = by (spends_of chain o) (first_place_is chain o ∙ not_found (λ k. is_some (spend_at chain o k)) (below (length chain)) e)
  where
    by : (ss : List Spend) → option_map (λ (s : Spend). s.place) (slice_get ss 0) ≡ None → ss ≡ []
    by [] h = refl
    by (s ∷ ss) h = absurd (none-some s.place (sym h))

pub inputs_unspent : (w : PendingView) (i : ℕ) → ParentsComeFirst w.pending → i < length w.pending → is_pending w i ≡ true → All (λ (x : TxIn). spends_of w.chain x.prev ≡ []) (tx_at w i).inputs
unfolding conflict
inputs_unspent w i first lt is = λ k d in_list.
    let n = length-map w.pending (parents w.chain w.pending) in
    let x = get_or (tx_at w i).inputs k d in
    unspent w.chain x.prev
    (at_none (λ place. is_some (spend_at w.chain x.prev place)) (length w.chain)
    (λ place inside.
    false_from_ne_true (is_some (spend_at w.chain x.prev place))
    (λ t. true≢false (sym (list_any_at (λ (y : TxIn). is_some (spend_at w.chain y.prev place)) (tx_at w i).inputs k d in_list t)
    ∙ itself_in (graph w) i (λ j. conflicts_at w.chain (tx_at w j) place) (order_from_rule w.chain w.pending first) (omega arith)
    (none_at (λ place. list_any (λ j. conflicts_at w.chain (tx_at w j) place) (kin_of w i)) (length w.chain) place (none_found (λ place. list_any (λ j. conflicts_at w.chain (tx_at w j) place) (kin_of w i)) (below (length w.chain)) (clear w i is).conflict) inside)))))

-- ---- two of them

alive : (w : PendingView) (k : ℕ) → IsClear w k → is_alive w k ≡ true
unfolding is_alive
alive w k h =
    ap (λ (a : Option ℕ). is_none a && (is_none (conflict w k) && not (is_abandoned w k))) h.height
    ∙ ap (λ (a : Option ℕ). is_none a && not (is_abandoned w k)) h.conflict
    ∙ ap not h.abandoned

-- a later one that is alive and spends an outpoint of it replaces it
later : (w : PendingView) (o : OutPoint) (i k : ℕ) → ParentsComeFirst w.pending → i < k → k < length w.pending → IsClear w i → IsClear w k → has_input o (tx_at w i).inputs ≡ true → has_input o (tx_at w k).inputs ≡ true → ⊥
unfolding replacer
later w o i k first lt in_range hi hk a b =
    let n = length-map w.pending (parents w.chain w.pending) in
    let none = itself_in (graph w) i (λ j. is_some (replacer w j)) (order_from_rule w.chain w.pending first) (omega arith) (none_replaced w i hi.replaced) in
    let absent = none_at (λ m. nat_lt i m && (shares (tx_at w i) (tx_at w m) && is_alive w m)) (length w.pending) k (sym (some_find (λ m. nat_lt i m && (shares (tx_at w i) (tx_at w m) && is_alive w m)) (below (length w.pending))) ∙ none) in_range in
    true≢false (sym (both (nat_lt i k) (shares (tx_at w i) (tx_at w k)) (is_alive w k) (lt-ltb i k lt) (both_spend o (tx_at w i).inputs (tx_at w k).inputs a b) (alive w k hk)) ∙ absent)
  where
    both : (a b c : Bool) → a ≡ true → b ≡ true → c ≡ true → (a && (b && c)) ≡ true
    both a b c p q r = ap (λ (x : Bool). x && (b && c)) p ∙ ap (λ (x : Bool). x && c) q ∙ r

pub one_spender : (w : PendingView) (o : OutPoint) (i k : ℕ) → ParentsComeFirst w.pending → i < length w.pending → k < length w.pending → is_pending w i ≡ true → is_pending w k ≡ true → has_input o (tx_at w i).inputs ≡ true → has_input o (tx_at w k).inputs ≡ true → i ≡ k
one_spender w o i k first in_i in_k is_i is_k a b = by (cases_order i k)
  where
    by : (i ≡ k) ⊎ ((i < k) ⊎ (k < i)) → i ≡ k
    by (inl e) = e
    by (inr (inl lt)) = absurd (later w o i k first lt in_k (clear w i is_i) (clear w k is_k) a b)
    by (inr (inr lt)) = absurd (later w o k i first lt in_i (clear w k is_k) (clear w i is_i) b a)
