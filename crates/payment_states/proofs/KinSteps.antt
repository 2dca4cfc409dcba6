-- What it comes to that one payment is another, or an ancestor of it.
use Rattle.std.proofs.Common.{◌≡◌, ◌∙◌, ◌⊎◌, inl, inr, ℕ, zero, suc, ◌<◌, ◌≤◌, ◌==◌, ◌&&◌, Bool, true, false, cond, List, [], ◌∷◌, length, take, filter, Option, Some, None, All, Contains, refl, sym, ap, subst, arith, slice_get}
use Rattle.std.specs.Prelude.{find, is_some}
use Rattle.std.specs.List.{AllPairs}
use Rattle.std.specs.Option.{option_or}
use Rattle.std.proofs.lemmas.Bool.{and_from, cases_lt, eq-eqb, eqb-true}
use Rattle.std.proofs.lemmas.List.{length-map}
use Rattle.std.proofs.lemmas.List.Elements.{All-contains, All-cons, All-head, All-nil, All-tail, filter_passes}
use Rattle.std.proofs.lemmas.List.Kept.{AllPairs-filter}
use Rattle.std.proofs.lemmas.Option.{none-some, same_Some}
use Rattle.coin_book.proofs.MapSteps.{none_is}
use Rattle.fund_base.proofs.Lists.{any_found}
use Rattle.tx_codec.specs.Txid.{txid_of}
use Rattle.wallet_text.specs.WalletRules.{AreDistinct, ParentsComeFirst}
use Rattle.coin_book.specs.History.{Confirmed}
use Rattle.coin_book.specs.Spends.{height_of}
use Rattle.coin_book.proofs.SpendSteps.{none_before, not_known}
use Rattle.payment_states.specs.Causes.{IsKin, IsUnconfirmed}
use Rattle.payment_states.specs.Causes.IsKin.{itself as own, above}
use Rattle.payment_states.specs.Graph.{IsInOrder, Reaches, below, within}
use Rattle.payment_states.specs.Graph.Reaches.{itself, through}
use Rattle.payment_states.specs.ByPlace.{place_if}
use Rattle.payment_states.specs.PendingView.{PendingView, kin_of, graph, parents, tx_at}
use Rattle.payment_states.proofs.Below.{get_or-below, length-below}
use Rattle.payment_states.proofs.ClearSteps.{any_filter}
use Rattle.payment_states.proofs.FirstSteps.{find_more}
use Rattle.payment_states.proofs.Order.{order_from_rule}
use Rattle.payment_states.proofs.ParentSteps.{parents_is}
use Rattle.payment_states.proofs.Paths.{any_has, decides}

-- ---- the first that passes

-- k is the first number below n that passes
pub record IsFirst (p : ℕ → Bool) (n k : ℕ) : Type 0 where
  pub within : k < n
  pub passes : p k ≡ true
  pub before : (m : ℕ) → m < k → p m ≡ false

pub none_below : (p : ℕ → Bool) (n : ℕ) → find p (below n) ≡ None → (k : ℕ) → k < n → p k ≡ false
unfolding below
none_below p zero e k lt = absurd (omega arith)
none_below p (suc n) e k lt = by (find p (below n)) (p n) refl (none_below p n) (sym (find_more p n) ∙ e) (cases_lt k n)
  where
    by : (r : Option ℕ) (b : Bool) → p n ≡ b → (r ≡ None → (k : ℕ) → k < n → p k ≡ false) → option_or r (place_if b n) ≡ None → (k < n) ⊎ (n ≤ k) → p k ≡ false
    by (Some m) b is h e at = absurd (none-some m (sym e))
    by None true is h e at = absurd (none-some n (sym e))
    by None false is h e (inl b) = h refl k b
    by None false is h e (inr b) = let same : k ≡ n = omega arith in ap p same ∙ is

pub first_below : (p : ℕ → Bool) (n k : ℕ) → find p (below n) ≡ Some k → IsFirst p n k
unfolding below
first_below p zero k e = absurd (none-some k e)
first_below p (suc n) k e = by (find p (below n)) (p n) refl refl (λ h. first_below p n k h) (sym (find_more p n) ∙ e)
  where
    more : IsFirst p n k → IsFirst p (suc n) k
    more h = let lt = h.within in record { within = omega arith; passes = h.passes; before = h.before }

    by : (r : Option ℕ) (b : Bool) → find p (below n) ≡ r → p n ≡ b → (r ≡ Some k → IsFirst p n k) → option_or r (place_if b n) ≡ Some k → IsFirst p (suc n) k
    by (Some m) b is at h e = more (h e)
    by None true is at h e =
        let same : n ≡ k = same_Some n k e in
        record { within = omega arith; passes = ap p (sym same) ∙ at; before = λ m lt. none_below p n is m (omega arith) }
    by None false is at h e = absurd (none-some k e)

-- of those that pass one test the first that passes another
pub find_filter : {X : Type 0} (p q : X → Bool) (xs : List X) → find q (filter p xs) ≡ find (λ x. p x && q x) xs
find_filter p q [] = refl
find_filter {X = X} p q (x ∷ xs) = by (p x) (find_filter p q xs)
  where
    by : (b : Bool) → find q (filter p xs) ≡ find (λ y. p y && q y) xs → find q (cond b (x ∷ filter p xs) (filter p xs)) ≡ cond (b && q x) (Some x) (find (λ y. p y && q y) xs)
    by true e = ap (λ (r : Option X). cond (q x) (Some x) r) e
    by false e = e

-- the first element stands at a place before which none passes
pub found_at : {X : Type 0} (p : X → Bool) (xs : List X) (x : X) → find p xs ≡ Some x → (k : ℕ) × (slice_get xs k ≡ Some x) × (p x ≡ true) × All (λ y. p y ≡ false) (take k xs)
found_at p [] x e = absurd (none-some x e)
found_at {X = X} p (y ∷ xs) x e = by (p y) refl e (λ r. found_at p xs x r)
  where
    by : (b : Bool) → p y ≡ b → cond b (Some y) (find p xs) ≡ Some x → (find p xs ≡ Some x → (k : ℕ) × (slice_get xs k ≡ Some x) × (p x ≡ true) × All (λ z. p z ≡ false) (take k xs))
        → (k : ℕ) × (slice_get (y ∷ xs) k ≡ Some x) × (p x ≡ true) × All (λ z. p z ≡ false) (take k (y ∷ xs))
    by true h e r = (0, e, ap p (sym (same_Some y x e)) ∙ h, All-nil (λ z. p z ≡ false))
    by false h e r = let f = r e in (suc f.0, f.1, f.2, All-cons (λ z. p z ≡ false) y (take f.0 xs) h f.3)

pub find_there : {X : Type 0} (p : X → Bool) (xs : List X) (x : X) (k : ℕ) → slice_get xs k ≡ Some x → p x ≡ true → All (λ y. p y ≡ false) (take k xs) → find p xs ≡ Some x
find_there p [] x k e t none = absurd (none-some x e)
find_there {X = X} p (y ∷ xs) x zero e t none = ap (λ (b : Bool). cond b (Some y) (find p xs)) (ap p (same_Some y x e) ∙ t) ∙ e
find_there {X = X} p (y ∷ xs) x (suc k) e t none =
    ap (λ (b : Bool). cond b (Some y) (find p xs)) (All-head (λ z. p z ≡ false) y (take k xs) none)
    ∙ find_there p xs x k e t (All-tail (λ z. p z ≡ false) y (take k xs) none)

-- ---- numbers below a number

pub below_has : (n k : ℕ) → k < n → Contains (below n) k
below_has n k lt = let m = length-below n in (k, omega arith, get_or-below n k k lt)

pub below_rises : (n : ℕ) → AllPairs (λ (a b : ℕ). a < b) (below n)
below_rises n i j d lt in_range =
    let m = length-below n in
    let a = get_or-below n i d (omega arith) in
    let b = get_or-below n j d (omega arith) in
    omega arith

-- what passes stays
pub filter_has : (p : ℕ → Bool) (xs : List ℕ) (x : ℕ) → Contains xs x → p x ≡ true → Contains (filter p xs) x
filter_has p xs x c t =
    let f = any_found (λ y. y == x) (filter p xs) (any_filter (λ y. y == x) p xs ∙ any_has (λ y. p y && (y == x)) xs x c (and_from (p x) (x == x) t (eq-eqb x x refl))) in
    subst (Contains (filter p xs)) (eqb-true f.0 x f.2) f.1

pub filter_only : (p : ℕ → Bool) (xs : List ℕ) (x : ℕ) → Contains (filter p xs) x → p x ≡ true
filter_only p xs x c = All-contains (λ y. p y ≡ true) (filter p xs) x (filter_passes p xs) c

-- ---- heights

pub unconfirmed : (chain : List Confirmed) (txid : List ℕ) → height_of chain txid ≡ None → IsUnconfirmed chain txid
unconfirmed chain txid e = none_before chain txid (ap (λ (o : Option ℕ). is_some o) e)

pub no_height : (chain : List Confirmed) (txid : List ℕ) → IsUnconfirmed chain txid → height_of chain txid ≡ None
no_height chain txid h = none_is (height_of chain txid) (not_known chain txid h)

-- ---- ancestors

module _ (w : PendingView) (apart : AreDistinct w.pending) (first : ParentsComeFirst w.pending) where
  pub count : length (graph w) ≡ length w.pending
  count = length-map w.pending (parents w.chain w.pending)

  order : IsInOrder (graph w)
  order = order_from_rule w.chain w.pending first

  way_kin : {i j : ℕ} → Reaches (graph w) i j → i < length w.pending → IsKin w i j
  way_kin itself lt = own
  way_kin (through {i = i} {p = p} {j = j} c r) lt =
      let f = (parents_is w i p apart lt).0 c in
      above (record { stands = f.0; unconfirmed = unconfirmed w.chain (txid_of (tx_at w p)) f.1; spends = f.2 }) (way_kin r f.0)

  kin_way : {i j : ℕ} → IsKin w i j → i < length w.pending → Reaches (graph w) i j
  kin_way own lt = itself
  kin_way (above {i = i} {p = p} {j = j} h k) lt =
      through ((parents_is w i p apart lt).1 (h.stands, no_height w.chain (txid_of (tx_at w p)) h.unconfirmed, h.spends)) (kin_way k h.stands)

  -- they stand in the list
  pub kin_stands : {i j : ℕ} → IsKin w i j → i < length w.pending → j < length w.pending
  kin_stands own lt = lt
  kin_stands (above h k) lt = kin_stands k h.stands

  pub tested : (i j : ℕ) → i < length w.pending → within (graph w) (length (graph w)) i j ≡ true → IsKin w i j
  tested i j lt e = let n = count in way_kin ((decides (graph w) i j order (omega arith)).0 e) lt

  pub tests : (i j : ℕ) → i < length w.pending → IsKin w i j → within (graph w) (length (graph w)) i j ≡ true
  tests i j lt k = let n = count in (decides (graph w) i j order (omega arith)).1 (kin_way k lt)

  pub kin_has : (i j : ℕ) → i < length w.pending → IsKin w i j → Contains (kin_of w i) j
  kin_has i j lt k =
      let n = count in
      let in_list = kin_stands k lt in
      filter_has (within (graph w) (length (graph w)) i) (below (length (graph w))) j (below_has (length (graph w)) j (omega arith)) (tests i j lt k)

  pub kin_only : (i j : ℕ) → i < length w.pending → Contains (kin_of w i) j → IsKin w i j
  kin_only i j lt c = tested i j lt (filter_only (within (graph w) (length (graph w)) i) (below (length (graph w))) j c)

  pub kin_rises : (i : ℕ) → AllPairs (λ (a b : ℕ). a < b) (kin_of w i)
  kin_rises i = AllPairs-filter (λ (a b : ℕ). a < b) (within (graph w) (length (graph w)) i) (below (length (graph w))) (below_rises (length (graph w)))
