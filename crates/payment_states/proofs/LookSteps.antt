-- States that are looked up by txid.
use Rattle.std.proofs.Common.{◌≡◌, ◌≢◌, ◌∙◌, ◌⊎◌, inl, inr, ℕ, suc, ◌<◌, Bool, true, false, cond, ◌||◌, List, [], ◌∷◌, length, get_or, Option, Some, None, All, refl, sym, ap, arith, Contains}
use Rattle.std.specs.Prelude.{bytes_eq, find, is_some, option_map}
use Rattle.std.specs.List.{list_any}
use Rattle.std.proofs.lemmas.Bool.{cases_order, false_from_ne_true, true≢false}
use Rattle.std.proofs.lemmas.List.{get_or_default}
use Rattle.std.proofs.lemmas.List.Elements.{All-weaker}
use Rattle.std.proofs.lemmas.List.Folds.{list_any_none}
use Rattle.std.proofs.lemmas.Slice.Eq.{bytes_eq-Decides}
use Rattle.fund_base.proofs.Lists.{found_some}
use Rattle.tx_codec.specs.Transaction.{Transaction}
use Rattle.tx_codec.specs.Txid.{txid_of}
use Rattle.wallet_text.specs.WalletRules.{AreDistinct}
use Rattle.payment_states.specs.Payments.{payment_at, payments_in, state_at, state_of}
use Rattle.payment_states.specs.PendingView.{PendingView, no_tx, tx_at}
use Rattle.payment_states.specs.declared.state.Payment.{Payment}
use Rattle.payment_states.specs.declared.state.State.{State}
use Rattle.payment_states.proofs.Below.{get_or-map_below, length-map_below}
use Rattle.payment_states.proofs.FactSteps.{any_map}
use Rattle.payment_states.proofs.StateSteps.{names_are}
use Rattle.payment_states.proofs.Paths.{any_has}

-- the first that passes, where one alone does
only_one : {X Y : Type 0} (p : X → Bool) (f : X → Y) (xs : List X) (y : Y) → ((x : X) → Contains xs x → p x ≡ true → f x ≡ y) → list_any p xs ≡ true → option_map f (find p xs) ≡ Some y
only_one p f [] y h some = absurd (true≢false (sym some))
only_one {X = X} p f (x ∷ xs) y h some = by (p x) refl some (λ s. only_one p f xs y (λ z c. h z (suc c.0, omega arith, c.2)) s)
  where
    by : (b : Bool) → p x ≡ b → (b || list_any p xs) ≡ true → (list_any p xs ≡ true → option_map f (find p xs) ≡ Some y) → option_map f (cond b (Some x) (find p xs)) ≡ Some y
    by true e s r = ap Some (h x (0, omega arith, refl) e)
    by false e s r = r s

-- a payment has the txid exactly where a transaction has
named : (w : PendingView) (txid : List ℕ) → list_any (λ (p : Payment). bytes_eq txid p.txid) (payments_in w) ≡ list_any (λ (t : Transaction). bytes_eq txid (txid_of t)) w.pending
named w txid = sym (any_map (bytes_eq txid) (λ (p : Payment). p.txid) (payments_in w)) ∙ ap (list_any (bytes_eq txid)) (names_are w) ∙ any_map (bytes_eq txid) txid_of w.pending

-- the places of transactions of one txid are one
pub one_place : (w : PendingView) (i j : ℕ) → AreDistinct w.pending → i < length w.pending → j < length w.pending → txid_of (tx_at w i) ≡ txid_of (tx_at w j) → j ≡ i
one_place w i j apart lt in' e = by (cases_order i j)
  where
    by : (i ≡ j) ⊎ ((i < j) ⊎ (j < i)) → j ≡ i
    by (inl s) = sym s
    by (inr (inl b)) = absurd (apart i j no_tx b in' e)
    by (inr (inr b)) = absurd (apart j i no_tx b lt (sym e))

pub own_is : (w : PendingView) (i : ℕ) → AreDistinct w.pending → i < length w.pending → state_of (payments_in w) (txid_of (tx_at w i)) ≡ Some (state_at w i)
own_is w i apart lt =
    only_one (λ (p : Payment). bytes_eq (txid_of (tx_at w i)) p.txid) (λ (p : Payment). p.state) (payments_in w) (state_at w i) own
    (named w (txid_of (tx_at w i)) ∙ any_has (λ (t : Transaction). bytes_eq (txid_of (tx_at w i)) (txid_of t)) w.pending (tx_at w i) (i, lt, get_or_default w.pending i (tx_at w i) no_tx lt) ((bytes_eq-Decides (txid_of (tx_at w i)) (txid_of (tx_at w i))).1 refl))
  where
    own : (p : Payment) → Contains (payments_in w) p → bytes_eq (txid_of (tx_at w i)) p.txid ≡ true → p.state ≡ state_at w i
    own p c same =
        let n = length-map_below (payment_at w) (length w.pending) in
        let in' = c.1 in
        let k_in : c.0 < length w.pending = omega arith in
        let is : p ≡ payment_at w c.0 = sym c.2 ∙ get_or-map_below (payment_at w) (length w.pending) c.0 p k_in in
        let name : txid_of (tx_at w i) ≡ txid_of (tx_at w c.0) = (bytes_eq-Decides (txid_of (tx_at w i)) p.txid).0 same ∙ ap (λ (q : Payment). q.txid) is in
        ap (λ (q : Payment). q.state) is ∙ ap (state_at w) (one_place w i c.0 apart lt k_in name)

pub none_is : (w : PendingView) (txid : List ℕ) → (state_of (payments_in w) txid ≡ None → All (λ (t : Transaction). txid_of t ≢ txid) w.pending) × (All (λ (t : Transaction). txid_of t ≢ txid) w.pending → state_of (payments_in w) txid ≡ None)
none_is w txid = (there, gone)
  where
    some_is : is_some (state_of (payments_in w) txid) ≡ list_any (λ (t : Transaction). bytes_eq txid (txid_of t)) w.pending
    some_is = found_some (λ (p : Payment). bytes_eq txid p.txid) (λ (p : Payment). p.state) (payments_in w) ∙ named w txid

    there : state_of (payments_in w) txid ≡ None → All (λ (t : Transaction). txid_of t ≢ txid) w.pending
    there e k d lt same =
        true≢false (sym (some_is
        ∙ any_has (λ (t : Transaction). bytes_eq txid (txid_of t)) w.pending (get_or w.pending k d) (k, lt, get_or_default w.pending k (get_or w.pending k d) d lt) ((bytes_eq-Decides txid (txid_of (get_or w.pending k d))).1 (sym same)))
        ∙ ap (λ (o : Option State). is_some o) e)

    none : (o : Option State) → is_some o ≡ false → o ≡ None
    none None e = refl
    none (Some s) e = absurd (true≢false e)

    gone : All (λ (t : Transaction). txid_of t ≢ txid) w.pending → state_of (payments_in w) txid ≡ None
    gone h = none (state_of (payments_in w) txid) (some_is ∙ list_any_none (λ (t : Transaction). bytes_eq txid (txid_of t)) w.pending
        (All-weaker (λ (t : Transaction). txid_of t ≢ txid) (λ (t : Transaction). bytes_eq txid (txid_of t) ≡ false)
        (λ t ne. false_from_ne_true (bytes_eq txid (txid_of t)) (λ same. ne (sym ((bytes_eq-Decides txid (txid_of t)).0 same)))) w.pending h))
