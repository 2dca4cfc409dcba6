-- All of it and its ancestors, from its parents.
use Rattle.std.proofs.Common.{◌≡◌, ◌∙◌, ℕ, ◌<◌, ◌==◌, ◌||◌, ◌&&◌, not, Bool, true, false, cond, List, [], ◌∷◌, length, map, filter, refl, ap, subst, arith}
use Rattle.std.specs.List.{list_all, list_any}
use Rattle.std.proofs.lemmas.List.{length-map}
use Rattle.std.proofs.lemmas.Simd.{map-map}
use Rattle.fund_base.proofs.Lists.{none_pass}
use Rattle.tx_codec.specs.Transaction.{Transaction}
use Rattle.tx_codec.specs.Txid.{txid_of}
use Rattle.wallet_text.specs.WalletRules.{ParentsComeFirst}
use Rattle.coin_book.specs.declared.coin.Coin.{Coin}
use Rattle.payment_states.specs.Candidates.{is_mine, is_own, is_pending, is_safe, pending_graph, replaces}
use Rattle.payment_states.specs.Graph.{IsInOrder, below, kin, steps, within}
use Rattle.payment_states.specs.PendingView.{PendingView, parents, tx_at}
use Rattle.payment_states.proofs.Below.{filter_one}
use Rattle.payment_states.proofs.FactSteps.{order_filter}
use Rattle.payment_states.proofs.LeastSteps.{filter_agree}
use Rattle.payment_states.proofs.Order.{order_from_rule}
use Rattle.payment_states.proofs.Paths.{within_step}

-- all that pass one test or the other
all_or : {X : Type 0} (f p q : X → Bool) (xs : List X) → list_all f (filter (λ x. p x || q x) xs) ≡ (list_all f (filter p xs) && list_all f (filter q xs))
all_or f p q [] = refl
all_or {X = X} f p q (x ∷ xs) = by (p x) (q x) (filter (λ x. p x || q x) xs) (filter p xs) (filter q xs) (all_or f p q xs)
  where
    two : (a l r : Bool) → (a && (l && r)) ≡ ((a && l) && (a && r))
    two true l r = refl
    two false l r = refl

    one : (a l r : Bool) → (a && (l && r)) ≡ ((a && l) && r)
    one true l r = refl
    one false l r = refl

    right : (a l r : Bool) → (a && (l && r)) ≡ (l && (a && r))
    right true l r = refl
    right false true r = refl
    right false false r = refl

    by : (a b : Bool) (both left other : List X) → list_all f both ≡ (list_all f left && list_all f other)
        → list_all f (cond (a || b) (x ∷ both) both) ≡ (list_all f (cond a (x ∷ left) left) && list_all f (cond b (x ∷ other) other))
    by true true both left other e = ap (λ b. f x && b) e ∙ two (f x) (list_all f left) (list_all f other)
    by true false both left other e = ap (λ b. f x && b) e ∙ one (f x) (list_all f left) (list_all f other)
    by false true both left other e = ap (λ b. f x && b) e ∙ right (f x) (list_all f left) (list_all f other)
    by false false both left other e = e

all_any : {X Y : Type 0} (f : X → Bool) (w : Y → X → Bool) (ys : List Y) (xs : List X) → list_all f (filter (λ x. list_any (λ y. w y x) ys) xs) ≡ list_all (λ y. list_all f (filter (w y) xs)) ys
all_any f w [] xs = ap (list_all f) (none_pass xs)
all_any f w (y ∷ ys) xs = all_or f (w y) (λ x. list_any (λ z. w z x) ys) xs ∙ ap (λ b. list_all f (filter (w y) xs) && b) (all_any f w ys xs)

all_step : (g : List (List ℕ)) (f : ℕ → Bool) (i : ℕ) → IsInOrder g → i < length g → list_all f (kin g i) ≡ (f i && list_all (λ p. list_all f (kin g p)) (steps g i))
all_step g f i order lt =
    ap (list_all f) (filter_agree (within g (length g) i) (λ j. (i == j) || list_any (λ p. within g (length g) p j) (steps g i)) (below (length g)) (λ j. within_step g i j order lt))
    ∙ all_or f (λ j. i == j) (λ j. list_any (λ p. within g (length g) p j) (steps g i)) (below (length g))
    ∙ (λ k. (ap (list_all f) (filter_one (length g) i lt) ∙ one (f i)) k && all_any f (within g (length g)) (steps g i) (below (length g)) k)
  where
    one : (b : Bool) → (b && true) ≡ b
    one true = refl
    one false = refl

pub safe_step : (w : PendingView) (coins : List Coin) (i : ℕ) → ParentsComeFirst w.pending → i < length w.pending
    → is_safe w coins i ≡ ((is_mine coins (tx_at w i) && not (replaces w (txid_of (tx_at w i)))) && list_all (is_safe w coins) (steps (pending_graph w) i))
unfolding is_safe is_own
safe_step w coins i rule lt =
    let n = length-map w.pending (λ (t : Transaction). filter (is_pending w) (parents w.chain w.pending t)) in
    let order = subst IsInOrder (map-map (filter (is_pending w)) (parents w.chain w.pending) w.pending) (order_filter (is_pending w) (map (parents w.chain w.pending) w.pending) (order_from_rule w.chain w.pending rule)) in
    all_step (pending_graph w) (is_own w coins) i order (omega arith)
