-- The first later transaction that spends, found from the back of the list.
use Rattle.std.proofs.Common.{◌≡◌, ◌∙◌, ◌⊎◌, inl, inr, ℕ, zero, suc, ◌+◌, ◌<◌, ◌≤◌, ◌&&◌, Bool, true, false, cond, List, [], ◌∷◌, length, Option, Some, None, refl, sym, ap, arith}
use Rattle.std.specs.Prelude.{find, nat_le, nat_lt, slice_index_or}
use Rattle.std.specs.List.{list_any}
use Rattle.std.specs.Option.{option_or}
use Rattle.std.proofs.lemmas.Bool.{cases_lt, le-leb, lt-leb, lt-ltb, le-ltb}
use Rattle.fund_base.specs.declared.outpoint.OutPoint.{OutPoint}
use Rattle.tx_codec.specs.Transaction.{Transaction}
use Rattle.tx_codec.specs.declared.tx.TxIn.{TxIn}
use Rattle.coin_book.specs.Spends.{has_input}
use Rattle.payment_states.specs.Graph.{below}
use Rattle.payment_states.specs.Least.{least_by}
use Rattle.payment_states.specs.ByPlace.{place_if, replacer_by}
use Rattle.payment_states.specs.PendingView.{no_tx, shares}
use Rattle.payment_states.proofs.FirstSteps.{find_agree, find_any, find_more}

-- the first place from p on whose transaction passes the test and spends the outpoint
abbrev pub spender : List Transaction → List Bool → ℕ → OutPoint → Option ℕ
spender pending alive p o = find (λ k. nat_le p k && (slice_index_or alive k false && has_input o (slice_index_or pending k no_tx).inputs)) (below (length pending))

-- ---- the first number from p on

abbrev from : (ℕ → Bool) → ℕ → ℕ → Bool
from test p k = nat_le p k && test k

-- there is none from the end on
none_from : (test : ℕ → Bool) (n p : ℕ) → n ≤ p → find (from test p) (below n) ≡ None
unfolding below
none_from test zero p le = refl
none_from test (suc n) p le = find_more (from test p) n ∙ (λ k. option_or (none_from test n p (omega arith) k) (place_if (lt-leb p n (omega arith) k && test n) n))

-- from one place before
from_step : (test : ℕ → Bool) (n p : ℕ) → p < n → find (from test p) (below n) ≡ cond (test p) (Some p) (find (from test (p + 1)) (below n))
unfolding below
from_step test zero p lt = absurd (omega arith)
from_step test (suc n) p lt = by (from_step test n p) (cases_lt p n)
  where
    split : (b c d : Bool) (r s : Option ℕ) → c ≡ d → r ≡ cond b (Some p) s → option_or r (place_if c n) ≡ cond b (Some p) (option_or s (place_if d n))
    split true c d r s same e = ap (λ r. option_or r (place_if c n)) e
    split false c d r s same e = (λ k. option_or (e k) (place_if (same k) n))

    one : (b : Bool) (q : ℕ) (t : Option ℕ) → q ≡ p → t ≡ None → place_if b q ≡ cond b (Some p) t
    one true q t e none = ap (λ k. Some k) e
    one false q t e none = sym none

    by : (p < n → find (from test p) (below n) ≡ cond (test p) (Some p) (find (from test (p + 1)) (below n))) → (p < n) ⊎ (n ≤ p) → find (from test p) (below (suc n)) ≡ cond (test p) (Some p) (find (from test (p + 1)) (below (suc n)))
    by r (inl h) =
        find_more (from test p) n
        ∙ split (test p) (from test p n) (from test (p + 1) n) (find (from test p) (below n)) (find (from test (p + 1)) (below n)) (ap (λ b. b && test n) (le-leb p n (omega arith) ∙ sym (le-leb (p + 1) n (omega arith)))) (r h)
        ∙ ap (λ s. cond (test p) (Some p) s) (sym (find_more (from test (p + 1)) n))
    by r (inr h) =
        let e : n ≡ p = omega arith in
        find_more (from test p) n
        ∙ (λ k. option_or (none_from test n p h k) (place_if (le-leb p n (omega arith) k && test n) n))
        ∙ ap (λ q. place_if (test q) n) e
        ∙ one (test p) n (find (from test (p + 1)) (below (suc n))) e (none_from test (suc n) (p + 1) (omega arith))

-- ---- the first spender from a place on

-- none stands after the list
pub spender_none : (pending : List Transaction) (alive : List Bool) (o : OutPoint) → spender pending alive (length pending) o ≡ None
spender_none pending alive o = none_from (λ k. slice_index_or alive k false && has_input o (slice_index_or pending k no_tx).inputs) (length pending) (length pending) (omega arith)

-- the one at a place spends its outpoints, if it is alive
pub spender_step : (pending : List Transaction) (alive : List Bool) (p : ℕ) (o : OutPoint) → p < length pending
    → spender pending alive p o ≡ cond (slice_index_or alive p false && has_input o (slice_index_or pending p no_tx).inputs) (Some p) (spender pending alive (p + 1) o)
spender_step pending alive p o lt = from_step (λ k. slice_index_or alive k false && has_input o (slice_index_or pending k no_tx).inputs) (length pending) p lt

-- ---- the replacer

after : (p k : ℕ) → nat_le (p + 1) k ≡ nat_lt p k
after p k = by (cases_lt p k)
  where
    by : (p < k) ⊎ (k ≤ p) → nat_le (p + 1) k ≡ nat_lt p k
    by (inl h) = le-leb (p + 1) k (omega arith) ∙ sym (lt-ltb p k h)
    by (inr h) = lt-leb (p + 1) k (omega arith) ∙ sym (le-ltb p k h)

never : {X : Type 0} (xs : List X) → list_any (λ (x : X). false) xs ≡ false
never [] = refl
never (x ∷ xs) = never xs

any_both : {X : Type 0} (c a : Bool) (h : X → Bool) (xs : List X) → list_any (λ x. c && (a && h x)) xs ≡ (c && (list_any h xs && a))
any_both false a h xs = never xs
any_both true true h xs = by (list_any h xs)
  where
    by : (b : Bool) → b ≡ (b && true)
    by true = refl
    by false = refl
any_both true false h xs = never xs ∙ by (list_any h xs)
  where
    by : (b : Bool) → false ≡ (b && false)
    by true = refl
    by false = refl

-- the least of the first spenders after it of its outpoints
pub replacer_found : (pending : List Transaction) (alive : List Bool) (p : ℕ) → least_by (λ (i : TxIn). spender pending alive (p + 1) i.prev) (slice_index_or pending p no_tx).inputs ≡ replacer_by pending alive p
replacer_found pending alive p =
    sym (find_any (λ (i : TxIn) k. nat_le (p + 1) k && (slice_index_or alive k false && has_input i.prev (slice_index_or pending k no_tx).inputs)) (slice_index_or pending p no_tx).inputs (length pending))
    ∙ find_agree (λ k. list_any (λ (i : TxIn). nat_le (p + 1) k && (slice_index_or alive k false && has_input i.prev (slice_index_or pending k no_tx).inputs)) (slice_index_or pending p no_tx).inputs)
    (λ k. nat_lt p k && (shares (slice_index_or pending p no_tx) (slice_index_or pending k no_tx) && slice_index_or alive k false)) (below (length pending))
    (λ k c. any_both (nat_le (p + 1) k) (slice_index_or alive k false) (λ (i : TxIn). has_input i.prev (slice_index_or pending k no_tx).inputs) (slice_index_or pending p no_tx).inputs
    ∙ ap (λ b. b && (shares (slice_index_or pending p no_tx) (slice_index_or pending k no_tx) && slice_index_or alive k false)) (after p k))
