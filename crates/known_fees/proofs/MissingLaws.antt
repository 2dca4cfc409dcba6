-- What is missing of fees.
use Rattle.std.proofs.Common.{◌≡◌, ℕ, ◌+◌, ◌-◌, ◌≤◌, ◌&&◌, Bool, true, false, cond, List, [], ◌∷◌, map, min, Option, Some, None, refl, arith}
use Rattle.std.specs.Prelude.{find, is_none, is_some}
use Rattle.std.specs.List.{list_all}
use Rattle.fund_base.specs.declared.outpoint.OutPoint.{OutPoint}
use Rattle.tx_codec.specs.Transaction.{Transaction}
use Rattle.tx_codec.specs.declared.tx.TxIn.{TxIn}
use Rattle.fee_rates.proofs.FeeLaws.{fee_below, fee_least}
use Rattle.fee_rates.specs.Fee.{fee_of}
use Rattle.coin_book.specs.History.{History}
use Rattle.known_fees.specs.Missing.{is_known, lack_of, missing_of, size_of}
use Rattle.known_fees.specs.Worth.{first_foreign, paid_by, worth_of}

-- nothing is foreign exactly where all is known
none_foreign : (worth : OutPoint → Option ℕ) (inputs : List TxIn) → is_none (find (λ o. is_none (worth o)) (map (λ (i : TxIn). i.prev) inputs)) ≡ list_all (λ (i : TxIn). is_some (worth i.prev)) inputs
none_foreign worth [] = refl
none_foreign worth (x ∷ xs) = by (worth x.prev) (none_foreign worth xs)
  where
    by : (r : Option ℕ) → is_none (find (λ o. is_none (worth o)) (map (λ (i : TxIn). i.prev) xs)) ≡ list_all (λ (i : TxIn). is_some (worth i.prev)) xs
        → is_none (cond (is_none r) (Some x.prev) (find (λ o. is_none (worth o)) (map (λ (i : TxIn). i.prev) xs))) ≡ (is_some r && list_all (λ (i : TxIn). is_some (worth i.prev)) xs)
    by None e = refl
    by (Some n) e = e

pub known_where : (h : History) (ts : List Transaction) (t : Transaction) → is_none (first_foreign h ts (map (λ (i : TxIn). i.prev) t.inputs)) ≡ is_known h ts t
unfolding is_known
known_where h ts t = none_foreign (worth_of h ts) t.inputs

pub fee_most : (rate size : ℕ) → rate ≤ 100_000_000 → size ≤ 10_000_000_000 → fee_of rate size ≤ 1_000_000_000_000_000
fee_most rate size low small = omega (arith, fee_below rate size 100_000_000 10_000_000_000 low small, (fee_least 100_000_000 10_000_000_000).least 1_000_000_000_000_000 (omega arith))

-- a fee that is capped lacks the same
pub capped : (due paid : ℕ) → due ≤ 1_000_000_000_000_000 → due - min 2_100_000_000_000_000 paid ≡ due - paid
capped due paid most = omega arith

-- ---- the law

raised_by : (b : Bool) (due paid : ℕ) → b ≡ true → due ≤ paid + cond b (due - paid) 0
raised_by true due paid e = omega arith
raised_by false due paid e = absurd (let x : false ≡ true = e in cc)

least_by : (b : Bool) (due paid n : ℕ) → due ≤ paid + n → cond b (due - paid) 0 ≤ n
least_by true due paid n h = omega arith
least_by false due paid n h = omega arith

none_by : (b : Bool) (n : ℕ) → b ≡ false → cond b n 0 ≡ 0
none_by true n e = absurd (let x : true ≡ false = e in cc)
none_by false n e = refl

rises_by : (b : Bool) (low high paid : ℕ) → low ≤ high → cond b (low - paid) 0 ≤ cond b (high - paid) 0
rises_by true low high paid h = omega arith
rises_by false low high paid h = omega arith

module _ (rate : ℕ) (h : History) (ts : List Transaction) (t : Transaction) where
  pub raises : is_known h ts t ≡ true → fee_of rate (size_of t) ≤ paid_by h ts t + missing_of rate h ts t
  unfolding missing_of
  raises known = raised_by (is_known h ts t) (fee_of rate (size_of t)) (paid_by h ts t) known

  pub least : (n : ℕ) → fee_of rate (size_of t) ≤ paid_by h ts t + n → missing_of rate h ts t ≤ n
  unfolding missing_of
  least n enough = least_by (is_known h ts t) (fee_of rate (size_of t)) (paid_by h ts t) n enough

  pub unknown : is_known h ts t ≡ false → missing_of rate h ts t ≡ 0
  unfolding missing_of
  unknown e = none_by (is_known h ts t) (lack_of rate h ts t) e

pub rises : (rate higher : ℕ) (h : History) (ts : List Transaction) (t : Transaction) → rate ≤ higher → missing_of rate h ts t ≤ missing_of higher h ts t
unfolding missing_of
rises rate higher h ts t le =
    rises_by (is_known h ts t) (fee_of rate (size_of t)) (fee_of higher (size_of t)) (paid_by h ts t) (fee_below rate (size_of t) higher (size_of t) le (omega arith))
