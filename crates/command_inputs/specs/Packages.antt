-- What a payment pays for the Pending payments that its coins rest on: with it these are a package, of which a miner has to take
-- all.
use Rattle.std.specs.Prelude.{ℕ, ◌≡◌, ◌+◌, ◌-◌, ◌<◌, ◌≤◌, true, List, All, sum_by}
use Rattle.std.specs.List.{AllPairs, Any}
use Rattle.coin_book.specs.History.{History}
use Rattle.coin_candidates.specs.declared.candidate.Candidate.{Candidate}
use Rattle.fee_rates.specs.Fee.{fee_of, vsize_of}
use Rattle.fund_base.specs.declared.money.TheConstants.{MAX_MONEY}
use Rattle.fund_plan.specs.Pays.{outputs_of}
use Rattle.fund_plan.specs.Selection.{PlainFunded}
use Rattle.fund_steps.specs.Amounts.{value_of}
use Rattle.known_fees.specs.Missing.{is_known, size_of}
use Rattle.known_fees.specs.Worth.{paid_by}
use Rattle.payment_states.specs.PendingView.{tx_at, view_of}
use Rattle.payment_states.specs.Prices.{RestsOn}
use Rattle.request_text.specs.PlainRequest.{PlainRequest}
use Rattle.wallet_text.specs.PlainWallet.{PlainWallet}

-- Places of the pending list, rising. The transaction at each is Pending, and it made one of these coins or is an ancestor of the
-- one that did. It is known what it pays: each of its inputs spends a coin of the book, or an output of a transaction of the
-- pending list.
pub record AreUnder (w : PlainWallet) (h : History) (coins : List Candidate) (places : List ℕ) : Type 0 where
  pub rising : AllPairs (λ (a b : ℕ). a < b) places
  pub rest : All (λ j. Any (λ (c : Candidate). RestsOn w h c.coin j) coins) places
  pub known : All (λ j. is_known h w.pending (tx_at (view_of w h) j) ≡ true) places

-- the virtual sizes of the transactions at these places together, each as 10,000,000,000 where it is more
abbrev pub sizes_at : PlainWallet → History → List ℕ → ℕ
sizes_at w h places = sum_by (λ j. size_of (tx_at (view_of w h) j)) places

-- what these transactions pay together, in satoshi
abbrev pub fees_at : PlainWallet → History → List ℕ → ℕ
fees_at w h places = sum_by (λ j. paid_by h w.pending (tx_at (view_of w h) j)) places

-- The payment pays for its package. Where the price of each of its coins is below 21,000,000 bitcoin, take any such transactions,
-- each once, or all: what they pay and the payment's inputs less its outputs come together to no less than the fee of the
-- request's rate for the sizes of all of them.
abbrev pub PaysForPackages : PlainWallet → History → PlainRequest → PlainFunded → Type 0
PaysForPackages w h r f =
    (places : List ℕ) → All (λ (c : Candidate). c.price < MAX_MONEY) f.coins → AreUnder w h f.coins places
    → fee_of r.rate (vsize_of f.weight + sizes_at w h places) ≤ (value_of f.coins - outputs_of r f.change) + fees_at w h places
