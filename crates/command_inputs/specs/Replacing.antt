-- What a payment is that replaces another, in words of BIP 125: original transactions are those that spend an output which the
-- replacement spends too.
use Rattle.std.specs.Prelude.{ℕ, ◌≡◌, ◌≢◌, ◌+◌, ◌-◌, ◌*◌, ◌<◌, ◌≤◌, ◌⊎◌, ◌↔◌, List, length, All, Contains, None, Some}
use Rattle.std.specs.List.{Any}
use Rattle.coin_book.specs.Coins.{coins_of}
use Rattle.coin_book.specs.History.{History}
use Rattle.coin_book.specs.declared.coin.Coin.{Coin}
use Rattle.known_fees.specs.Worth.{fee_in}
use Rattle.fee_bump.specs.Bump.{fees_in, replaced_at}
use Rattle.fee_bump.specs.Faults.{points_of}
use Rattle.known_fees.specs.Worth.{IsKnown}
use Rattle.fee_bump.specs.Meant.{GoesWith, IsNamed, MayBeReplaced}
use Rattle.fee_rates.specs.Fee.{fee_of, vsize_of}
use Rattle.fee_rates.specs.Terms.{base_of}
use Rattle.coin_candidates.specs.declared.candidate.Candidate.{Candidate}
use Rattle.fund_plan.specs.Pays.{outputs_of}
use Rattle.fund_plan.specs.Selection.{PlainFunded}
use Rattle.fund_steps.specs.Amounts.{value_of, weight_of as coins_weight}
use Rattle.fund_steps.specs.Listed.{burden_in, presets_in}
use Rattle.fund_steps.specs.Plan.{PlainPlan, coins_in}
use Rattle.fund_steps.specs.Terms.{load_of}
use Rattle.payment_states.specs.Causes.{HasCause, IsKin, Spends}
use Rattle.payment_states.specs.Offered.{WaitsAt}
use Rattle.payment_states.specs.PendingView.{tx_at, view_of}
use Rattle.payment_facts.specs.Pendings.{pending_below}
use Rattle.payment_states.specs.declared.state.State.TheVariants as state
use Rattle.request_text.specs.PlainRequest.{PlainRequest}
use Rattle.tx_codec.specs.Weight.{weight_of}
use Rattle.tx_codec.specs.declared.tx.TxIn.{TxIn}
use Rattle.wallet_text.specs.PlainWallet.{PlainWallet}

-- the transaction at place j of the pending list is Pending, and spends an output that the payment spends
abbrev pub IsOriginal : PlainWallet → History → PlainFunded → ℕ → Type 0
IsOriginal w h f j = WaitsAt w h j × ((c : Candidate) × Contains f.coins c × Spends c.coin (tx_at (view_of w h) j))

-- the one at place k is Pending, and is an original one or descends from one
abbrev pub IsEvicted : PlainWallet → History → PlainFunded → ℕ → Type 0
IsEvicted w h f k = WaitsAt w h k × ((j : ℕ) × IsOriginal w h f j × IsKin (view_of w h) k j)

-- the coin is an output of a confirmed transaction
abbrev pub IsConfirmedCoin : History → Candidate → Type 0
IsConfirmedCoin h c = (k : Coin) × Contains (coins_of h) k × (k.coin ≡ c.coin) × (k.height ≢ None)

-- The payment replaces the one at a place of the pending list, which the request names, by the rules of BIP 125
-- ('Implementation Details', 1 to 5), on declared weights. It spends all that this one spends. What it evicts are this one and
-- its Pending descendants, and no others. Each input of these spends a coin, or an output of one of them, so that their fees
-- are known.
--
-- 1: each original transaction signals that it may be replaced, or a Pending ancestor of it does. 2: an output that isn't
-- confirmed is spent only where the replaced one spends it too. 3 and 4: its fee is above the fees of all that it evicts and
-- 1,000 satoshi per 1,000 virtual bytes of its own size together. 5: it evicts at most 100. Its fee for its size is above that
-- of the replaced one.
pub record Replaces (w : PlainWallet) (h : History) (r : PlainRequest) (f : PlainFunded) : Type 0 where
  pub place : ℕ
  pub named : IsNamed (view_of w h) r place
  pub waits : HasCause (view_of w h) place state.Pending
  pub known : All (IsKnown h (replaced_at (view_of w h) place)) (points_of (replaced_at (view_of w h) place))
  pub spends : All (λ (x : TxIn). Any (λ (c : Candidate). c.coin ≡ x.prev) f.coins) (tx_at (view_of w h) place).inputs
  pub evicted : (k : ℕ) → IsEvicted w h f k ↔ GoesWith (view_of w h) place k
  pub told : (k : ℕ) → Contains (pending_below (view_of w h) place) k ↔ IsEvicted w h f k
  pub signals : (j : ℕ) → IsOriginal w h f j → MayBeReplaced (view_of w h) j
  pub inputs : All (λ (c : Candidate). IsConfirmedCoin h c ⊎ Spends c.coin (tx_at (view_of w h) place)) f.coins
  pub fee : outputs_of r f.change + fees_in h (replaced_at (view_of w h) place) + fee_of 1_000 (vsize_of f.weight) < value_of f.coins
  pub few : length (replaced_at (view_of w h) place) ≤ 100
  pub higher : fee_in h (replaced_at (view_of w h) place) (tx_at (view_of w h) place) * vsize_of f.weight < (value_of f.coins - outputs_of r f.change) * vsize_of (weight_of (tx_at (view_of w h) place))

-- What a payment of a plan does, whoever chose its coins: they are ones that the plan can spend, the presets among them;
-- beside the fee of its declared weight it pays the plan's burden; and it weighs no less than the base and the inputs of the
-- presets alone.
pub record PaysTheBurden (p : PlainPlan) (f : PlainFunded) : Type 0 where
  pub coins : All (Contains (coins_in p)) f.coins
  pub presets : All (Contains f.coins) (presets_in p)
  pub fee : outputs_of p.request f.change + burden_in p + fee_of p.request.rate (vsize_of f.weight) ≤ value_of f.coins
  pub weight : base_of (load_of p.request p.change (presets_in p) (burden_in p)) + coins_weight (presets_in p) ≤ f.weight

-- the payment replaces the one that the request names, if it names one
abbrev pub ReplacesIf : PlainWallet → History → PlainRequest → PlainFunded → Type 0
ReplacesIf w h r f = (txid : List ℕ) → r.bump ≡ Some txid → Replaces w h r f
