-- What is replaced, and why a payment isn't, in words of inputs, of the chain and of ways from child to parent (BIP 125).
use Rattle.std.specs.Prelude.{ℕ, ◌≡◌, ◌≢◌, ◌*◌, ◌≤◌, ◌<◌, ◌++◌, List, ◌∷◌, length, All, Some, None}
use Rattle.fund_base.specs.declared.outpoint.OutPoint.{OutPoint}
use Rattle.tx_codec.specs.Signals.{Signals}
use Rattle.tx_codec.specs.Transaction.{Transaction}
use Rattle.tx_codec.specs.Txid.{txid_of}
use Rattle.tx_codec.specs.Weight.{weight_of}
use Rattle.fee_rates.specs.Fee.{vsize_of}
use Rattle.wallet_text.specs.PlainWallet.{PlainWallet}
use Rattle.request_text.specs.PlainRequest.{PlainRequest}
use Rattle.coin_book.specs.History.{History}
use Rattle.payment_states.specs.Causes.{HasCause, IsKin}
use Rattle.payment_states.specs.PendingView.{PendingView, tx_at, view_of}
use Rattle.payment_states.specs.declared.state.State.TheVariants as state
use Rattle.known_fees.specs.Worth.{fee_in}
use Rattle.known_fees.specs.Worth.{IsKnown}
use Rattle.fee_bump.specs.Bump.{replaced_at}
use Rattle.fee_bump.specs.Faults.{points_of}
use Rattle.fee_bump.specs.declared.fault.BumpFault.{BumpFault}
use Rattle.fee_bump.specs.declared.fault.BumpFault.TheVariants.{NotPending, NotSignalling, ForeignInput, TooManyEvicted, RateBelowIncrement, RateNotHigher, Memory}

-- ---- what is replaced

-- The transaction at place j is Pending, and it is the one at place i or descends from it.
pub record GoesWith (w : PendingView) (i j : ℕ) : Type 0 where
  pub stands : j < length w.pending
  pub descends : IsKin w j i
  pub waits : HasCause w j state.Pending

-- The one at place i signals by itself that it may be replaced, or a Pending ancestor of it does (BIP 125, 'Summary').
abbrev pub MayBeReplaced : PendingView → ℕ → Type 0
MayBeReplaced w i = (j : ℕ) × IsKin w i j × HasCause w j state.Pending × Signals (tx_at w j)

-- the one at place i is the payment that the request names
pub record IsNamed (w : PendingView) (r : PlainRequest) (i : ℕ) : Type 0 where
  pub txid : List ℕ
  pub asked : r.bump ≡ Some txid
  pub stands : i < length w.pending
  pub txid_is : txid_of (tx_at w i) ≡ txid

-- ---- what is known of outpoints

-- the first outpoint of an input of these that isn't known
pub record IsFirstForeign (h : History) (ts : List Transaction) (o : OutPoint) : Type 0 where
  pub front : List OutPoint
  pub rest : List OutPoint
  pub parts : points_of ts ≡ front ++ o ∷ rest
  pub before : All (IsKnown h ts) front
  pub foreign : IsKnown h ts o → ⊥

-- ---- faults

-- the payment that the request names stands at place i, is Pending and may be replaced
pub record IsOffered (w : PendingView) (r : PlainRequest) (i : ℕ) : Type 0 where
  pub named : IsNamed w r i
  pub waits : HasCause w i state.Pending
  pub signals : MayBeReplaced w i

-- and each input of it and of what goes with it spends what is known
pub record IsReckoned (w : PlainWallet) (h : History) (r : PlainRequest) (i : ℕ) : Type 0 where
  pub offered : IsOffered (view_of w h) r i
  pub known : All (IsKnown h (replaced_at (view_of w h) i)) (points_of (replaced_at (view_of w h) i))

-- What keeps a payment from being replaced. Not pending: no transaction of the pending list has the txid; or one has, and
-- this is its state, which isn't Pending. Otherwise, not signalling: it may not be replaced. Otherwise, foreign input: this
-- is the first outpoint that is spent and not known. Otherwise, too many evicted: this many go together, more than 100.
-- Otherwise, rate below increment: the rate is below 1,000. Otherwise, rate not higher: it isn't above that of this fee and
-- this virtual size, which are the payment's.
abbrev pub IsBumpFault : PlainWallet → History → PlainRequest → BumpFault → Type 0
IsBumpFault w h r (NotPending None) = (txid : List ℕ) × (r.bump ≡ Some txid) × All (λ (t : Transaction). txid_of t ≢ txid) w.pending
IsBumpFault w h r (NotPending (Some s)) = (i : ℕ) × IsNamed (view_of w h) r i × HasCause (view_of w h) i s × (s ≢ state.Pending)
IsBumpFault w h r NotSignalling = (i : ℕ) × IsNamed (view_of w h) r i × HasCause (view_of w h) i state.Pending × (MayBeReplaced (view_of w h) i → ⊥)
IsBumpFault w h r (ForeignInput o) = (i : ℕ) × IsOffered (view_of w h) r i × IsFirstForeign h (replaced_at (view_of w h) i) o
IsBumpFault w h r (TooManyEvicted n) = (i : ℕ) × IsReckoned w h r i × (n ≡ length (replaced_at (view_of w h) i)) × (100 < n)
IsBumpFault w h r RateBelowIncrement = (i : ℕ) × IsReckoned w h r i × (length (replaced_at (view_of w h) i) ≤ 100) × (r.rate < 1000)
IsBumpFault w h r (RateNotHigher fee vsize) =
    (i : ℕ) × IsReckoned w h r i × (length (replaced_at (view_of w h) i) ≤ 100) × (1000 ≤ r.rate)
    × (fee ≡ fee_in h (replaced_at (view_of w h) i) (tx_at (view_of w h) i)) × (vsize ≡ vsize_of (weight_of (tx_at (view_of w h) i))) × (r.rate * vsize ≤ 1000 * fee)
IsBumpFault w h r Memory = Unit {0}

-- Nothing keeps the payment at place i from being replaced.
pub record CanReplace (w : PlainWallet) (h : History) (r : PlainRequest) (i : ℕ) : Type 0 where
  pub reckoned : IsReckoned w h r i
  pub few : length (replaced_at (view_of w h) i) ≤ 100
  pub increment : 1000 ≤ r.rate
  pub higher : 1000 * fee_in h (replaced_at (view_of w h) i) (tx_at (view_of w h) i) < r.rate * vsize_of (weight_of (tx_at (view_of w h) i))
