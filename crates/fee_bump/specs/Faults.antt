-- Why a payment isn't replaced: the first cause.
use Rattle.std.specs.Prelude.{ℕ, ◌*◌, Bool, List, [], length, map, nat_le, nat_lt, unwrap_or, Option, Some, None, option_map, if◌then◌else◌}
use Rattle.std.specs.List.{flat_map, list_any}
use Rattle.std.specs.Option.{option_or}
use Rattle.fund_base.specs.declared.outpoint.OutPoint.{OutPoint}
use Rattle.tx_codec.specs.Transaction.{Transaction}
use Rattle.tx_codec.specs.Weight.{weight_of}
use Rattle.tx_codec.specs.declared.tx.TxIn.{TxIn}
use Rattle.fee_rates.specs.Fee.{vsize_of}
use Rattle.wallet_text.specs.PlainWallet.{PlainWallet}
use Rattle.request_text.specs.PlainRequest.{PlainRequest}
use Rattle.coin_book.specs.History.{History}
use Rattle.payment_states.specs.Candidates.{is_pending_state}
use Rattle.payment_states.specs.Payments.{payments_of, state_of}
use Rattle.payment_facts.specs.Pendings.{pending_above}
use Rattle.payment_states.specs.PendingView.{PendingView, tx_at, view_of}
use Rattle.payment_states.specs.declared.state.State.{State}
use Rattle.known_fees.specs.Worth.{fee_in}
use Rattle.known_fees.specs.Worth.{first_foreign}
use Rattle.fee_bump.specs.Bump.{payment_place, replaced_at}
use Rattle.fee_bump.specs.declared.fault.BumpFault.{BumpFault}
use Rattle.fee_bump.specs.declared.fault.BumpFault.TheVariants.{NotPending, NotSignalling, ForeignInput, TooManyEvicted, RateBelowIncrement, RateNotHigher}

-- some input's sequence is below FFFFFFFE
abbrev pub has_signal : Transaction → Bool
has_signal t = list_any (λ (i : TxIn). nat_lt i.sequence 4_294_967_294) t.inputs

-- the one at a place or a Pending ancestor of it has such an input
unfoldable pub can_be_replaced : PendingView → ℕ → Bool
can_be_replaced w i = list_any (λ j. has_signal (tx_at w j)) (pending_above w i)

-- the outpoints that transactions spend, in order
abbrev pub points_of : List Transaction → List OutPoint
points_of ts = flat_map (λ (t : Transaction). map (λ (i : TxIn). i.prev) t.inputs) ts

-- the first outpoint of their inputs that is neither a coin's nor that of an output of one of the transactions
unfoldable pub foreign_in : History → List Transaction → Option OutPoint
foreign_in h ts = first_foreign h ts (points_of ts)

-- the rate doesn't exceed that of a fee and a virtual size
abbrev pub is_not_higher : (rate fee vsize : ℕ) → Bool
is_not_higher rate fee vsize = nat_le (rate * vsize) (1000 * fee)

-- by the rates
abbrev pub rate_fault : PlainRequest → (fee vsize : ℕ) → Option BumpFault
rate_fault r fee vsize = if nat_lt r.rate 1000 then Some RateBelowIncrement else if is_not_higher r.rate fee vsize then Some (RateNotHigher fee vsize) else None

-- by how many are replaced, and then by the rates
abbrev pub count_fault : PlainRequest → (count fee vsize : ℕ) → Option BumpFault
count_fault r count fee vsize = if nat_lt 100 count then Some (TooManyEvicted count) else rate_fault r fee vsize

-- by the inputs, where the payment at place i is Pending and can be replaced
abbrev pub input_fault : PlainWallet → History → PlainRequest → ℕ → Option BumpFault
input_fault w h r i =
    option_or (option_map ForeignInput (foreign_in h (replaced_at (view_of w h) i)))
    (count_fault r (length (replaced_at (view_of w h) i)) (fee_in h (replaced_at (view_of w h) i) (tx_at (view_of w h) i)) (vsize_of (weight_of (tx_at (view_of w h) i))))

-- by its signals, where it is Pending
abbrev pub signal_fault : PlainWallet → History → PlainRequest → ℕ → Option BumpFault
signal_fault w h r i = if can_be_replaced (view_of w h) i then input_fault w h r i else Some NotSignalling

-- by its state alone
abbrev pub pending_fault : Option State → Option BumpFault
pending_fault None = Some (NotPending None)
pending_fault (Some s) = if is_pending_state s then None else Some (NotPending (Some s))

-- by its state
abbrev pub state_fault : PlainWallet → History → PlainRequest → Option State → Option BumpFault
state_fault w h r None = Some (NotPending None)
state_fault w h r (Some s) = if is_pending_state s then signal_fault w h r (payment_place (view_of w h) r) else Some (NotPending (Some s))

-- why the payment that a request names isn't replaced, if it isn't
unfoldable pub fault_of : PlainWallet → History → PlainRequest → Option BumpFault
fault_of w h r = state_fault w h r (state_of (payments_of w h) (unwrap_or r.bump []))
