-- What it means that a transaction pays what is asked, from given coins.
use Rattle.std.specs.Prelude.{ℕ, ◌≡◌, ◌+◌, ◌-◌, ◌*◌, ◌≤◌, ◌<◌, List, [], ◌∷◌, ◌++◌, map, sum_by, false, Bool, Option, Some, None, IfSome, if◌then◌else◌}
use Rattle.coin_candidates.specs.declared.candidate.Candidate.{Candidate}
use Rattle.tx_codec.specs.declared.tx.TxIn.{TxIn}
use Rattle.tx_codec.specs.declared.tx.TxOut.{TxOut}
use Rattle.tx_codec.specs.Transaction.{Transaction}
use Rattle.fee_rates.specs.Fee.{fee_of, input_fee_of, vsize_of}
use Rattle.fee_rates.specs.Output.{dust_of}
use Rattle.fee_rates.specs.Terms.{base_of, change_fee_of, change_least_of}
use Rattle.fee_rates.specs.declared.terms.PaymentLoad.{PaymentLoad}
use Rattle.request_text.specs.PlainRequest.{PlainRequest, paid_to}
use Rattle.request_text.specs.declared.request.Recipient.{Recipient}
use Rattle.wallet_text.specs.declared.wallet.Watch.{Watch}
use Rattle.fund_steps.specs.Amounts.{charges_of, prices_of, value_of, weight_of}
use Rattle.fund_plan.specs.Selection.{PlainFunded}
use Rattle.fund_steps.specs.Selection.{AreSorted}
use Rattle.fund_steps.specs.Terms.{rates_of}

-- the sequence of each input: FFFFFFFD lets the payment be replaced, FFFFFFFE doesn't (BIP 125, 'Summary')
abbrev pub sequence_of : (replaceable : Bool) → ℕ
sequence_of replaceable = if replaceable then 4_294_967_293 else 4_294_967_294

-- an input that spends a coin and isn't signed
abbrev pub unsigned_input : (replaceable : Bool) → Candidate → TxIn
unsigned_input replaceable c = record { prev = c.coin; script = []; sequence = sequence_of replaceable; witness = [] }

-- the output to a recipient
abbrev pub recipient_output : Recipient → TxOut
recipient_output q = record { value = q.amount; script = q.script }

-- the change, where there is any
abbrev pub change_outputs : Watch → Option ℕ → List TxOut
change_outputs change None = []
change_outputs change (Some amount) = record { value = amount; script = change.script } ∷ []

-- what the outputs take together: the recipients, and the change
abbrev pub outputs_of : PlainRequest → Option ℕ → ℕ
outputs_of r None = paid_to r.recipients
outputs_of r (Some amount) = paid_to r.recipients + amount

-- The weight of a payment as it is declared: its base, its inputs, and four times its change output.
abbrev pub payment_weight : PaymentLoad → List Candidate → Option ℕ → ℕ
payment_weight l coins None = base_of l + weight_of coins
payment_weight l coins (Some amount) = base_of l + weight_of coins + 4 * l.change_size

-- What the target of a payment is raised by so that it chooses a coin: 1, where it needs nothing and is given no coin.
abbrev pub raised_of : ℕ → PaymentLoad → ℕ
raised_of rate l = if l.has_presets then 0 else 1 - (l.paid + fee_of rate (vsize_of (base_of l)) + l.burden)

-- what the inputs of a payment without change have to bring: the outputs, the fee of the base, the fee and the price of each
-- input, the burden of a replacement, and by what the target is raised
abbrev pub due_of : ℕ → PaymentLoad → List Candidate → (outputs : ℕ) → ℕ
due_of rate l coins outputs = outputs + fee_of rate (vsize_of (base_of l)) + charges_of rate coins + l.burden + raised_of rate l

-- Where the money goes. With change nothing is left over: the inputs bring what is due and the fee of the change output.
-- Without change the fee takes what is left over, which is less than the least change with its fee.
abbrev pub Balances : PlainRequest → PaymentLoad → List Candidate → Option ℕ → (inputs outputs : ℕ) → Type 0
Balances r l coins None inputs outputs =
    (due_of r.rate l coins outputs ≤ inputs)
    × (inputs + 1 ≤ due_of r.rate l coins outputs + change_fee_of (rates_of r) l + change_least_of (rates_of r) l)
Balances r l coins (Some amount) inputs outputs = inputs ≡ due_of r.rate l coins outputs + change_fee_of (rates_of r) l

-- a change that is worth making: it is no dust for its script (Bitcoin Core, `GetDustThreshold`), and more than the fee of
-- spending it at the discard rate
pub record IsWorthIt (r : PlainRequest) (change : Watch) (n : ℕ) : Type 0 where
  pub dust : dust_of change.script ≤ n
  pub spending : input_fee_of r.discard change.weight < n

-- The transaction spends the coins and pays what is asked, the rest to the change script or to the fee. The load is what
-- the payment is to carry.
pub record Pays (r : PlainRequest) (change : Watch) (l : PaymentLoad) (coins : List Candidate) (amount : Option ℕ) (t : Transaction) : Type 0 where
  -- each coin once, in the order of their outpoints
  pub inputs : t.inputs ≡ map (unsigned_input r.replaceable) coins
  pub sorted : AreSorted coins
  -- the recipients in order, equal ones repeated, then the change
  pub outputs : t.outputs ≡ map recipient_output r.recipients ++ change_outputs change amount
  pub version : t.version ≡ 2
  pub locktime : t.locktime ≡ r.locktime
  pub bare : t.segwit ≡ false
  -- inputs less outputs
  pub fee : Balances r l coins amount (value_of coins) (sum_by (λ (o : TxOut). o.value) t.outputs)
  -- a change is no dust, and worth more than its spending costs
  pub change_worth : IfSome amount (λ n. change_least_of (rates_of r) l ≤ n)
  pub weight : payment_weight l coins amount ≤ 400_000
  -- no less than the fee of the declared weight, and the prices of the coins
  pub fee_covers : sum_by (λ (o : TxOut). o.value) t.outputs + fee_of r.rate (vsize_of (payment_weight l coins amount)) + prices_of coins ≤ value_of coins

-- the unsigned transaction that spends these coins, with this change or with none
unfoldable pub payment_from : PlainRequest → Watch → List Candidate → Option ℕ → Transaction
payment_from r change coins amount = record {
  version = 2;
  inputs = map (unsigned_input r.replaceable) coins;
  outputs = map recipient_output r.recipients ++ change_outputs change amount;
  locktime = r.locktime;
  segwit = false;
}

-- the same of a payment
abbrev pub payment_of : PlainRequest → Watch → PlainFunded → Transaction
payment_of r change f = payment_from r change f.coins f.change
