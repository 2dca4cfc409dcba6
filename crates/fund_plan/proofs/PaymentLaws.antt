-- The unsigned transaction of a payment has a text.
use Rattle.std.specs.Prelude.{ℕ, ◌≡◌, ◌+◌, ◌≤◌, ◌<◌, ◌^◌, List, [], ◌∷◌, ◌++◌, length, map, min, sum_by, All, Bool, true, false, Option, Some, None}
use Rattle.std.proofs.Common.{arith, refl, subst, length-append}
use Rattle.std.proofs.lemmas.List.{length-map}
use Rattle.std.proofs.lemmas.List.Elements.{All-nil, All-cons, All-append, All-map, All-weaker}
use Rattle.std.proofs.lemmas.List.Sums.{sum_by-cons}
use Rattle.fund_base.specs.Cursor.{IsBytes}
use Rattle.coin_candidates.specs.declared.candidate.Candidate.{Candidate}
use Rattle.tx_codec.specs.declared.tx.TxIn.{TxIn}
use Rattle.tx_codec.specs.declared.tx.TxOut.{TxOut}
use Rattle.tx_codec.specs.TransactionText.{HasWitness, InputFits, IsTransaction, OutputFits}
use Rattle.fee_rates.specs.Output.{output_size_of}
use Rattle.request_text.specs.PlainRequest.{IsRequest, PlainRequest, paid_to}
use Rattle.request_text.specs.declared.request.Recipient.{Recipient}
use Rattle.wallet_text.specs.WalletRules.{IsWatch}
use Rattle.wallet_text.specs.declared.wallet.Watch.{Watch}
use Rattle.fund_plan.specs.Pays.{change_outputs, outputs_of, payment_from, payment_of, payment_weight, recipient_output, sequence_of, unsigned_input}
use Rattle.fund_plan.specs.Selection.{PlainFunded}
use Rattle.fee_rates.specs.declared.terms.PaymentLoad.{PaymentLoad}
use Rattle.fund_plan.specs.Weighed.{HasOutpoint}
use Rattle.fund_plan.proofs.PaysLaws.{outputs_sum}

sequence_fits : (replaceable : Bool) → sequence_of replaceable < 2 ^ 32
sequence_fits true = omega arith
sequence_fits false = omega arith

pub input_fits : (replaceable : Bool) (c : Candidate) → length c.coin.txid ≡ 32 → IsBytes c.coin.txid → c.coin.index < 2 ^ 32 → InputFits (unsigned_input replaceable c)
input_fits replaceable c len bytes index = record {
  txid_len = len;
  txid = bytes;
  index = index;
  script = All-nil (λ b. b < 256);
  script_len = omega arith;
  sequence = sequence_fits replaceable;
  stack = All-nil (λ (item : List ℕ). All (λ b. b < 256) item × (length item < 2 ^ 64));
  stack_len = omega arith;
}

no_witness : (replaceable : Bool) (coins : List Candidate) → HasWitness (record { version = 2; inputs = map (unsigned_input replaceable) coins; outputs = []; locktime = 0; segwit = false }) → ⊥
no_witness replaceable coins h =
    let inputs = map (unsigned_input replaceable) coins in
    let all : All (λ (i : TxIn). i.witness ≡ []) inputs = All-map (λ (i : TxIn). i.witness ≡ []) (unsigned_input replaceable) coins (λ k d lt. refl) in
    h.4 (subst (λ (i : TxIn). i.witness ≡ []) h.3 (all h.0 h.1 h.2))

-- its inputs and outputs having texts
pub payment_text : (r : PlainRequest) (w : Watch) (f : PlainFunded) → r.locktime < 2 ^ 32 → 1 ≤ length r.recipients → 0 < length f.coins → length f.coins < 2 ^ 64 → outputs_of r f.change ≤ 2_100_000_000_000_000
    → All InputFits (map (unsigned_input r.replaceable) f.coins) → All OutputFits (map recipient_output r.recipients ++ change_outputs w f.change) → length (map recipient_output r.recipients ++ change_outputs w f.change) < 2 ^ 64
    → IsTransaction (payment_of r w f)
unfolding payment_from
payment_text r w f locktime some_recipients some few money inputs outputs outputs_few =
    let same = length-map f.coins (unsigned_input r.replaceable) in
    let both = length-append (map recipient_output r.recipients) (change_outputs w f.change) in
    let front = length-map r.recipients recipient_output in
    record {
      version = omega arith;
      locktime = locktime;
      inputs = inputs;
      inputs_some = omega arith;
      inputs_len = omega arith;
      outputs = outputs;
      outputs_some = omega arith;
      outputs_len = outputs_few;
      money = omega (arith, money, outputs_sum r w f.change);
      segregated = ((λ is. absurd cc), (λ some'. absurd (no_witness r.replaceable f.coins some')));
    }

-- ---- the payment of an outcome

plain_output : (r : PlainRequest) → IsRequest r → All OutputFits (map recipient_output r.recipients)
plain_output r h = All-map OutputFits recipient_output r.recipients (λ k d lt. let q = h.recipients k d lt in record { script = q.bytes; script_len = omega (arith, q.most) })

pub outputs_fit : (r : PlainRequest) (w : Watch) (amount : Option ℕ) → IsRequest r → IsWatch w → All OutputFits (map recipient_output r.recipients ++ change_outputs w amount)
outputs_fit r w None h hw = All-append OutputFits (map recipient_output r.recipients) [] (plain_output r h) (All-nil OutputFits)
outputs_fit r w (Some amount) h hw =
    let o : TxOut = record { value = amount; script = w.script } in
    All-append OutputFits (map recipient_output r.recipients) (o ∷ []) (plain_output r h) (All-cons OutputFits o [] (record { script = hw.bytes; script_len = omega (arith, hw.most) }) (All-nil OutputFits))

pub points_fit : (r : PlainRequest) (coins : List Candidate) → All (λ (c : Candidate). HasOutpoint c) coins → All InputFits (map (unsigned_input r.replaceable) coins)
points_fit r coins h =
    All-map InputFits (unsigned_input r.replaceable) coins
    (All-weaker (λ (c : Candidate). HasOutpoint c) (λ (c : Candidate). InputFits (unsigned_input r.replaceable c)) (λ c point. input_fits r.replaceable c point.len point.bytes point.index) coins h)

-- there are no more of them than they weigh
few_recipients : (rs : List Recipient) → length rs ≤ sum_by (λ (q : Recipient). output_size_of q.script) rs
few_recipients [] = omega arith
few_recipients (q ∷ rs) = omega (arith, few_recipients rs, sum_by-cons (λ (p : Recipient). output_size_of p.script) q rs)

-- a load has the recipients of the request and the change of the script
pub record IsLoadOf (r : PlainRequest) (w : Watch) (l : PaymentLoad) : Type 0 where
  pub outputs : l.outputs ≡ min (sum_by (λ (q : Recipient). output_size_of q.script) r.recipients) 1_000_000_000
  pub count : l.count ≡ min (length r.recipients) 1_000_000_000
  pub change_size : l.change_size ≡ output_size_of w.script
  pub paid : l.paid ≡ paid_to r.recipients

pub recipients_few : (r : PlainRequest) (w : Watch) (l : PaymentLoad) (coins : List Candidate) (amount : Option ℕ) → IsLoadOf r w l → payment_weight l coins amount ≤ 400_000 → length r.recipients ≤ 100_000
recipients_few r w l coins None is h = omega (arith, h, few_recipients r.recipients, is.outputs)
recipients_few r w l coins (Some amount) is h = omega (arith, h, few_recipients r.recipients, is.outputs)

pub outputs_few : (r : PlainRequest) (w : Watch) (amount : Option ℕ) → length (map recipient_output r.recipients ++ change_outputs w amount) ≤ length r.recipients + 1
outputs_few r w None = omega (arith, length-append (map recipient_output r.recipients) (change_outputs w None), length-map r.recipients recipient_output)
outputs_few r w (Some amount) = omega (arith, length-append (map recipient_output r.recipients) (change_outputs w (Some amount)), length-map r.recipients recipient_output)

pub none_signed : (r : PlainRequest) (w : Watch) (f : PlainFunded) → All (λ (i : TxIn). (i.script ≡ []) × (i.witness ≡ [])) (payment_of r w f).inputs
unfolding payment_from
none_signed r w f = All-map (λ (i : TxIn). (i.script ≡ []) × (i.witness ≡ [])) (unsigned_input r.replaceable) f.coins (λ k d lt. (refl, refl))
