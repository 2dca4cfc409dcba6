-- What a payment settles at, however it is signed within its declared weights.
use Rattle.std.proofs.Common.{◌≡◌, ◌+◌, ◌≤◌, ◌∙◌, ℕ, ℤ, List, ◌++◌, length, map, refl, sym, ap, subst, arith}
use Rattle.std.specs.Prelude.{sum}
use Rattle.std.proofs.lemmas.List.{length-map}
use Rattle.std.proofs.lemmas.List.Sums.{sum-map}
use Rattle.coin_candidates.specs.declared.candidate.Candidate.{Candidate}
use Rattle.fee_rates.specs.Fee.{vsize_of}
use Rattle.fee_rates.proofs.FeeLaws.{fee_below, vsize_below}
use Rattle.fund_plan.specs.Answer.{IsPayment}
use Rattle.fund_plan.specs.Chosen.{load_for}
use Rattle.fund_plan.specs.Pays.{change_outputs, payment_from, payment_of, payment_weight, recipient_output, unsigned_input}
use Rattle.fund_plan.specs.Selection.{PlainFunded}
use Rattle.fund_plan.proofs.WeightLaws.{at_hand_count, load_is}
use Rattle.fund_steps.specs.Amounts.{value_of}
use Rattle.fund_steps.specs.Plan.{PlainPlan}
use Rattle.request_text.specs.PlainRequest.{PlainRequest}
use Rattle.settle_check.specs.Settled.{AreSigned, AreWithin, IsSamePayment, Settles, needed_of, worth_of}
use Rattle.settle_check.specs.Broken.{IsSettleFault}
use Rattle.settle_check.specs.declared.fault.SettleFault.TheVariants.{BelowRate, TooHeavy}
use Rattle.settle_check.proofs.FaultLaws.{same_count}
use Rattle.tx_codec.specs.Transaction.{Transaction}
use Rattle.tx_codec.specs.TransactionText.{IsTransaction}
use Rattle.tx_codec.specs.Weight.{weight_of as text_weight}
use Rattle.tx_codec.specs.declared.tx.TxIn.{TxIn}
use Rattle.tx_codec.specs.declared.tx.TxOut.{TxOut}
use Rattle.wallet_text.specs.declared.wallet.Watch.{Watch}
use Rattle.settle_laws.specs.Coins.{AreOf}
use Rattle.settle_laws.proofs.WithinLaws.{inputs_within, signed_within}

-- a payment by its parts
inputs_are : (r : PlainRequest) (w : Watch) (f : PlainFunded) → (payment_of r w f).inputs ≡ map (unsigned_input r.replaceable) f.coins
unfolding payment_from
inputs_are r w f = refl

outputs_are : (r : PlainRequest) (w : Watch) (f : PlainFunded) → (payment_of r w f).outputs ≡ map recipient_output r.recipients ++ change_outputs w f.change
unfolding payment_from
outputs_are r w f = refl

same_worth : (coins : List Candidate) (spent : List TxOut) (declared : List ℕ) → AreOf coins spent declared → worth_of spent ≡ value_of coins
same_worth coins spent declared of =
    sym (sum-map (λ (o : TxOut). o.value) spent) ∙ ap (λ (l : List ℕ). sum l) of.worth ∙ sum-map (λ (c : Candidate). c.value) coins

-- as many inputs as coins
as_many : (p : PlainPlan) (f : PlainFunded) (t : Transaction) → IsSamePayment (payment_of p.request p.change f) t → length t.inputs ≡ length f.coins
as_many p f t same =
    same_count t.inputs (payment_of p.request p.change f).inputs same.inputs ∙ ap (λ (l : List TxIn). length l) (inputs_are p.request p.change f) ∙ length-map f.coins (unsigned_input p.request.replaceable)

-- it weighs no more than was declared of the payment
pub signed_light : (p : PlainPlan) (f : PlainFunded) (spent : List TxOut) (declared : List ℕ) (t : Transaction) → IsPayment p f → AreOf f.coins spent declared → IsTransaction t → IsSamePayment (payment_of p.request p.change f) t → AreWithin declared t
    → text_weight t ≤ payment_weight (load_for p f.row) f.coins f.change
signed_light p f spent declared t a of is same within =
    let many = as_many p f t same in
    let told : AreWithin (map (λ (c : Candidate). c.weight) f.coins) t = subst (λ (l : List ℕ). AreWithin l t) of.weights within in
    signed_within p.request p.change (load_for p f.row) f.coins f.change t (load_is p f.row) (at_hand_count p f a) a.coins a.pays.weight (same.outputs ∙ outputs_are p.request p.change f) many
    (inputs_within t.segwit t.inputs f.coins many is.inputs a.coins.each told)

-- and pays what it needs
pub signed_pays : (p : PlainPlan) (f : PlainFunded) (spent : List TxOut) (declared : List ℕ) (t : Transaction) → IsPayment p f → AreOf f.coins spent declared → IsTransaction t → IsSamePayment (payment_of p.request p.change f) t → AreWithin declared t
    → worth_of t.outputs + needed_of p.request.rate t ≤ worth_of spent
signed_pays p f spent declared t a of is same within =
    let rate = p.request.rate in
    let most = payment_weight (load_for p f.row) f.coins f.change in
    let smaller = vsize_below (text_weight t) most (signed_light p f spent declared t a of is same within) in
    let less = fee_below rate (vsize_of (text_weight t)) rate (vsize_of most) (omega arith) smaller in
    let covers = a.pays.fee_covers in
    let paid = ap (λ (l : List TxOut). worth_of l) same.outputs in
    let worth = same_worth f.coins spent declared of in
    omega (arith, less, covers, paid, worth)

pub settles_by : (p : PlainPlan) (f : PlainFunded) (spent : List TxOut) (declared : List ℕ) (t : Transaction) → IsPayment p f → AreOf f.coins spent declared → IsTransaction t → IsSamePayment (payment_of p.request p.change f) t → AreSigned t.inputs → AreWithin declared t
    → Settles (payment_of p.request p.change f) spent declared t p.request.rate
settles_by p f spent declared t a of is same signed within =
    let light = signed_light p f spent declared t a of is same within in
    let most = a.pays.weight in
    record { same = same; all_signed = signed; within = within; weight = omega (arith, light, most); pays = signed_pays p f spent declared t a of is same within }

pub never_heavy : (p : PlainPlan) (f : PlainFunded) (spent : List TxOut) (declared : List ℕ) (t : Transaction) (weight : ℕ) → IsPayment p f → AreOf f.coins spent declared → IsTransaction t
    → IsSettleFault (payment_of p.request p.change f) spent declared t p.request.rate (TooHeavy weight) → ⊥
never_heavy p f spent declared t weight a of is h =
    let light = signed_light p f spent declared t a of is h.0 h.2 in
    let most = a.pays.weight in
    let same = h.3 in
    let more = h.4 in
    omega (arith, light, most, same, more)

pub never_below : (p : PlainPlan) (f : PlainFunded) (spent : List TxOut) (declared : List ℕ) (t : Transaction) (fee : ℤ) (needed : ℕ) → IsPayment p f → AreOf f.coins spent declared → IsTransaction t
    → IsSettleFault (payment_of p.request p.change f) spent declared t p.request.rate (BelowRate fee needed) → ⊥
never_below p f spent declared t fee needed a of is h =
    let pays = signed_pays p f spent declared t a of is h.0 h.2 in
    let short = h.4.short in
    let same = h.4.needed_is in
    omega (arith, pays, short, same)
