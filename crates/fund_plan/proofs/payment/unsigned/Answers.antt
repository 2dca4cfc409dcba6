use Rattle.std.specs.Prelude.{All, Bool, Option}
use Rattle.std.proofs.Common.{◌≡◌, ◌∙◌, ◌++◌, ℕ, ◌<◌, ◌^◌, List, map, length, false, sym, ap, subst, arith}
use Rattle.tx_codec.specs.declared.tx.TxIn.{TxIn}
use Rattle.tx_codec.specs.declared.tx.TxOut.{TxOut}
use Rattle.tx_codec.specs.Transaction.{Transaction}
use Rattle.tx_codec.specs.TransactionText.{InputFits, IsTransaction, OutputFits}
use Rattle.request_text.specs.PlainRequest.{PlainRequest}
use Rattle.fund_plan.specs.Pays.{change_outputs, payment_from, recipient_output, unsigned_input}
use Rattle.fund_plan.specs.Selection.{PlainFunded}
use Rattle.fund_plan.proofs.PaymentLaws.{payment_text}
use Rattle.fund_plan.proofs.payment.unsigned.Goals as goal

inputs_are : (c : goal.In_ok-outputs) → c.in_ok-inputs.inputs.items ≡ map (unsigned_input c.args.request.now.replaceable) c.args.funded.now.coins
inputs_are c =
    c.in_ok-inputs.ensures.value
    ∙ ap (λ (b : Bool). map (unsigned_input b) c.deref.result.now) (ap (λ (r : PlainRequest). r.replaceable) c.request.view_is)
    ∙ ap (map (unsigned_input c.args.request.now.replaceable)) (c.deref.ensures.value ∙ ap (λ (f : PlainFunded). f.coins) c.funded.view_is)

outputs_are : (c : goal.In_ok-outputs) → c.in_ok-outputs.outputs.items ≡ map recipient_output c.args.request.now.recipients ++ change_outputs c.args.change.now c.args.funded.now.change
outputs_are c =
    c.in_ok-outputs.ensures.value
    ∙ ap (λ (o : Option ℕ). map recipient_output c.args.request.now.recipients ++ change_outputs c.args.change.now o) (ap (λ (f : PlainFunded). f.change) c.funded.view_is)

pub returns-clause-text : goal.returns-clause-text
unfolding payment_from
returns-clause-text c =
    let coins = subst (λ (n : ℕ). n < 2 ^ 64) (ap (λ (f : PlainFunded). length f.coins) c.funded.view_is) (omega (arith, c.funded.inside.coins.ok, c.funded.inside.coins.small)) in
    let outputs = subst (λ (l : List TxOut). length l < 2 ^ 64) (outputs_are c) (omega (arith, c.in_ok-outputs.outputs.ok, c.in_ok-outputs.outputs.small)) in
    let text =
    payment_text c.args.request.now c.args.change.now c.args.funded.now c.keeps_rules.ensures.locktime c.keeps_rules.ensures.some c.requires.some coins c.requires.money
    (subst (All InputFits) (inputs_are c) c.in_ok-inputs.ensures.fit)
    (subst (All OutputFits) (outputs_are c) c.in_ok-outputs.ensures.fit)
    outputs
    in
    let made : List TxIn → List TxOut → ℕ → Transaction = λ is os n. record { version = 2; inputs = is; outputs = os; locktime = n; segwit = false } in
    let locktime = ap (λ (r : PlainRequest). r.locktime) c.request.view_is in
    let path =
    ap (λ (is : List TxIn). made is c.in_ok-outputs.outputs.items c.request.inside.locktime) (inputs_are c)
    ∙ ap (λ (os : List TxOut). made (map (unsigned_input c.args.request.now.replaceable) c.args.funded.now.coins) os c.request.inside.locktime) (outputs_are c)
    ∙ ap (λ (n : ℕ). made (map (unsigned_input c.args.request.now.replaceable) c.args.funded.now.coins) (map recipient_output c.args.request.now.recipients ++ change_outputs c.args.change.now c.args.funded.now.change) n) locktime
    in
    subst IsTransaction (sym path) text
