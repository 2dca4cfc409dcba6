-- However a payment is signed within the declared weights, it weighs no more than is told, and pays its rate.
use Rattle.std.specs.Prelude.{ℕ, ◌≡◌, ◌+◌, ◌*◌, ◌≤◌, ◌<◌, List, [], ◌∷◌, ◌++◌, length, map, sum_by, Bool, true, false, Option, Some, None, if◌then◌else◌}
use Rattle.std.specs.Int.{w32, to_le_bytes}
use Rattle.std.specs.List.{flat_map}
use Rattle.std.proofs.Common.{arith, refl, ap, ◌∙◌, length-append}
use Rattle.std.proofs.lemmas.List.{length-map}
use Rattle.std.proofs.lemmas.List.Sums.{sum_by-cons, sum_by-append}
use Rattle.fund_base.specs.CompactSize.{compact, counted}
use Rattle.coin_candidates.specs.declared.candidate.Candidate.{Candidate}
use Rattle.tx_codec.specs.declared.tx.TxIn.{TxIn}
use Rattle.tx_codec.specs.declared.tx.TxOut.{TxOut}
use Rattle.tx_codec.specs.Transaction.{Transaction}
use Rattle.tx_codec.specs.TransactionText.{bare_text, input_text, output_text, segregated_text, stack_text, text_of}
use Rattle.tx_codec.specs.Weight.{weight_of as text_weight}
use Rattle.fee_rates.specs.Fee.{fee_of, vsize_of}
use Rattle.fee_rates.specs.Output.{output_size_of}
use Rattle.fee_rates.proofs.FeeLaws.{fee_below, vsize_below}
use Rattle.request_text.specs.PlainRequest.{PlainRequest}
use Rattle.wallet_text.specs.declared.wallet.Watch.{Watch}
use Rattle.fund_steps.specs.Amounts.{AreWithin, value_of, weight_of}
use Rattle.fund_plan.specs.Answer.{IsPayment}
use Rattle.fund_plan.specs.Chosen.{load_for}
use Rattle.fund_plan.specs.Pays.{change_outputs, payment_from, payment_of, payment_weight, recipient_output}
use Rattle.fund_steps.specs.Plan.{PlainPlan}
use Rattle.fund_plan.specs.Selection.{PlainFunded}
use Rattle.fee_rates.specs.declared.terms.PaymentLoad.{PaymentLoad}
use Rattle.fund_plan.specs.Weighed.{AreWithinDeclared}
use Rattle.fund_plan.proofs.FigureLaws.{figures_agree}
use Rattle.fund_plan.proofs.PaymentLaws.{IsLoadOf, recipients_few}
use Rattle.fund_plan.proofs.PaysLaws.{sum_one}
use Rattle.fund_plan.proofs.WeightLaws.{all_outputs, at_hand_count, bare_len, base_is, bytes_kept, coins_weigh, inputs_bytes, inputs_count, load_is, outputs_count, recipients_size, size_of, sizes_few, sizes_of}

-- ---- the text with its witnesses

whole_len : (t : Transaction) → length (segregated_text t) ≡ length (bare_text t) + 2 + length (flat_map stack_text t.inputs)
unfolding segregated_text bare_text
whole_len t =
    let inputs = counted input_text t.inputs in
    let outputs = counted output_text t.outputs in
    let stacks = flat_map stack_text t.inputs in
    let end = to_le_bytes w32 t.locktime in
    omega (
      arith,
      length-append inputs (outputs ++ end),
      length-append outputs end,
      length-append inputs (outputs ++ (stacks ++ end)),
      length-append outputs (stacks ++ end),
      length-append stacks end,
    )

one_of : (b : Bool) (x y : List ℕ) (most : ℕ) → length x ≤ most → length y ≤ most → length (if b then x else y) ≤ most
one_of true x y most first second = first
one_of false x y most first second = second

weight_most : (t : Transaction) → text_weight t ≤ 4 * length (bare_text t) + 2 + length (flat_map stack_text t.inputs)
unfolding text_weight
weight_most t =
    let most : length (text_of t) ≤ length (bare_text t) + 2 + length (flat_map stack_text t.inputs) =
    one_of t.segwit (segregated_text t) (bare_text t) (length (bare_text t) + 2 + length (flat_map stack_text t.inputs)) (omega (arith, whole_len t)) (omega arith) in
    omega (arith, most)

-- ---- inputs within what is declared

as_many : (is : List TxIn) (cs : List Candidate) → AreWithinDeclared is cs → length is ≡ length cs
as_many [] [] h = refl
as_many [] (c ∷ cs) h = absurd h
as_many (i ∷ is) [] h = absurd h
as_many (i ∷ is) (c ∷ cs) h = let rest = as_many is cs h.1 in omega (arith, rest)

inputs_within : (is : List TxIn) (cs : List Candidate) → AreWithinDeclared is cs → 4 * length (flat_map input_text is) + length (flat_map stack_text is) ≤ weight_of cs
inputs_within [] [] h = omega arith
inputs_within [] (c ∷ cs) h = absurd h
inputs_within (i ∷ is) [] h = absurd h
inputs_within (i ∷ is) (c ∷ cs) h =
    let rest = inputs_within is cs h.1 in
    omega (
      arith,
      rest,
      h.0,
      length-append (input_text i) (flat_map input_text is),
      length-append (stack_text i) (flat_map stack_text is),
      sum_by-cons (λ (d : Candidate). d.weight) c cs,
    )

-- ---- the payment

outputs_are : (r : PlainRequest) (w : Watch) (f : PlainFunded) → (payment_of r w f).outputs ≡ map recipient_output r.recipients ++ change_outputs w f.change
unfolding payment_from
outputs_are r w f = refl

-- what a transaction weighs that pays so many change outputs, so large together
signed_most : (r : PlainRequest) (w : Watch) (coins : List Candidate) (amount : Option ℕ) (t : Transaction) (k size : ℕ) → length (change_outputs w amount) ≡ k → sum_by size_of (change_outputs w amount) ≡ size → length coins < 65536
    → t.outputs ≡ map recipient_output r.recipients ++ change_outputs w amount → AreWithinDeclared t.inputs coins
    → text_weight t ≤ 4 * (8 + inputs_bytes coins + length (compact (length r.recipients + k)) + (sizes_of r + size)) + 2 + weight_of coins
signed_most r w coins amount t k size count sized few outputs within =
    let paid : List TxOut = map recipient_output r.recipients in
    let ins : length (compact (length t.inputs)) ≡ inputs_bytes coins = ap (λ (n : ℕ). length (compact n)) (as_many t.inputs coins within) ∙ inputs_count (length coins) few in
    let number : length t.outputs ≡ length r.recipients + k = omega (arith, ap length outputs, count, length-append paid (change_outputs w amount), length-map r.recipients recipient_output) in
    let outs : length (compact (length t.outputs)) ≡ length (compact (length r.recipients + k)) = ap (λ (n : ℕ). length (compact n)) number in
    let total : sum_by size_of t.outputs ≡ sizes_of r + size = omega (arith, ap (sum_by size_of) outputs, sized, sum_by-append size_of paid (change_outputs w amount), recipients_size r.recipients) in
    omega (arith, weight_most t, bare_len t, ins, outs, total, all_outputs t.outputs, inputs_within t.inputs coins within)

signed_within : (r : PlainRequest) (w : Watch) (l : PaymentLoad) (coins : List Candidate) (amount : Option ℕ) (t : Transaction) → IsLoadOf r w l → length coins ≤ l.coins → AreWithin coins → payment_weight l coins amount ≤ 400_000
    → t.outputs ≡ map recipient_output r.recipients ++ change_outputs w amount → AreWithinDeclared t.inputs coins → text_weight t ≤ payment_weight l coins amount
signed_within r w l coins None t is there fit light outputs within =
    let k = length r.recipients in
    let low = coins_weigh coins fit.each in
    let few = recipients_few r w l coins None is light in
    let most = signed_most r w coins None t 0 0 refl refl (omega (arith, low, light)) outputs within in
    let same : length (compact (k + 0)) ≡ length (compact k) = ap (λ (m : ℕ). length (compact m)) (omega arith) in
    omega (arith, most, same, base_is r w l is few (sizes_few r w l is (omega (arith, light))), (outputs_count k (omega (arith, few))).0, bytes_kept (length coins) l.coins there)
signed_within r w l coins (Some amount) t is there fit light outputs within =
    let low = coins_weigh coins fit.each in
    let few = recipients_few r w l coins (Some amount) is light in
    let change = output_size_of w.script in
    let most = signed_most r w coins (Some amount) t 1 change refl (sum_one size_of (record { value = amount; script = w.script })) (omega (arith, low, light)) outputs within in
    omega (arith, most, base_is r w l is few (sizes_few r w l is (omega (arith, light))), is.change_size, bytes_kept (length coins) l.coins there)

pub signed_light : (p : PlainPlan) (f : PlainFunded) (t : Transaction) → IsPayment p f → t.outputs ≡ (payment_of p.request p.change f).outputs → AreWithinDeclared t.inputs f.coins → text_weight t ≤ f.weight
signed_light p f t a outputs within =
    let l = load_for p f.row in
    omega (arith, a.weight_is, signed_within p.request p.change l f.coins f.change t (load_is p f.row) (at_hand_count p f a) a.coins a.pays.weight (outputs ∙ outputs_are p.request p.change f) within)

pub signed_pays : (p : PlainPlan) (f : PlainFunded) (t : Transaction) → IsPayment p f → t.outputs ≡ (payment_of p.request p.change f).outputs → AreWithinDeclared t.inputs f.coins
    → sum_by (λ (o : TxOut). o.value) t.outputs + fee_of p.request.rate (vsize_of (text_weight t)) ≤ value_of f.coins
signed_pays p f t a outputs within =
    let r = p.request in
    let agree = figures_agree p f a in
    let smaller = vsize_below (text_weight t) f.weight (signed_light p f t a outputs within) in
    let less = fee_below r.rate (vsize_of (text_weight t)) r.rate (vsize_of f.weight) (omega arith) smaller in
    omega (arith, agree.money, agree.rate, less, ap (sum_by (λ (o : TxOut). o.value)) outputs)
