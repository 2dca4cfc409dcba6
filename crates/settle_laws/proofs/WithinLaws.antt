-- A transaction whose inputs weigh no more than was declared weighs no more than the payment was to.
use Rattle.std.proofs.Common.{◌≡◌, ◌+◌, ◌*◌, ◌≤◌, ◌<◌, ◌∙◌, ℕ, zero, suc, Bool, true, false, List, [], ◌∷◌, ◌++◌, length, map, Option, Some, None, refl, ap, arith, length-append}
use Rattle.std.specs.Prelude.{All, slice_get, sum_by, if◌then◌else◌}
use Rattle.std.specs.Int.{w32, to_le_bytes}
use Rattle.std.specs.List.{flat_map}
use Rattle.std.proofs.lemmas.List.{length-map}
use Rattle.std.proofs.lemmas.List.Concat.{length-flat_map}
use Rattle.std.proofs.lemmas.List.Elements.{All-head, All-tail}
use Rattle.std.proofs.lemmas.List.Sums.{sum_by-append, sum_by-cons}
use Rattle.coin_candidates.specs.Candidates.{IsCandidate}
use Rattle.coin_candidates.specs.declared.candidate.Candidate.{Candidate}
use Rattle.fee_rates.specs.Output.{output_size_of}
use Rattle.fee_rates.specs.declared.terms.PaymentLoad.{PaymentLoad}
use Rattle.fund_base.specs.CompactSize.{compact, counted, prefixed}
use Rattle.fund_plan.specs.Pays.{change_outputs, payment_weight, recipient_output}
use Rattle.fund_plan.proofs.PaymentLaws.{IsLoadOf, recipients_few}
use Rattle.fund_plan.proofs.PaysLaws.{sum_one}
use Rattle.fund_plan.proofs.WeightLaws.{all_outputs, bare_len, base_is, bytes_kept, coins_weigh, inputs_bytes, inputs_count, outputs_count, recipients_size, size_of, sizes_few, sizes_of}
use Rattle.fund_steps.specs.Amounts.{AreWithin as AreCoins, weight_of}
use Rattle.request_text.specs.PlainRequest.{PlainRequest}
use Rattle.tx_codec.specs.Transaction.{Transaction}
use Rattle.tx_codec.specs.TransactionText.{InputFits, bare_text, input_text, output_text, segregated_text, stack_text}
use Rattle.tx_codec.specs.Weight.{weight_of as text_weight}
use Rattle.tx_codec.specs.declared.tx.TxIn.{TxIn}
use Rattle.tx_codec.specs.declared.tx.TxOut.{TxOut}
use Rattle.wallet_text.specs.declared.wallet.Watch.{Watch}
use Rattle.settle_check.specs.Settled.{true_weight_of}

-- ---- a text by its inputs

-- the bytes of an input's witness, where there are any
abbrev pub witness_len : Bool → TxIn → ℕ
witness_len segwit i = if segwit then length (stack_text i) else 0

whole_len : (t : Transaction) → length (segregated_text t) ≡ length (bare_text t) + 2 + length (flat_map stack_text t.inputs)
unfolding segregated_text bare_text
whole_len t =
    let inputs = counted input_text t.inputs in
    let outputs = counted output_text t.outputs in
    let stacks = flat_map stack_text t.inputs in
    let end = to_le_bytes w32 t.locktime in
    omega (
      arith,
      length-append inputs (outputs ++ end),
      length-append outputs end,
      length-append inputs (outputs ++ (stacks ++ end)),
      length-append outputs (stacks ++ end),
      length-append stacks end,
    )

text_most : (t : Transaction) (b : Bool) → length (if b then segregated_text t else bare_text t) ≤ length (bare_text t) + 2 + sum_by (witness_len b) t.inputs
text_most t true = let whole = whole_len t in omega (arith, whole, length-flat_map stack_text t.inputs)
text_most t false = omega arith

weight_most : (t : Transaction) → text_weight t ≤ 4 * length (bare_text t) + 2 + sum_by (witness_len t.segwit) t.inputs
unfolding text_weight
weight_most t = let most = text_most t t.segwit in omega (arith, most)

-- ---- inputs within what is declared

input_len : (i : TxIn) → length i.prev.txid ≡ 32 → length (input_text i) ≡ 40 + length (prefixed i.script)
unfolding input_text
input_len i len =
    let script = prefixed i.script in
    let end = to_le_bytes w32 i.sequence in
    let index = to_le_bytes w32 i.prev.index in
    omega (arith, len, length-append i.prev.txid (index ++ (script ++ end)), length-append index (script ++ end), length-append script end)

input_within : (segwit : Bool) (i : TxIn) (most : ℕ) → length i.prev.txid ≡ 32 → most ≤ 400_000 → true_weight_of segwit i ≤ most → 4 * length (input_text i) + witness_len segwit i ≤ most
unfolding true_weight_of
input_within segwit i most len small le = let text = input_len i len in omega (arith, text, small, le)

abbrev declared_of : List Candidate → List ℕ
declared_of coins = map (λ (c : Candidate). c.weight) coins

pub inputs_within : (segwit : Bool) (is : List TxIn) (cs : List Candidate) → length is ≡ length cs → All InputFits is → All IsCandidate cs
    → ((k most : ℕ) (i : TxIn) → slice_get (declared_of cs) k ≡ Some most → slice_get is k ≡ Some i → true_weight_of segwit i ≤ most)
    → 4 * length (flat_map input_text is) + sum_by (witness_len segwit) is ≤ weight_of cs
inputs_within segwit [] [] long fit coins each = omega arith
inputs_within segwit [] (c ∷ cs) long fit coins each = absurd (omega (arith, long))
inputs_within segwit (i ∷ is) [] long fit coins each = absurd (omega (arith, long))
inputs_within segwit (i ∷ is) (c ∷ cs) long fit coins each =
    let here : InputFits i = All-head InputFits i is fit in
    let coin : IsCandidate c = All-head IsCandidate c cs coins in
    let one = input_within segwit i c.weight here.txid_len coin.most_weight (each zero c.weight i refl refl) in
    let rest = inputs_within segwit is cs (omega (arith, long)) (All-tail InputFits i is fit) (All-tail IsCandidate c cs coins) (λ k most x told there. each (suc k) most x told there) in
    omega (
      arith,
      one,
      rest,
      length-append (input_text i) (flat_map input_text is),
      sum_by-cons (witness_len segwit) i is,
      sum_by-cons (λ (d : Candidate). d.weight) c cs,
    )

-- ---- the payment

-- what a transaction weighs that pays so many change outputs, so large together
signed_most : (r : PlainRequest) (w : Watch) (coins : List Candidate) (amount : Option ℕ) (t : Transaction) (k size : ℕ) → length (change_outputs w amount) ≡ k → sum_by size_of (change_outputs w amount) ≡ size → length coins < 65536
    → t.outputs ≡ map recipient_output r.recipients ++ change_outputs w amount → length t.inputs ≡ length coins → 4 * length (flat_map input_text t.inputs) + sum_by (witness_len t.segwit) t.inputs ≤ weight_of coins
    → text_weight t ≤ 4 * (8 + inputs_bytes coins + length (compact (length r.recipients + k)) + (sizes_of r + size)) + 2 + weight_of coins
signed_most r w coins amount t k size count sized few outputs many within =
    let paid : List TxOut = map recipient_output r.recipients in
    let ins : length (compact (length t.inputs)) ≡ inputs_bytes coins = ap (λ (n : ℕ). length (compact n)) many ∙ inputs_count (length coins) few in
    let number : length t.outputs ≡ length r.recipients + k = omega (arith, ap length outputs, count, length-append paid (change_outputs w amount), length-map r.recipients recipient_output) in
    let outs : length (compact (length t.outputs)) ≡ length (compact (length r.recipients + k)) = ap (λ (n : ℕ). length (compact n)) number in
    let total : sum_by size_of t.outputs ≡ sizes_of r + size = omega (arith, ap (sum_by size_of) outputs, sized, sum_by-append size_of paid (change_outputs w amount), recipients_size r.recipients) in
    omega (arith, weight_most t, bare_len t, ins, outs, total, all_outputs t.outputs, within)

pub signed_within : (r : PlainRequest) (w : Watch) (l : PaymentLoad) (coins : List Candidate) (amount : Option ℕ) (t : Transaction) → IsLoadOf r w l → length coins ≤ l.coins → AreCoins coins → payment_weight l coins amount ≤ 400_000
    → t.outputs ≡ map recipient_output r.recipients ++ change_outputs w amount → length t.inputs ≡ length coins → 4 * length (flat_map input_text t.inputs) + sum_by (witness_len t.segwit) t.inputs ≤ weight_of coins
    → text_weight t ≤ payment_weight l coins amount
signed_within r w l coins None t is there fit light outputs many within =
    let k = length r.recipients in
    let low = coins_weigh coins fit.each in
    let few = recipients_few r w l coins None is light in
    let most = signed_most r w coins None t 0 0 refl refl (omega (arith, low, light)) outputs many within in
    let same : length (compact (k + 0)) ≡ length (compact k) = ap (λ (m : ℕ). length (compact m)) (omega arith) in
    omega (arith, most, same, base_is r w l is few (sizes_few r w l is (omega (arith, light))), (outputs_count k (omega (arith, few))).0, bytes_kept (length coins) l.coins there)
signed_within r w l coins (Some amount) t is there fit light outputs many within =
    let low = coins_weigh coins fit.each in
    let few = recipients_few r w l coins (Some amount) is light in
    let change = output_size_of w.script in
    let most = signed_most r w coins (Some amount) t 1 change refl (sum_one size_of (record { value = amount; script = w.script })) (omega (arith, low, light)) outputs many within in
    omega (arith, most, base_is r w l is few (sizes_few r w l is (omega (arith, light))), is.change_size, bytes_kept (length coins) l.coins there)
