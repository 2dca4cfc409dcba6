-- A payment pays its plan's burden beside the fee of its weight, and spends each coin that a replaced payment spends.
use Rattle.std.specs.Prelude.{ℕ, ◌≡◌, ◌≤◌, ◌+◌, ◌==◌, Bool, true, false, List, All, Contains, length, sum_by, Option, Some, None}
use Rattle.std.proofs.Common.{refl, ap, arith}
use Rattle.std.proofs.lemmas.List.Elements.{All-contains, All-weaker}
use Rattle.coin_candidates.specs.declared.candidate.Candidate.{Candidate}
use Rattle.tx_codec.specs.Transaction.{Transaction}
use Rattle.fee_rates.specs.Fee.{fee_of, vsize_of}
use Rattle.fee_rates.specs.Terms.{base_of}
use Rattle.fee_rates.specs.declared.terms.PaymentLoad.{PaymentLoad}
use Rattle.request_text.specs.PlainRequest.{PlainRequest, paid_to}
use Rattle.wallet_text.specs.declared.wallet.Watch.{Watch}
use Rattle.fund_steps.proofs.BumpLaws.{presets_are, presets_sorted, replaced_among}
use Rattle.fund_steps.specs.Amounts.{prices_of, value_of, weight_of}
use Rattle.fund_steps.specs.Listed.{burden_in, presets_in}
use Rattle.fund_steps.specs.Plan.{IsPlan, PlainBump, PlainPlan}
use Rattle.fund_steps.specs.Terms.{load_of}
use Rattle.fund_plan.specs.Answer.{IsPayment}
use Rattle.fund_plan.specs.Chosen.{load_by, load_for}
use Rattle.fund_plan.specs.Pays.{Pays, outputs_of, payment_of, payment_weight, raised_of}
use Rattle.fund_plan.specs.Selection.{PlainFunded}
use Rattle.fund_plan.specs.Steps.{pool_in}
use Rattle.fund_plan.specs.Chosen.{row_of}
use Rattle.fund_plan.proofs.BringLaws.{base_more}
use Rattle.fund_plan.proofs.FoundLaws.{sorted_apart}
use Rattle.fund_plan.proofs.PaysLaws.{change_covers, plain_covers, sum_change, sum_plain}
use Rattle.fund_plan.proofs.SpendLaws.{some_sum}

-- ---- the fee

-- beside the fee of the whole weight what is worth the inputs pays the outputs, the burden and the prices
covers : (r : PlainRequest) (w : Watch) (l : PaymentLoad) (coins : List Candidate) (amount : Option ℕ) (t : Transaction) → Pays r w l coins amount t
    → outputs_of r amount + l.burden + prices_of coins + fee_of r.rate (vsize_of (payment_weight l coins amount)) ≤ value_of coins
covers r w l coins None t p =
    let fee = rw (sum_plain r.recipients t.outputs p.outputs) at p.fee in
    let due = fee.0 in
    let all = plain_covers r.rate (base_of l) (paid_to r.recipients + l.burden) (raised_of r.rate l) (value_of coins) coins (omega (arith, due)) in
    omega (arith, all)
covers r w l coins (Some amount) t p =
    let fee = rw (sum_change r.recipients t.outputs (record { value = amount; script = w.script }) p.outputs) at p.fee in
    let all = change_covers r.rate (base_of l) (paid_to r.recipients + amount + l.burden) (raised_of r.rate l) (value_of coins) l.change_size coins (omega (arith, fee)) in
    omega (arith, all)

burden_by : (p : PlainPlan) (b : Bool) (n : ℕ) → (load_by p b n).burden ≡ burden_in p
unfolding load_of
burden_by p true n = refl
burden_by p false n = refl

pub burden_paid : (p : PlainPlan) (f : PlainFunded) → IsPayment p f → outputs_of p.request f.change + burden_in p + prices_of f.coins + fee_of p.request.rate (vsize_of f.weight) ≤ value_of f.coins
burden_paid p f a =
    let l = load_for p f.row in
    let all = covers p.request p.change l f.coins f.change (payment_of p.request p.change f) a.pays in
    let rate : fee_of p.request.rate (vsize_of f.weight) ≡ fee_of p.request.rate (vsize_of (payment_weight l f.coins f.change)) = ap (λ (n : ℕ). fee_of p.request.rate (vsize_of n)) a.weight_is in
    omega (arith, all, rate, burden_by p (f.row == 0) f.row)

-- ---- the weight

base_by : (p : PlainPlan) (b : Bool) (n : ℕ) → base_of (load_of p.request p.change (presets_in p) (burden_in p)) ≤ base_of (load_by p b n)
unfolding load_of
base_by p true n = omega arith
base_by p false n = omega (arith, base_more (length (presets_in p)) (sum_by (λ (g : List Candidate). length g) (pool_in p (row_of p n)).groups))

least_by : (l : PaymentLoad) (coins : List Candidate) (change : Option ℕ) → base_of l + weight_of coins ≤ payment_weight l coins change
least_by l coins None = omega arith
least_by l coins (Some n) = omega arith

pub burden_weight : (p : PlainPlan) (f : PlainFunded) → IsPlan p → IsPayment p f → base_of (load_of p.request p.change (presets_in p) (burden_in p)) + weight_of (presets_in p) ≤ f.weight
burden_weight p f h a =
    let given = presets_in p in
    let apart = sorted_apart given (presets_sorted p given (presets_are p h)) in
    omega (arith, base_by p (f.row == 0) f.row, least_by (load_for p f.row) f.coins f.change, a.weight_is, some_sum (λ (c : Candidate). c.weight) given f.coins apart a.presets)

-- ---- the coins

pub replaced_spent : (p : PlainPlan) (b : PlainBump) (f : PlainFunded) → p.bump ≡ Some b → IsPlan p → IsPayment p f → All (Contains f.coins) b.presets
replaced_spent p b f is h a =
    All-weaker (Contains (presets_in p)) (Contains f.coins) (λ c there. All-contains (Contains f.coins) (presets_in p) c a.presets there) b.presets (replaced_among p b is h)
