-- A report that pays as it says pays the burden of its plan beside the fee of its size, and spends all that a replaced payment
-- spends.
use Rattle.std.specs.Prelude.{ℕ, ◌≡◌, ◌≤◌, ◌+◌, ◌==◌, Bool, true, false, List, [], ◌∷◌, All, Contains, length, map, sum_by, Option, Some, None}
use Rattle.std.proofs.Common.{refl, sym, ap, subst, arith}
use Rattle.std.proofs.lemmas.List.Elements.{All-cons, All-contains, All-nil, All-weaker}
use Rattle.fee_rates.specs.Fee.{fee_of, vsize_of}
use Rattle.fee_rates.specs.Terms.{base_of}
use Rattle.fee_rates.specs.declared.terms.PaymentLoad.{PaymentLoad}
use Rattle.fund_base.proofs.Lists.{in_tail}
use Rattle.coin_candidates.specs.declared.candidate.Candidate.{Candidate}
use Rattle.fund_plan.proofs.BringLaws.{base_more}
use Rattle.fund_plan.proofs.FoundLaws.{sorted_apart}
use Rattle.fund_plan.proofs.PaysLaws.{change_covers, plain_covers}
use Rattle.fund_plan.proofs.SpendLaws.{some_sum}
use Rattle.fund_plan.specs.Chosen.{load_by, load_for, row_of}
use Rattle.fund_plan.specs.Pays.{outputs_of, payment_weight, raised_of}
use Rattle.fund_plan.specs.Steps.{pool_in}
use Rattle.fund_report.specs.PlainFunded.{PlainFunded}
use Rattle.fund_report.specs.declared.report.InLine.{InLine}
use Rattle.fund_report.specs.declared.report.Report.TheVariants.{Funded}
use Rattle.fund_steps.proofs.BumpLaws.{presets_are, presets_sorted, replaced_among}
use Rattle.fund_steps.specs.Amounts.{value_of, weight_of}
use Rattle.fund_steps.specs.Listed.{burden_in, presets_in}
use Rattle.fund_steps.specs.Plan.{IsPlan, PlainBump, PlainPlan}
use Rattle.fund_steps.specs.Terms.{load_of}
use Rattle.output_groups.proofs.Members.{head_in}
use Rattle.psbt_codec.specs.PartialTransaction.{PartialTransaction}
use Rattle.request_text.specs.PlainRequest.{PlainRequest, paid_to}
use Rattle.report_check.specs.Payment.{PaysBy, line_of}
use Rattle.report_check.specs.Paying.{IsEven}
use Rattle.report_check.specs.Verdict.{IsPaid}
use Rattle.report_check.proofs.PaidLaws.{pays_even}

-- what balances brings the outputs, the burden and the fee of the whole weight
even_covers : (r : PlainRequest) (l : PaymentLoad) (coins : List Candidate) (amount : Option ℕ) → IsEven r l coins amount → outputs_of r amount + l.burden + fee_of r.rate (vsize_of (payment_weight l coins amount)) ≤ value_of coins
even_covers r l coins None h =
    let due = h.balance.0 in
    let all = plain_covers r.rate (base_of l) (paid_to r.recipients + l.burden) (raised_of r.rate l) (value_of coins) coins (omega (arith, due)) in
    omega (arith, all)
even_covers r l coins (Some amount) h =
    let due = h.balance in
    let all = change_covers r.rate (base_of l) (paid_to r.recipients + amount + l.burden) (raised_of r.rate l) (value_of coins) l.change_size coins (omega (arith, due)) in
    omega (arith, all)

-- what the payment of a row is to carry has the plan's burden, and a base no less than that of the presets alone
record IsNoLess (p : PlainPlan) (l : PaymentLoad) : Type 0 where
  burden : l.burden ≡ burden_in p
  base : base_of (load_of p.request p.change (presets_in p) (burden_in p)) ≤ base_of l

no_less : (p : PlainPlan) (b : Bool) (n : ℕ) → IsNoLess p (load_by p b n)
unfolding load_of
no_less p true n = record { burden = refl; base = omega arith }
no_less p false n = record {
  burden = refl;
  base = omega (arith, base_more (length (presets_in p)) (sum_by (λ (g : List Candidate). length g) (pool_in p (row_of p n)).groups));
}

-- what its coins are worth pays the outputs, the burden and the fee of its weight
pub burden_brought : (p : PlainPlan) (f : PlainFunded) (t : PartialTransaction) (k : PaysBy p f t) → outputs_of p.request f.change + burden_in p + fee_of p.request.rate (vsize_of f.weight) ≤ value_of k.coins
burden_brought p f t k =
    let l = load_for p f.row in
    let all = even_covers p.request l k.coins f.change (pays_even p f t k) in
    let size : fee_of p.request.rate (vsize_of f.weight) ≡ fee_of p.request.rate (vsize_of (payment_weight l k.coins f.change)) = ap (λ (n : ℕ). fee_of p.request.rate (vsize_of n)) k.weight in
    let burden = (no_less p (f.row == 0) f.row).burden in
    omega (arith, all, size, burden)

-- so the fee that it says pays the burden and the fee of the size that it says
pub burden_said : (p : PlainPlan) (f : PlainFunded) → IsPaid p (Funded f) → burden_in p + fee_of p.request.rate f.vsize ≤ f.fee
burden_said p f (t, text, k) =
    let all = burden_brought p f t k in
    let size : fee_of p.request.rate f.vsize ≡ fee_of p.request.rate (vsize_of f.weight) = ap (fee_of p.request.rate) k.vsize in
    let fee = k.fee in
    omega (arith, all, size, fee)

least_by : (l : PaymentLoad) (coins : List Candidate) (change : Option ℕ) → base_of l + weight_of coins ≤ payment_weight l coins change
least_by l coins None = omega arith
least_by l coins (Some n) = omega arith

pub weight_said : (p : PlainPlan) (f : PlainFunded) → IsPlan p → IsPaid p (Funded f) → base_of (load_of p.request p.change (presets_in p) (burden_in p)) + weight_of (presets_in p) ≤ f.weight
weight_said p f h (t, text, k) =
    let given = presets_in p in
    let l = load_for p f.row in
    let apart = sorted_apart given (presets_sorted p given (presets_are p h)) in
    let base = (no_less p (f.row == 0) f.row).base in
    let weight = k.weight in
    omega (arith, base, weight, least_by l k.coins f.change, some_sum (λ (c : Candidate). c.weight) given k.coins apart k.presets)

-- each coin has its line
lined : (coins : List Candidate) → All (λ (c : Candidate). Contains (map line_of coins) (line_of c)) coins
lined [] = All-nil (λ (c : Candidate). Contains (map line_of []) (line_of c))
lined (c ∷ cs) =
    let P : Candidate → Type 0 = λ d. Contains (map line_of (c ∷ cs)) (line_of d) in
    All-cons P c cs (head_in (line_of c) (map line_of cs)) (All-weaker (λ (d : Candidate). Contains (map line_of cs) (line_of d)) P (λ d there. in_tail (line_of c) (map line_of cs) (line_of d) there) cs (lined cs))

pub replaced_said : (p : PlainPlan) (b : PlainBump) (f : PlainFunded) → p.bump ≡ Some b → IsPlan p → IsPaid p (Funded f) → All (λ (c : Candidate). Contains f.coins (line_of c)) b.presets
replaced_said p b f is h (t, text, k) =
    let P : Candidate → Type 0 = λ c. Contains (map line_of k.coins) (line_of c) in
    let said : All P b.presets = All-weaker (Contains (presets_in p)) P (λ c there. All-contains P k.coins c (lined k.coins) (All-contains (Contains k.coins) (presets_in p) c k.presets there)) b.presets (replaced_among p b is h) in
    subst (λ (ls : List InLine). All (λ (c : Candidate). Contains ls (line_of c)) b.presets) (sym k.lines) said
