-- The report of a payment can be read, and is of it.
use Rattle.std.specs.Prelude.{ℕ, ℤ, pos, negsuc, ◌≡◌, ◌≤◌, ◌<◌, ◌+◌, ◌-◌, ◌*◌, ◌+ℤ◌, Bool, List, [], ◌∷◌, All, length, map, Option, Some, None, IfSome}
use Rattle.std.specs.Int.{div_ceil}
use Rattle.std.specs.List.{AllByRecursion}
use Rattle.std.proofs.Common.{arith, refl, sym, subst}
use Rattle.std.proofs.Math.Nat.{mul-le-mul_left}
use Rattle.std.proofs.lemmas.Int.{ints}
use Rattle.std.proofs.lemmas.List.Elements.{All-head, All-tail, All-weaker}
use Rattle.std.proofs.lemmas.List.Sums.{sum_by-le}
use Rattle.fee_rates.specs.Fee.{fee_of, input_fee_of, vsize_of}
use Rattle.fee_rates.specs.Terms.{base_of}
use Rattle.fee_rates.specs.declared.terms.PaymentLoad.{PaymentLoad}
use Rattle.coin_candidates.specs.Candidates.{IsCandidate}
use Rattle.coin_candidates.specs.declared.candidate.Candidate.{Candidate}
use Rattle.fund_plan.specs.Answer.{IsPayment, IsSelection}
use Rattle.fund_plan.specs.Chosen.{load_for}
use Rattle.fund_plan.specs.Figures.{figures_of, spending_of}
use Rattle.fund_plan.specs.Pays.{Pays, outputs_of, payment_of, raised_of, unsigned_input}
use Rattle.fund_plan.specs.Selection.{PlainFunded}
use Rattle.fund_plan.proofs.FigureLaws.{figures_agree}
use Rattle.fund_report.specs.ReportText.{IsSigned, IsSizedCoin, IsWide}
use Rattle.fund_steps.specs.Amounts.{AreWithin, fees_of, value_of}
use Rattle.fund_steps.specs.Plan.{IsPlan, PlainPlan}
use Rattle.request_text.specs.PlainRequest.{PlainRequest}
use Rattle.tx_codec.specs.TransactionText.{InputFits}
use Rattle.fund_payment.specs.Report.{line_of}

-- ---- fees at plain numbers

ceil_most : (x : ℕ) → div_ceil x 1000 ≤ x
ceil_most x = omega arith

quarter_most : (w : ℕ) → vsize_of w ≤ w
unfolding vsize_of
quarter_most w = omega arith

fee_most : (rate v : ℕ) → fee_of rate v ≤ rate * v
unfolding fee_of
fee_most rate v = ceil_most (rate * v)

-- the fee of an input is at most 40,000,000,000,000
input_most : (rate w : ℕ) → rate ≤ 100_000_000 → w ≤ 400_000 → input_fee_of rate w ≤ 40_000_000_000_000
input_most rate w high heavy =
    let fee = fee_most rate (vsize_of w) in
    let size = quarter_most w in
    let few : rate * vsize_of w ≤ rate * 400_000 = mul-le-mul_left rate (omega (arith, size, heavy)) in
    omega (arith, fee, few, high)

fees_most : (rate : ℕ) (coins : List Candidate) → rate ≤ 100_000_000 → AreWithin coins → fees_of rate coins ≤ 4_000_000_000_000_000_000
fees_most rate coins high h =
    let fee : Candidate → ℕ = λ c. input_fee_of rate c.weight in
    let each = All-weaker IsCandidate (λ c. fee c ≤ 40_000_000_000_000) (λ c k. input_most rate c.weight high k.most_weight) coins h.each in
    let all = sum_by-le fee 40_000_000_000_000 coins each in
    omega (arith, all, h.count)

-- ---- the waste fits

signed_by : (z : ℤ) (a b : ℕ) → z +ℤ pos a ≡ pos b → a ≤ 10_000_000_000_000_000_000 → b ≤ 10_000_000_000_000_000_000 → IsSigned z
signed_by (pos n) a b e small low = omega (arith, ints, e, small, low)
signed_by (negsuc n) a b e small low = omega (arith, ints, e, small, low)

-- what the fees of a payment take is within what its coins are worth, and so is the spending of its change
record IsMost (r : PlainRequest) (l : PaymentLoad) (f : PlainFunded) : Type 0 where
  fixed : fee_of r.rate (vsize_of (base_of l)) + l.burden + raised_of r.rate l ≤ value_of f.coins
  spending : spending_of r l f.change ≤ 2_100_000_000_000_000

most_of : (r : PlainRequest) (l : PaymentLoad) (f : PlainFunded) (p : PlainPlan) (amount : Option ℕ) → f.change ≡ amount → p.request ≡ r → IfSome amount (λ n. n ≤ 2_100_000_000_000_000) → Pays r p.change l f.coins amount (payment_of r p.change f)
    → IsMost r l f
most_of r l f p None is own small h = record {
  fixed = omega (arith, h.fee.0);
  spending = subst (λ (o : Option ℕ). spending_of r l o ≤ 2_100_000_000_000_000) (sym is) (omega arith);
}
most_of r l f p (Some n) is own small h = record {
  fixed = let e = h.fee in omega (arith, e);
  spending = subst (λ (o : Option ℕ). spending_of r l o ≤ 2_100_000_000_000_000) (sym is) (let worth = h.change_worth in omega (arith, worth, small));
}

pub waste_fits : (p : PlainPlan) (f : PlainFunded) → IsPlan p → IsPayment p f → IsSelection p.request f → IsSigned (figures_of p.request f).waste
waste_fits p f plan a h =
    let r = p.request in
    let l = load_for p f.row in
    let sum = figures_agree p f a in
    let most = most_of r l f p f.change refl refl h.change a.pays in
    let later = fees_most r.long_term f.coins plan.request.long_term h.coins in
    let fixed = most.fixed in
    let spending = most.spending in
    let worth = h.coins.value in
    signed_by f.waste (fee_of r.rate (vsize_of (base_of l)) + fees_of r.long_term f.coins + l.burden + raised_of r.rate l) ((value_of f.coins - outputs_of r f.change) + spending_of r l f.change) sum.waste
    (omega (arith, fixed, later, worth))
    (omega (arith, spending, worth))

-- ---- coins

pub coins_fit : (b : Bool) (coins : List Candidate) → All InputFits (map (unsigned_input b) coins) → All IsCandidate coins → AllByRecursion IsSizedCoin (map line_of coins)
coins_fit b [] fits each = tt
coins_fit b (c ∷ cs) fits each =
    let i = All-head InputFits (unsigned_input b c) (map (unsigned_input b) cs) fits in
    let k = All-head IsCandidate c cs each in (
      record { txid = (i.txid_len, i.txid); amounts = record { index = let small = i.index in omega (arith, small); value = let small = k.value in omega (arith, small) } },
      coins_fit b cs (All-tail InputFits (unsigned_input b c) (map (unsigned_input b) cs) fits) (All-tail IsCandidate c cs each),
    )

pub wide_change : (o : Option ℕ) → IfSome o (λ n. n ≤ 2_100_000_000_000_000) → IfSome o IsWide
wide_change None h = tt
wide_change (Some n) h = omega (arith, h)

pub lines_some : (coins : List Candidate) → 0 < length coins → 0 < length (map line_of coins)
lines_some [] some = absurd (omega (arith, some))
lines_some (c ∷ cs) some = omega arith
