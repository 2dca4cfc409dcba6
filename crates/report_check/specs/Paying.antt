-- What a report says of its payment, part by part, for coins that were looked up by its inputs.
use Rattle.std.specs.Prelude.{ℕ, ◌≡◌, ◌+◌, ◌≤◌, ◌==◌, List, [], ◌∷◌, map, find, All, Contains, Option, Some, None, IfSome}
use Rattle.std.specs.List.{AllZip}
use Rattle.std.specs.declared.cmp.Ordering.TheVariants.{Less}
use Rattle.fee_rates.specs.Fee.{vsize_of}
use Rattle.fee_rates.specs.Terms.{IsLoad, change_least_of}
use Rattle.fee_rates.specs.declared.terms.PaymentLoad.{PaymentLoad}
use Rattle.fund_base.specs.Outpoints.{outpoint_cmp}
use Rattle.coin_candidates.specs.declared.candidate.Candidate.{Candidate}
use Rattle.fund_plan.specs.Chosen.{load_for}
use Rattle.fund_plan.specs.Figures.{waste_of}
use Rattle.fund_plan.specs.Pays.{Balances, outputs_of, payment_from, payment_weight}
use Rattle.fund_report.specs.PlainFunded.{PlainFunded}
use Rattle.fund_steps.specs.Amounts.{value_of}
use Rattle.fund_steps.specs.Listed.{presets_in}
use Rattle.fund_steps.specs.Plan.{PlainPlan, ladder_in}
use Rattle.fund_steps.specs.Selection.{AreSorted, unlisted}
use Rattle.fund_steps.specs.Terms.{rates_of}
use Rattle.output_groups.specs.declared.rows.Row.{Row}
use Rattle.psbt_codec.specs.PartialTransaction.{PartialTransaction}
use Rattle.psbt_codec.specs.declared.psbt.Spent.{Spent}
use Rattle.request_text.specs.PlainRequest.{PlainRequest, paid_to}
use Rattle.tx_codec.specs.declared.tx.TxIn.{TxIn}
use Rattle.report_check.specs.Finding.{Takes}
use Rattle.report_check.specs.Payment.{IsNamedRow, Shows, line_of}

-- ---- coins

-- the first row of the request's ladder that has this number
abbrev pub row_at : PlainPlan → ℕ → Option Row
row_at p n = find (λ (r : Row). r.number == n) (ladder_in p)

-- the coins were looked up by these inputs: each is a preset, or a candidate that isn't listed and meets the row
abbrev pub AreTaken : PlainPlan → ℕ → List TxIn → List Candidate → Type 0
AreTaken p n inputs coins = AllZip (Takes (presets_in p) (unlisted p.request.coins p.candidates) (row_at p n)) inputs coins

-- one of the coins is at the outpoint of another coin
abbrev pub HasCoinOf : List Candidate → Candidate → Type 0
HasCoinOf coins c = (d : Candidate) × Contains coins d × (d.coin ≡ c.coin)

-- so it is for each of the given ones
abbrev pub HasEach : List Candidate → List Candidate → Type 0
HasEach coins given = All (HasCoinOf coins) given

-- a coin's outpoint comes before that of the next one, where there is one
abbrev pub IsBelow : Candidate → List Candidate → Type 0
IsBelow c [] = Unit {0}
IsBelow c (d ∷ ds) = outpoint_cmp c.coin d.coin ≡ Less

-- ---- what a payment of a row is to carry

abbrev pub IsLoadAt : PlainPlan → ℕ → Option PaymentLoad → Type 0
IsLoadAt p n (Some l) = IsNamedRow p n × (l ≡ load_for p n) × IsLoad l × (l.paid ≡ paid_to p.request.recipients)
IsLoadAt p n None = IsNamedRow p n → ⊥

-- ---- money and figures

-- the coins bring what is due with this change, the change is worth making, and all is within the greatest weight
pub record IsEven (r : PlainRequest) (l : PaymentLoad) (coins : List Candidate) (amount : Option ℕ) : Type 0 where
  pub balance : Balances r l coins amount (value_of coins) (outputs_of r amount)
  pub worth : IfSome amount (λ n. change_least_of (rates_of r) l ≤ n)
  pub weight : payment_weight l coins amount ≤ 400_000

-- the report has the weight, the size, the fee and the waste of these coins with its change
pub record HasFigures (r : PlainRequest) (l : PaymentLoad) (f : PlainFunded) (coins : List Candidate) : Type 0 where
  pub weight : f.weight ≡ payment_weight l coins f.change
  pub vsize : f.vsize ≡ vsize_of f.weight
  pub fee : value_of coins ≡ outputs_of r f.change + f.fee
  pub waste : f.waste ≡ waste_of r l coins f.change

-- the report's lines are those of these coins, they balance with its change, it has their figures, and its inputs show them
pub record Says (r : PlainRequest) (l : PaymentLoad) (f : PlainFunded) (coins : List Candidate) (spent : List Spent) : Type 0 where
  pub even : IsEven r l coins f.change
  pub figures : HasFigures r l f coins
  pub lines : f.coins ≡ map line_of coins
  pub shows : AllZip Shows coins spent

-- all of it
pub record IsSaid (p : PlainPlan) (f : PlainFunded) (t : PartialTransaction) (coins : List Candidate) : Type 0 where
  pub sorted : AreSorted coins
  pub given : HasEach coins (presets_in p)
  pub row : IsNamedRow p f.row
  pub says : Says p.request (load_for p f.row) f coins t.spent
  pub transaction : t.tx ≡ payment_from p.request p.change coins f.change
