-- What the presets alone come to, and what a payment means.
use Rattle.std.specs.Prelude.{ℕ, ◌≡◌, ◌≤◌, ◌<◌, ◌⊎◌, ◌==◌, Bool, true, false, List, length, All, Contains, Option, IfSome}
use Rattle.closing_log.specs.declared.log.Stage.TheVariants as stage
use Rattle.closing_log.specs.declared.mark.Mark.TheVariants as mark
use Rattle.coin_candidates.specs.declared.candidate.Candidate.{Candidate}
use Rattle.tx_codec.specs.Transaction.{Transaction}
use Rattle.request_text.specs.PlainRequest.{PlainRequest}
use Rattle.fund_steps.specs.Amounts.{AreWithin, value_of}
use Rattle.fund_steps.specs.Listed.{ArePresets, burden_in, presets_in}
use Rattle.fund_steps.specs.Plan.{PlainPlan, coins_in}
use Rattle.fund_plan.specs.Steps.{pool_in}
use Rattle.fund_steps.specs.Terms.{load_of}
use Rattle.fund_plan.specs.Chosen.{load_for, row_of}
use Rattle.fund_plan.specs.Figures.{waste_of}
use Rattle.fund_plan.specs.Pays.{Pays, outputs_of, payment_of, payment_weight}
use Rattle.fund_plan.specs.Selection.{PlainFunded}
use Rattle.fund_plan.specs.declared.outcome.Outcome.{Outcome}
use Rattle.fund_plan.specs.declared.outcome.Outcome.TheVariants.{Funded, NoSelection, Unfinished}

-- ---- any payment

-- a coin is one of the presets, or of a group of the pool of this row; in row 0 there are the presets alone
abbrev pub IsAtHandBy : PlainPlan → Bool → ℕ → Candidate → Type 0
IsAtHandBy p true n c = Contains (presets_in p) c
IsAtHandBy p false n c = Contains (presets_in p) c ⊎ ((g : List Candidate) × Contains (pool_in p (row_of p n)).groups g × Contains g c)

abbrev pub IsAtHand : PlainPlan → ℕ → Candidate → Type 0
IsAtHand p n c = IsAtHandBy p (n == 0) n c

-- A payment of a plan: its coins are candidates and those of a replaced payment, the presets among them, and the others are
-- of groups of the pool of the row that it names. The transaction that is made of them pays, by what that row has to carry;
-- and weight and waste are those of the whole payment.
pub record IsPayment (p : PlainPlan) (f : PlainFunded) : Type 0 where
  pub candidates : All (Contains (coins_in p)) f.coins
  pub presets : All (Contains f.coins) (presets_in p)
  pub at_hand : All (IsAtHand p f.row) f.coins
  pub coins : AreWithin f.coins
  pub pays : Pays p.request p.change (load_for p f.row) f.coins f.change (payment_of p.request p.change f)
  pub weight_is : f.weight ≡ payment_weight (load_for p f.row) f.coins f.change
  pub waste_is : f.waste ≡ waste_of p.request (load_for p f.row) f.coins f.change

-- whatever is paid is such a payment
abbrev pub ArePayments : PlainPlan → Outcome → Type 0
ArePayments p (Funded f) = IsPayment p f
ArePayments p NoSelection = Unit {0}
ArePayments p Unfinished = Unit {0}

-- ---- the presets alone

-- a transaction pays from these coins alone, with this change or with none
abbrev pub PaysAlone : PlainPlan → List Candidate → Option ℕ → Transaction → Type 0
PaysAlone p coins amount t = Pays p.request p.change (load_of p.request p.change coins (burden_in p)) coins amount t

-- the payment from coins that are given, with this change or with none
abbrev pub given_from : PlainPlan → List Candidate → Option ℕ → PlainFunded
given_from p coins change = record {
  mark = mark.Given;
  row = 0;
  stage = stage.Presets;
  coins = coins;
  change = change;
  waste = waste_of p.request (load_of p.request p.change coins (burden_in p)) coins change;
  weight = payment_weight (load_of p.request p.change coins (burden_in p)) coins change;
}

-- What an outcome means where no coin is chosen beside the presets. Funded: the coins are the presets, and the transaction
-- that is made of them pays. No selection: no transaction from exactly the presets pays, whatever the change.
abbrev pub AnswersAlone : PlainPlan → Outcome → Type 0
AnswersAlone p (Funded f) = ArePresets p f.coins × PaysAlone p f.coins f.change (payment_of p.request p.change f) × (f ≡ given_from p f.coins f.change)
AnswersAlone p NoSelection = (coins : List Candidate) × ArePresets p coins × ((amount : Option ℕ) (t : Transaction) → PaysAlone p coins amount t → ⊥)
AnswersAlone p Unfinished = ⊥

-- ---- what can be written

-- coins and a change that a payment of the request can have: one coin at least, all within their bounds, and outputs
-- within what the coins are worth
pub record IsSelection (r : PlainRequest) (f : PlainFunded) : Type 0 where
  pub coins : AreWithin f.coins
  pub some : 0 < length f.coins
  pub change : IfSome f.change (λ n. n ≤ 2_100_000_000_000_000)
  pub within : outputs_of r f.change ≤ value_of f.coins

-- the same of an outcome
abbrev pub HasSelection : PlainRequest → Outcome → Type 0
HasSelection r (Funded f) = IsSelection r f
HasSelection r NoSelection = Unit {0}
HasSelection r Unfinished = Unit {0}
