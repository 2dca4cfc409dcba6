-- What a report says of its payment: which coins its PSBT spends, and what they pay. This knows no search and no log.
use Rattle.std.specs.Prelude.{ℕ, ◌≡◌, ◌⊎◌, ◌+◌, List, ◌∷◌, ◌++◌, map, slice_get, All, Contains, Some, IfSome, IsSome}
use Rattle.std.specs.List.{AllZip}
use Rattle.fee_rates.specs.Fee.{vsize_of}
use Rattle.coin_candidates.specs.declared.candidate.Candidate.{Candidate}
use Rattle.fund_base.specs.declared.outpoint.OutPoint.{OutPoint}
use Rattle.fund_plan.specs.Chosen.{load_for}
use Rattle.fund_plan.specs.Figures.{waste_of}
use Rattle.fund_plan.specs.Pays.{Pays, outputs_of, payment_weight}
use Rattle.fund_report.specs.PlainFunded.{PlainFunded}
use Rattle.fund_report.specs.declared.report.InLine.{InLine}
use Rattle.fund_steps.specs.Amounts.{value_of}
use Rattle.fund_steps.specs.Listed.{presets_in}
use Rattle.fund_steps.specs.Plan.{PlainPlan, ladder_in}
use Rattle.output_groups.specs.Ladder.{Meets}
use Rattle.output_groups.specs.declared.rows.Row.{Row}
use Rattle.psbt_codec.specs.PartialTransaction.{PartialTransaction}
use Rattle.psbt_codec.specs.declared.psbt.Spent.{Spent}
use Rattle.tx_codec.specs.declared.tx.TxIn.{TxIn}
use Rattle.tx_codec.specs.declared.tx.TxOut.{TxOut}

-- ---- its coins

-- this row of the request's ladder has this number
abbrev pub IsRowAt : PlainPlan → ℕ → Row → Type 0
IsRowAt p n row = Contains (ladder_in p) row × (row.number ≡ n)

-- A coin that a payment of the row of this number may spend: a preset, or a candidate that meets the row by itself.
abbrev pub MayBeSpent : PlainPlan → ℕ → Candidate → Type 0
MayBeSpent p n c = Contains (presets_in p) c ⊎ (Contains p.candidates c × ((row : Row) × IsRowAt p n row × Meets row c))

-- such a coin is at an outpoint
abbrev pub HasSpendable : PlainPlan → ℕ → OutPoint → Type 0
HasSpendable p n point = (c : Candidate) × MayBeSpent p n c × (c.coin ≡ point)

-- each input spends such a coin
abbrev pub AreSpendable : PlainPlan → ℕ → List TxIn → Type 0
AreSpendable p n inputs = All (λ (i : TxIn). HasSpendable p n i.prev) inputs

-- the first outpoint of the inputs at which there is none
pub record IsFirstForeign (p : PlainPlan) (n : ℕ) (inputs : List TxIn) (point : OutPoint) : Type 0 where
  pub front : List TxIn
  pub input : TxIn
  pub rest : List TxIn
  pub parts : inputs ≡ front ++ input ∷ rest
  pub before : AreSpendable p n front
  pub point_is : input.prev ≡ point
  pub foreign : HasSpendable p n point → ⊥

-- ---- what they pay

-- a coin that is spent, as a report has it
abbrev pub line_of : Candidate → InLine
line_of c = record { coin = c.coin; value = c.value }

-- the output that a coin is
abbrev pub output_of : Candidate → TxOut
output_of c = record { value = c.value; script = c.script }

-- An input shows its coin: by the output, or by a whole transaction that has it at the coin's index (BIP 174, the input
-- types 01 and 00). Where both are there, both show it.
pub record Shows (c : Candidate) (s : Spent) : Type 0 where
  pub some : IsSome s.paid ⊎ IsSome s.whole
  pub paid : IfSome s.paid (λ o. o ≡ output_of c)
  pub whole : IfSome s.whole (λ t. slice_get t.outputs c.coin.index ≡ Some (output_of c))

-- a row of the ladder has this number, or it is 0, which names the presets alone
abbrev pub IsNamedRow : PlainPlan → ℕ → Type 0
IsNamedRow p n = (n ≡ 0) ⊎ ((row : Row) × IsRowAt p n row)

-- The report says what the PSBT does. Its inputs spend coins that may be spent, each once, the presets among them. They pay
-- what is asked, by what the named row has to carry, with the change that the report has. The report's lines have these
-- coins in this order, and the weight, size, fee and waste that they give; and each input shows its coin.
pub record PaysBy (p : PlainPlan) (f : PlainFunded) (t : PartialTransaction) : Type 0 where
  pub coins : List Candidate
  pub row : IsNamedRow p f.row
  pub spendable : All (MayBeSpent p f.row) coins
  pub presets : All (Contains coins) (presets_in p)
  pub pays : Pays p.request p.change (load_for p f.row) coins f.change t.tx
  pub lines : f.coins ≡ map line_of coins
  pub weight : f.weight ≡ payment_weight (load_for p f.row) coins f.change
  pub vsize : f.vsize ≡ vsize_of f.weight
  pub fee : value_of coins ≡ outputs_of p.request f.change + f.fee
  pub waste : f.waste ≡ waste_of p.request (load_for p f.row) coins f.change
  pub shows : AllZip Shows coins t.spent
