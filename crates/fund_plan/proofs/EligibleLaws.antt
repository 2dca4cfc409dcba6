-- The coins of a payment may be spent.
use Rattle.std.specs.Prelude.{ℕ, ◌≡◌, ◌⊎◌, ◌==◌, Bool, true, false, List, All, Contains, IsTrue, None}
use Rattle.std.proofs.Common.{inl, inr}
use Rattle.std.proofs.lemmas.List.Elements.{All-contains, All-weaker}
use Rattle.coin_candidates.specs.declared.candidate.Candidate.{Candidate}
use Rattle.output_groups.proofs.Members.{all_from}
use Rattle.output_groups.proofs.PoolLaws.{pool_meets}
use Rattle.output_groups.proofs.SortLaws.{is_pool}
use Rattle.output_groups.specs.Ladder.{Meets}
use Rattle.fund_steps.proofs.BumpLaws.{coins_cases, may_plain, presets_may}
use Rattle.fund_steps.specs.Listed.{MaySpend, presets_in}
use Rattle.fund_steps.specs.Plan.{IsEligible, IsPlan, PlainPlan, coins_in}
use Rattle.fund_steps.specs.Selection.{unlisted}
use Rattle.fund_plan.specs.Answer.{IsAtHandBy, IsPayment}
use Rattle.fund_plan.specs.Chosen.{row_of}
use Rattle.fund_plan.specs.Selection.{PlainFunded}
use Rattle.fund_plan.specs.Steps.{pool_in}
use Rattle.fund_plan.proofs.RowLaws.{row_asked, row_fair}

abbrev IsSafe : PlainPlan → Candidate → Type 0
IsSafe p c = IsTrue c.safe ⊎ IsTrue p.request.include_unsafe

-- a coin that meets a row of the ladder is safe, or the request takes unsafe ones
chosen_safe : (p : PlainPlan) (n : ℕ) (c : Candidate) (g : List Candidate) → Contains (pool_in p (row_of p n)).groups g → Contains g c → IsSafe p c
chosen_safe p n c g in_pool in_group =
    let r = p.request in
    let row = row_of p n in
    let rest = unlisted r.coins p.candidates in
    let all = pool_meets r.group row r.rate r.long_term rest (pool_in p row) (row_fair p n) (is_pool r.group row r.rate r.long_term rest) in
    let met = All-contains (Meets row) g c (All-contains (λ (x : List Candidate). All (Meets row) x) (pool_in p row).groups g all in_pool) in_group in
    elim met.safe_enough [
      | inl safe ↦ inl safe
      | inr too ↦ inr (row_asked p n too)
    ]

-- a candidate that is at hand may be spent
hand_may : (p : PlainPlan) (b : Bool) (n : ℕ) (c : Candidate) → IsPlan p → Contains p.candidates c → IsAtHandBy p b n c → MaySpend p c
hand_may p true n c h there at = All-contains (MaySpend p) (presets_in p) c (presets_may p h) at
hand_may p false n c h there at =
    elim at [
      | inl given ↦ All-contains (MaySpend p) (presets_in p) c (presets_may p h) given
      | inr chosen ↦ inl (record { candidate = there; safe = chosen_safe p n c chosen.0 chosen.1 chosen.2 })
    ]

pub payment_may : (p : PlainPlan) (f : PlainFunded) → IsPlan p → IsPayment p f → All (MaySpend p) f.coins
payment_may p f h a =
    all_from (MaySpend p) f.coins
    (λ c there. elim (coins_cases p.bump p.candidates c (All-contains (Contains (coins_in p)) f.coins c a.candidates there)) [
      | inl other ↦ hand_may p (f.row == 0) f.row c h other (All-contains (IsAtHandBy p (f.row == 0) f.row) f.coins c a.at_hand there)
      | inr given ↦ inr given
    ])

-- where no payment is replaced they are eligible
pub payment_eligible : (p : PlainPlan) (f : PlainFunded) → p.bump ≡ None → IsPlan p → IsPayment p f → All (IsEligible p) f.coins
payment_eligible p f none h a = All-weaker (MaySpend p) (IsEligible p) (λ c may. may_plain p c none may) f.coins (payment_may p f h a)
