-- What plans are made from, and which requests none is made for.
use Rattle.std.specs.Prelude.{ℕ, ◌≡◌, ◌≢◌, ◌+◌, ◌≤◌, ◌<◌, ◌⊎◌, ◌↔◌, ◌||◌, Bool, List, ◌∷◌, ◌++◌, length, All, Contains, IsTrue, IsSome, IfSome, Option, Some, None}
use Rattle.coin_candidates.specs.Candidates.{AreCandidates}
use Rattle.coin_candidates.specs.declared.candidate.Candidate.{Candidate}
use Rattle.fund_base.specs.declared.outpoint.OutPoint.{OutPoint}
use Rattle.output_groups.specs.Ladder.{ladder_of}
use Rattle.output_groups.specs.Pool.{CountsKept}
use Rattle.output_groups.specs.declared.rows.Row.{Row}
use Rattle.request_text.specs.PlainRequest.{PlainRequest, IsRequest}
use Rattle.wallet_text.specs.WalletRules.{IsWatch}
use Rattle.wallet_text.specs.declared.wallet.Watch.{Watch}
use Rattle.fund_steps.specs.Amounts.{value_of}
use Rattle.fund_steps.specs.Selection.{unlisted}
use Rattle.fund_steps.specs.declared.fault.PlanFault.{PlanFault}
use Rattle.fund_steps.specs.declared.fault.PlanFault.TheVariants.{Total, NotEligible, TooMany, Memory}

-- What a payment that replaces another is given: the coins that the replaced one spends, of which each is spent again, and
-- what is paid beside the fee of the rate, in satoshi (BIP 125, 'Implementation Details', rules 3 and 4).
pub record PlainBump : Type 0 where
  pub presets : List Candidate
  pub burden : ℕ

-- a request, where its change is paid, the coins that may be spent, and what it is given where it replaces a payment
pub record PlainPlan : Type 0 where
  pub request : PlainRequest
  pub change : Watch
  pub candidates : List Candidate
  pub bump : Option PlainBump

-- What a plan can be given beside these candidates: coins that a payment can spend, each outpoint once and none of them a
-- candidate's, at most 100,000 with the candidates together; and at most 1,000,000,000,000,000,000 satoshi to be paid beside
-- the fee.
pub record IsBump (candidates : List Candidate) (b : PlainBump) : Type 0 where
  pub presets : AreCandidates b.presets
  pub others : (c d : Candidate) → Contains b.presets c → Contains candidates d → c.coin ≢ d.coin
  pub together : length b.presets + length candidates ≤ 100_000
  pub burden : b.burden ≤ 1_000_000_000_000_000_000

-- it is given exactly where the request replaces a payment, and is such a one
pub record IsBumpFor (r : PlainRequest) (candidates : List Candidate) (bump : Option PlainBump) : Type 0 where
  pub asked : IsSome bump ↔ IsSome r.bump
  pub fits : IfSome bump (IsBump candidates)

-- The coins that a payment can spend: the candidates, and those that a replaced payment spends.
abbrev pub coins_with : Option PlainBump → List Candidate → List Candidate
coins_with None candidates = candidates
coins_with (Some b) candidates = b.presets ++ candidates

abbrev pub coins_in : PlainPlan → List Candidate
coins_in p = coins_with p.bump p.candidates

-- A coin that the request may list: it is a candidate, and safe unless the request takes unsafe ones.
pub record IsEligible (p : PlainPlan) (c : Candidate) : Type 0 where
  pub candidate : Contains p.candidates c
  pub safe : IsTrue c.safe ⊎ IsTrue p.request.include_unsafe

-- the same, of a candidate as a test
abbrev pub may_be_listed : PlainRequest → Candidate → Bool
may_be_listed r c = c.safe || r.include_unsafe

-- such a coin is at an outpoint
abbrev pub HasEligible : PlainPlan → OutPoint → Type 0
HasEligible p point = (c : Candidate) × IsEligible p c × (c.coin ≡ point)

-- no such coin is there
abbrev pub HasNone : PlainPlan → OutPoint → Type 0
HasNone p point = (c : Candidate) → IsEligible p c → c.coin ≢ point

-- the first listed outpoint at which no such coin is
pub record IsFirstMissing (p : PlainPlan) (point : OutPoint) : Type 0 where
  pub front : List OutPoint
  pub rest : List OutPoint
  pub parts : p.request.coins ≡ front ++ point ∷ rest
  pub before : All (HasEligible p) front
  pub missing : HasNone p point

-- the coins that a payment can spend are worth at most 21,000,000 bitcoin together
abbrev pub IsWithin : PlainPlan → Type 0
IsWithin p = value_of (coins_in p) ≤ 2_100_000_000_000_000

-- the rows of the ladder
abbrev pub ladder_in : PlainPlan → List Row
ladder_in p = ladder_of p.request.zero_conf p.request.include_unsafe

-- the row keeps n groups of the candidates that the request doesn't list
abbrev pub KeepsGroups : PlainPlan → Row → ℕ → Type 0
KeepsGroups p row n = CountsKept p.request.group row p.request.rate (unlisted p.request.coins p.candidates) n

-- the row keeps at most 10,000 groups
abbrev pub IsRoomy : PlainPlan → Row → Type 0
IsRoomy p row = (n : ℕ) → KeepsGroups p row n → n ≤ 10_000

-- the first row of the ladder that keeps more, by its number, and how many it keeps
pub record IsFirstCrowded (p : PlainPlan) (number n : ℕ) : Type 0 where
  pub front : List Row
  pub row : Row
  pub rest : List Row
  pub parts : ladder_in p ≡ front ++ row ∷ rest
  pub before : All (IsRoomy p) front
  pub number_is : row.number ≡ number
  pub keeps : KeepsGroups p row n
  pub many : 10_000 < n

-- What keeps a plan from being made. Total: the candidates and the coins of a replaced payment are worth this much together,
-- which is more than 21,000,000 bitcoin. Not eligible: they aren't, and this is the first listed outpoint at which no
-- eligible coin is. Too many: each has one, and this is the first row of the ladder that keeps more than 10,000 groups.
-- Memory: the coins aren't worth more, since that is tested before any memory is taken.
abbrev pub IsPlanFault : PlainPlan → PlanFault → Type 0
IsPlanFault p (Total sum) = (sum ≡ value_of (coins_in p)) × (2_100_000_000_000_000 < sum)
IsPlanFault p (NotEligible point) = IsWithin p × IsFirstMissing p point
IsPlanFault p (TooMany number n) = IsWithin p × All (HasEligible p) p.request.coins × IsFirstCrowded p number n
IsPlanFault p Memory = IsWithin p

-- The rules that each plan keeps: those of its parts, and that no fault is there.
pub record IsPlan (p : PlainPlan) : Type 0 where
  pub request : IsRequest p.request
  pub bump : IsBumpFor p.request p.candidates p.bump
  pub change : IsWatch p.change
  pub candidates : AreCandidates p.candidates
  pub within : IsWithin p
  pub eligible : All (HasEligible p) p.request.coins
  pub roomy : All (IsRoomy p) (ladder_in p)
