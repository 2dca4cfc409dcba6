-- The coins that each payment spends: those that a request lists, or those of the payment that it replaces.
use Rattle.std.specs.Prelude.{ℕ, ◌≡◌, ◌⊎◌, ◌&&◌, Bool, List, filter, All, Contains, Option, Some, None}
use Rattle.coin_candidates.specs.declared.candidate.Candidate.{Candidate}
use Rattle.request_text.specs.PlainRequest.{PlainRequest}
use Rattle.fund_steps.specs.Plan.{IsEligible, PlainBump, PlainPlan, may_be_listed}
use Rattle.fund_steps.specs.Selection.{AreSorted, in_order, is_listed}

-- The coins are those that the request lists: each is eligible and listed, one is at each listed outpoint, and they stand
-- in the order of their outpoints, each once.
pub record AreListed (p : PlainPlan) (coins : List Candidate) : Type 0 where
  pub eligible : All (IsEligible p) coins
  pub only : All (λ (c : Candidate). Contains p.request.coins c.coin) coins
  pub all : All (λ point. (c : Candidate) × Contains coins c × (c.coin ≡ point)) p.request.coins
  pub sorted : AreSorted coins

-- a candidate that is listed, and may be
abbrev pub is_preset : PlainRequest → Candidate → Bool
is_preset r c = is_listed r.coins c.coin && may_be_listed r c

-- the listed coins that are eligible, in the order of their outpoints
abbrev pub listed_of : PlainRequest → List Candidate → List Candidate
listed_of r candidates = in_order (filter (is_preset r) candidates)

abbrev pub listed_in : PlainPlan → List Candidate
listed_in p = listed_of p.request p.candidates

-- The coins are those that a replaced payment spends, in the order of their outpoints, each once.
pub record AreReplaced (b : PlainBump) (coins : List Candidate) : Type 0 where
  pub only : All (Contains b.presets) coins
  pub all : All (Contains coins) b.presets
  pub sorted : AreSorted coins

-- The coins are the presets, which each payment spends: those of the replaced payment where there is one, and otherwise
-- those that the request lists.
abbrev pub ArePresetsBy : PlainPlan → Option PlainBump → List Candidate → Type 0
ArePresetsBy p None coins = AreListed p coins
ArePresetsBy p (Some b) coins = AreReplaced b coins

abbrev pub ArePresets : PlainPlan → List Candidate → Type 0
ArePresets p coins = ArePresetsBy p p.bump coins

-- the presets, in the order of their outpoints
abbrev pub presets_by : Option PlainBump → (listed : List Candidate) → List Candidate
presets_by None listed = listed
presets_by (Some b) listed = in_order b.presets

abbrev pub presets_in : PlainPlan → List Candidate
presets_in p = presets_by p.bump (listed_in p)

-- what is paid beside the fee, in satoshi: nothing where no payment is replaced
abbrev pub burden_by : Option PlainBump → ℕ
burden_by None = 0
burden_by (Some b) = b.burden

abbrev pub burden_in : PlainPlan → ℕ
burden_in p = burden_by p.bump

-- the replaced payment spends this coin
abbrev pub IsReplaced : Option PlainBump → Candidate → Type 0
IsReplaced None c = ⊥
IsReplaced (Some b) c = Contains b.presets c

-- A coin that a payment may spend: an eligible one, or one that the replaced payment spends.
abbrev pub MaySpend : PlainPlan → Candidate → Type 0
MaySpend p c = IsEligible p c ⊎ IsReplaced p.bump c
