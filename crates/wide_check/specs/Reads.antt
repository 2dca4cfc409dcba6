-- The sums that a reading keeps of the chosen places.
use Rattle.std.specs.Prelude.{◌≡◌, ℕ, ◌≤◌, Bool, false, List, length, Option, Some, None, Result, MatchResult, bytes_eq, pos, neg_ℤ, ◌≤ℤ◌, vec_capacity}
use Rattle.wide_check.specs.declared.fault.WideFault.{WideFault}
use Rattle.wide_check.specs.declared.fault.WideFault.TheVariants.{UnknownToken, ReasonFalse, TooLong, BetterMet}
use Rattle.wide_check.specs.declared.reading.Reading.{Reading}
use Rattle.wide_check.specs.declared.stepping.Wrong.{Wrong}
use Rattle.wide_check.specs.declared.stepping.Wrong.TheVariants.{Unknown, Long, False, Better}
use Rattle.wide_check.specs.Feeding.{IsFalse}
use Rattle.wide_check.specs.declared.token.WideToken.{WideToken}
use Rattle.wide_check.specs.declared.token.WideToken.TheVariants.{Mark}
use Rattle.pick_problem.specs.Problem.{PlainProblem, Rising, value_of, weight_of, cost_of}
use Rattle.wide_check.specs.WideSteps.{WideState, IsAllowedAt, after}

-- where a reading stands
abbrev pub state_of : Reading → WideState
state_of r = record { chosen = r.places.items; next = r.next; entered = r.entered; closed = r.closed; met = r.met }

-- the chosen places rise below the next one, and their sums are known, with their bounds
pub record IsReading (p : PlainProblem) (r : Reading) : Type 0 where
  pub rising : Rising r.next 0 r.places.items
  pub within : r.next ≤ length p.items
  pub value : r.value ≡ value_of p r.places.items
  pub weight : r.weight ≡ weight_of p r.places.items
  pub cost : r.cost ≡ cost_of p r.places.items
  pub small_value : r.value ≤ 2_100_000_000_000_000_000_000
  pub small_weight : r.weight ≤ 400_000_000_000
  pub low_cost : neg_ℤ (pos 100_000_000_000_000_000) ≤ℤ r.cost
  pub high_cost : r.cost ≤ℤ pos 10_000_000_000_000_000_000_000
  pub few : length p.items ≤ 10_000
  pub room : length p.items ≤ vec_capacity r.places

-- whether places are the answer
abbrev pub is_answer : Option (List ℕ) → List ℕ → Bool
is_answer None q = false
is_answer (Some best) q = bytes_eq q best

-- what is wrong with a token at an open node
abbrev pub IsWrong : PlainProblem → Option (List ℕ) → WideState → WideToken → Wrong → Type 0
IsWrong p a s token Unknown = ⊥
IsWrong p a s token Long = ⊥
IsWrong p a s token False = IsFalse p a s token
IsWrong p a s token Better = (token ≡ Mark) × (¬ IsAllowedAt p a s.entered s.met s.chosen s.next Mark)

-- the fault of what is wrong with a letter at a place
abbrev pub fault_at : Wrong → ℕ → WideFault
fault_at Unknown place = UnknownToken place
fault_at Long place = TooLong place
fault_at False place = ReasonFalse place
fault_at Better place = BetterMet place

-- what a token at an open node leaves: its step where it is allowed, and all as it was where it is wrong
abbrev pub Steps : {T : Type 0} → PlainProblem → Option (List ℕ) → WideState → WideToken → WideState → Result T Wrong → Type 0
Steps p a old token new result =
    MatchResult result (λ _. IsAllowedAt p a old.entered old.met old.chosen old.next token × (new ≡ after p a old token)) (λ wrong. IsWrong p a old token wrong × (new ≡ old))
