-- What a choice from a row's pool brings, in sums over its coins.
use Rattle.std.specs.Prelude.{ℕ, pos, ◌<◌, ◌≤◌, ◌≤ℤ◌, List, [], length, slice_index_or}
use Rattle.std.specs.List.{flat_map}
use Rattle.coin_candidates.specs.declared.candidate.Candidate.{Candidate}
use Rattle.output_groups.specs.Measures.{value_of, weight_of}
use Rattle.output_groups.specs.PlainPool.{PlainPool}
use Rattle.pick_problem.specs.Problem.{Rising}
use Rattle.request_text.specs.declared.request.Method.{Method}
use Rattle.request_text.specs.declared.request.Method.TheVariants.{Auto, Changeless, Weight, Draw, Manual}
use Rattle.fund_steps.specs.Basis.{Basis}
use Rattle.fund_steps.specs.Searches.{PlainRow, terms_in}

-- groups of a pool by their places: some, each once
pub record IsChoice (pool : PlainPool) (places : List ℕ) : Type 0 where
  pub some : 0 < length places
  pub rising : Rising (length pool.groups) 0 places

-- the coins of the groups at places
abbrev pub coins_at : PlainPool → List ℕ → List Candidate
coins_at pool places = flat_map (λ j. slice_index_or pool.groups j []) places

-- what they bring beyond the fees of their inputs and their prices
abbrev pub brought : Basis → PlainRow → List ℕ → ℕ
brought b r places = value_of b.request.rate (coins_at r.pool places)

-- they do for a payment without change: no less than the target and no more than hi, within the weight that is left
pub record DoesPlain (b : Basis) (r : PlainRow) (places : List ℕ) : Type 0 where
  pub low : (terms_in b r).target ≤ℤ pos (brought b r places)
  pub high : pos (brought b r places) ≤ℤ (terms_in b r).hi
  pub light : weight_of (coins_at r.pool places) ≤ (terms_in b r).plain_limit

-- they do for one with change: no less than the least change takes, within the weight that is left beside it
pub record DoesChange (b : Basis) (r : PlainRow) (places : List ℕ) : Type 0 where
  pub low : (terms_in b r).small ≤ℤ pos (brought b r places)
  pub light : weight_of (coins_at r.pool places) ≤ (terms_in b r).change_limit

-- a choice doesn't do for what the method looks for: a payment without change, one with change, or either
abbrev pub FailsBy : Method → Basis → PlainRow → List ℕ → Type 0
FailsBy Auto b r places = (DoesPlain b r places → ⊥) × (DoesChange b r places → ⊥)
FailsBy Changeless b r places = DoesPlain b r places → ⊥
FailsBy Weight b r places = DoesChange b r places → ⊥
FailsBy Draw b r places = DoesChange b r places → ⊥
FailsBy Manual b r places = Unit {0}

-- no choice from the row's pool does
abbrev pub NothingDoesBy : Method → Basis → PlainRow → Type 0
NothingDoesBy m b r = (places : List ℕ) → IsChoice r.pool places → FailsBy m b r places

-- the same by the method of the request
abbrev pub NothingDoes : Basis → PlainRow → Type 0
NothingDoes b r = NothingDoesBy b.request.method b r
