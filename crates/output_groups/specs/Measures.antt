-- What a coin, and a group of coins, counts for.
use Rattle.std.specs.Prelude.{◌≡◌, ◌<◌, ◌≤◌, true, All, length, ℕ, ℤ, pos, ◌+◌, ◌-◌, ◌+ℤ◌, ◌-ℤ◌, min, max, Bool, List, [], ◌∷◌, fold, sum_by, int_lt, if◌then◌else◌}
use Rattle.std.specs.Ordering.{is_lt}
use Rattle.std.specs.List.{list_all}
use Rattle.coin_candidates.specs.Candidates.{IsCandidate}
use Rattle.fund_base.specs.Outpoints.{outpoint_cmp}
use Rattle.coin_candidates.specs.declared.candidate.Candidate.{Candidate}
use Rattle.fund_base.specs.declared.outpoint.OutPoint.{OutPoint}
use Rattle.fee_rates.specs.Fee.{input_fee_of, effective_of}

-- what a coin takes for itself when it is spent at the rate: the fee of its input, and its price
abbrev pub charge_of : ℕ → Candidate → ℕ
charge_of rate c = input_fee_of rate c.weight + c.price

-- what is left of it then: its effective value less its price
abbrev pub net_of : ℕ → Candidate → ℤ
net_of rate c = effective_of c.value rate c.weight -ℤ pos c.price

-- whether a coin brings something when it is spent at the rate
abbrev pub is_useful : ℕ → Candidate → Bool
is_useful rate c = int_lt (pos 0) (net_of rate c)

-- what a useful coin brings
abbrev pub gain : ℕ → Candidate → ℕ
gain rate c = c.value - charge_of rate c

-- what a coin's input costs above what it would cost at the long-term rate, and the coin's price
abbrev pub coin_cost : ℕ → ℕ → Candidate → ℤ
coin_cost rate long_term c = (pos (input_fee_of rate c.weight) -ℤ pos (input_fee_of long_term c.weight)) +ℤ pos c.price

-- the sums over a group
abbrev pub value_of : ℕ → List Candidate → ℕ
value_of rate g = sum_by (gain rate) g

abbrev pub weight_of : List Candidate → ℕ
weight_of g = sum_by (λ (c : Candidate). c.weight) g

abbrev pub cost_of : ℕ → ℕ → List Candidate → ℤ
cost_of rate long_term g = fold (λ s c. s +ℤ coin_cost rate long_term c) (pos 0) g

abbrev pub ancestors_of : List Candidate → ℕ
ancestors_of g = sum_by (λ (c : Candidate). c.ancestors) g

-- a group is mine, or safe, if all its coins are
abbrev pub is_mine : List Candidate → Bool
is_mine g = list_all (λ (c : Candidate). c.mine) g

abbrev pub is_safe : List Candidate → Bool
is_safe g = list_all (λ (c : Candidate). c.safe) g

-- the greatest number of descendants
abbrev pub descendants_of : List Candidate → ℕ
descendants_of g = fold (λ m (c : Candidate). max m c.descendants) 0 g

-- the least depth; a group has a coin
abbrev pub depth_of : List Candidate → ℕ
depth_of [] = 0
depth_of (first ∷ rest) = fold (λ m (c : Candidate). min m c.depth) first.depth rest

abbrev pub no_outpoint : OutPoint
no_outpoint = record { txid = []; index = 0 }

-- the lesser of two outpoints
abbrev pub lesser : OutPoint → OutPoint → OutPoint
lesser a b = if is_lt (outpoint_cmp b a) then b else a

-- the least outpoint
abbrev pub least_of : List Candidate → OutPoint
least_of [] = no_outpoint
least_of (first ∷ rest) = fold (λ m (c : Candidate). lesser m c.coin) first.coin rest

-- a group that coins can form at a rate: 1 to 100 coins, each of which brings something
pub record IsGroup (rate : ℕ) (g : List Candidate) : Type 0 where
  pub some : 0 < length g
  pub few : length g ≤ 100
  pub each : All IsCandidate g
  pub useful : All (λ c. is_useful rate c ≡ true) g
