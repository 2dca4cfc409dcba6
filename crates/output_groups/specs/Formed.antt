-- Groups as places in a list of coins, with what rows and searches ask of them.
use Rattle.std.specs.Prelude.{◌≡◌, ℕ, ◌+◌, ◌≤◌, ◌&&◌, ◌||◌, not, true, Bool, List, All, map, take, drop, length}
use Rattle.coin_candidates.specs.Candidates.{AreCandidates, IsCandidate}
use Rattle.coin_candidates.specs.declared.candidate.Candidate.{Candidate}
use Rattle.pick_problem.specs.Pool.{IsItem}
use Rattle.output_groups.specs.Ladder.{reaches}
use Rattle.output_groups.specs.Measures.{ancestors_of, depth_of, descendants_of, is_mine, is_safe, is_useful, least_of}
use Rattle.output_groups.specs.Part.{Part}
use Rattle.output_groups.specs.Pool.{item_of}
use Rattle.output_groups.specs.PoolOf.{formed_of}
use Rattle.output_groups.specs.declared.formed.Formed.{Formed}
use Rattle.output_groups.specs.declared.rows.Row.{Row}

-- candidates that bring something at the rate
pub record AreUseful (rate : ℕ) (cs : List Candidate) : Type 0 where
  pub count : length cs ≤ 100_000
  pub each : All IsCandidate cs
  pub useful : All (λ c. is_useful rate c ≡ true) cs

-- the coins of a group that stands in the list
abbrev pub coins_at : List Candidate → Formed → List Candidate
coins_at cs f = take f.size (drop f.start cs)

-- that group
abbrev pub part_in : List Candidate → Formed → Part
part_in cs f = record { coins = coins_at cs f; partial = f.partial }

-- it counts for what these coins do
pub record IsMeasured (rate long_term : ℕ) (g : List Candidate) (f : Formed) : Type 0 where
  pub item : f.item ≡ item_of rate long_term g
  pub least : f.least.coin ≡ least_of g
  pub mine : f.mine ≡ is_mine g
  pub safe : f.safe ≡ is_safe g
  pub depth : f.depth ≡ depth_of g
  pub ancestors : f.ancestors ≡ ancestors_of g
  pub descendants : f.descendants ≡ descendants_of g
  pub fits : IsItem f.item

-- it stands in the list, and counts for what its coins there do
pub record IsFormed (rate long_term : ℕ) (cs : List Candidate) (f : Formed) : Type 0 where
  pub few : f.size ≤ 100
  pub within : f.start + f.size ≤ length cs
  pub measures : IsMeasured rate long_term (coins_at cs f) f

-- whether a row keeps it, by what it counts for
abbrev pub keeps_formed : Row → Formed → Bool
keeps_formed row f = (not f.partial || row.partial) && reaches row f.mine f.safe f.depth f.ancestors f.descendants

-- these are the groups that the useful candidates form, in the order of a pool, by their places in a list of coins
pub record AreFormed (group : Bool) (rate long_term : ℕ) (cs coins : List Candidate) (formed : List Formed) : Type 0 where
  pub candidates : AreCandidates cs
  pub each : All (IsFormed rate long_term coins) formed
  pub parts : map (part_in coins) formed ≡ formed_of group rate long_term cs
