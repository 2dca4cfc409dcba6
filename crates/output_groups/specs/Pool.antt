-- The pool of a row: which groups of coins may be chosen from, and in which order.
use Rattle.std.specs.Prelude.{◌≡◌, ◌≢◌, ℕ, ◌<◌, ◌&&◌, ◌||◌, not, Bool, List, map, filter, All, AllPairs, Contains, length, IsPermutation, IsSorted}
use Rattle.std.specs.Ordering.{nat_cmp, int_cmp, ordering_then}
use Rattle.std.specs.declared.cmp.Ordering.{Ordering}
use Rattle.fund_base.specs.Outpoints.{outpoint_cmp}
use Rattle.coin_candidates.specs.declared.candidate.Candidate.{Candidate}
use Rattle.pick_problem.specs.declared.item.Item.{Item}
use Rattle.output_groups.specs.Forming.{AreParts}
use Rattle.output_groups.specs.Ladder.{reaches}
use Rattle.output_groups.specs.Measures.{is_useful, value_of, weight_of, cost_of, ancestors_of, descendants_of, depth_of, is_mine, is_safe, least_of}
use Rattle.output_groups.specs.PlainPool.{PlainPool}
use Rattle.output_groups.specs.declared.fault.PoolFault.{PoolFault}
use Rattle.output_groups.specs.declared.fault.PoolFault.TheVariants.{TooMany, Memory}
use Rattle.output_groups.specs.Part.{Part}
use Rattle.output_groups.specs.declared.rows.Row.{Row}

-- a group meets a row by its least depth, its summed ancestors, its greatest descendants, and what all its coins are
abbrev pub group_meets : Row → List Candidate → Bool
group_meets row g = reaches row (is_mine g) (is_safe g) (depth_of g) (ancestors_of g) (descendants_of g)

-- whether a group is kept: a partial one is kept only by a row that takes these
abbrev pub keeps : Row → Part → Bool
keeps row p = (not p.partial || row.partial) && group_meets row p.coins

-- the groups that the row keeps of those that the useful coins form
pub record AreKept (group : Bool) (row : Row) (rate : ℕ) (cs : List Candidate) (kept : List (List Candidate)) : Type 0 where
  pub parts : List Part
  pub formed : AreParts group (filter (is_useful rate) cs) parts
  pub kept_are : kept ≡ map (λ (p : Part). p.coins) (filter (keeps row) parts)

-- the order of groups: value falling, then weight rising, then cost rising, then least outpoint
abbrev pub group_cmp : ℕ → ℕ → List Candidate → List Candidate → Ordering
group_cmp rate long_term a b =
    ordering_then (nat_cmp (value_of rate b) (value_of rate a))
    (ordering_then (nat_cmp (weight_of a) (weight_of b))
    (ordering_then (int_cmp (cost_of rate long_term a) (cost_of rate long_term b)) (outpoint_cmp (least_of a) (least_of b))))

-- what a search sees of a group
abbrev pub item_of : ℕ → ℕ → List Candidate → Item
item_of rate long_term g = record { value = value_of rate g; weight = weight_of g; cost = cost_of rate long_term g }

-- the pool of a row: the kept groups in order, each with its item
pub record IsPool (group : Bool) (row : Row) (rate long_term : ℕ) (cs : List Candidate) (pool : PlainPool) : Type 0 where
  pub kept : List (List Candidate)
  pub are_kept : AreKept group row rate cs kept
  pub moved : IsPermutation kept pool.groups
  pub order : IsSorted (group_cmp rate long_term) pool.groups
  pub items_are : pool.items ≡ map (item_of rate long_term) pool.groups

-- no coin of the one group and coin of the other are one output
abbrev pub AreSeparate : List Candidate → List Candidate → Type 0
AreSeparate g h = (a b : Candidate) → Contains g a → Contains h b → a.coin ≢ b.coin

-- the coins of the groups are of these candidates, and no output stands twice in them
pub record AreOnce (cs : List Candidate) (groups : List (List Candidate)) : Type 0 where
  pub held : All (λ g. All (Contains cs) g) groups
  pub within : All (λ g. AllPairs (λ (a b : Candidate). a.coin ≢ b.coin) g) groups
  pub between : AllPairs AreSeparate groups

-- the row keeps n groups
pub record CountsKept (group : Bool) (row : Row) (rate : ℕ) (cs : List Candidate) (n : ℕ) : Type 0 where
  pub kept : List (List Candidate)
  pub are_kept : AreKept group row rate cs kept
  pub count : length kept ≡ n

-- the cause of a fault: more than 10,000 groups are kept, namely n; being out of memory has none
abbrev pub IsPoolFault : Bool → Row → ℕ → List Candidate → PoolFault → Type 0
IsPoolFault group row rate cs (TooMany n) = CountsKept group row rate cs n × (10_000 < n)
IsPoolFault group row rate cs Memory = Unit {0}
