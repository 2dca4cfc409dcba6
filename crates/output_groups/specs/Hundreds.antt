-- What the groups of one script's coins are, without places or numbers of them.
use Rattle.std.specs.Prelude.{◌≡◌, ◌<◌, ◌≤◌, ◌↔◌, List, All, AllPairs, Contains, IsTrue, length}
use Rattle.std.specs.List.{flat_map}
use Rattle.coin_candidates.specs.declared.candidate.Candidate.{Candidate}
use Rattle.output_groups.specs.Part.{Part}

-- one of the groups has 100 coins
abbrev pub HasFull : List Part → Type 0
HasFull parts = (p : Part) × Contains parts p × (length p.coins ≡ 100)

-- Groups of a list of coins. One behind the other they are the list, so each coin stands in one of them, in its order. Each
-- has 1 to 100 coins, and 100 where another stands behind it. One is partial exactly where it has fewer and another has 100.
pub record AreHundreds (cs : List Candidate) (parts : List Part) : Type 0 where
  pub whole : flat_map (λ (p : Part). p.coins) parts ≡ cs
  pub some : All (λ (p : Part). 0 < length p.coins) parts
  pub few : All (λ (p : Part). length p.coins ≤ 100) parts
  pub full : AllPairs (λ (p q : Part). length p.coins ≡ 100) parts
  pub partial : All (λ (p : Part). IsTrue p.partial ↔ ((length p.coins < 100) × HasFull parts)) parts
