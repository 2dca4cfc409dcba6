-- What a row asks of a group, coin by coin.
use Rattle.std.specs.Prelude.{◌≤◌, ◌⊎◌, All, IsTrue, List, sum_by}
use Rattle.coin_candidates.specs.declared.candidate.Candidate.{Candidate}
use Rattle.output_groups.specs.Part.{Part}
use Rattle.output_groups.specs.declared.rows.Row.{Row}

-- all coins are mine
abbrev pub AreMine : List Candidate → Type 0
AreMine g = All (λ (c : Candidate). IsTrue c.mine) g

-- The row takes the group. A partial one is taken only by a row for these. Each coin is deep enough, which is judged as for
-- own coins where all are mine, and as for foreign ones otherwise. Together the coins have few enough pending ancestors, and
-- each has few enough pending descendants. All are safe, or the row takes unsafe ones.
pub record IsTaken (row : Row) (p : Part) : Type 0 where
  pub partial : IsTrue p.partial → IsTrue row.partial
  pub own : AreMine p.coins → All (λ (c : Candidate). row.own ≤ c.depth) p.coins
  pub foreign : (AreMine p.coins → ⊥) → All (λ (c : Candidate). row.foreign ≤ c.depth) p.coins
  pub ancestors : sum_by (λ (c : Candidate). c.ancestors) p.coins ≤ row.ancestors
  pub descendants : All (λ (c : Candidate). c.descendants ≤ row.descendants) p.coins
  pub safe : All (λ (c : Candidate). IsTrue c.safe) p.coins ⊎ IsTrue row.unsafe_too
