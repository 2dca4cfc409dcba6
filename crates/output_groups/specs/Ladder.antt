-- The rows of the ladder, and what a row asks. The rows and their numbers are this project's own, in the manner of
-- Bitcoin Core's eligibility filters (`CoinEligibilityFilter`).
use Rattle.std.specs.Prelude.{◌≤◌, ◌⊎◌, ◌&&◌, ◌||◌, ℕ, Bool, true, false, List, [], ◌∷◌, take, nat_le, if◌then◌else◌, IsTrue}
use Rattle.coin_candidates.specs.declared.candidate.Candidate.{Candidate}
use Rattle.output_groups.specs.declared.rows.Row.{Row}

-- a row that takes confirmed coins alone
abbrev pub confirmed_row : ℕ → ℕ → Row
confirmed_row number foreign = record {
  number = number;
  own = 1;
  foreign = foreign;
  ancestors = 0;
  descendants = 0;
  partial = false;
  unsafe_too = false;
}

-- a row that also takes pending coins of the wallet's own, with so many ancestors and descendants
abbrev pub pending_row : ℕ → ℕ → Bool → Row
pending_row number most partial = record {
  number = number;
  own = 0;
  foreign = 1;
  ancestors = most;
  descendants = most;
  partial = partial;
  unsafe_too = false;
}

-- the row that takes any coin
abbrev pub unsafe_row : Row
unsafe_row = record {
  number = 7;
  own = 0;
  foreign = 0;
  ancestors = 24;
  descendants = 24;
  partial = true;
  unsafe_too = true;
}

-- the seven rows
abbrev pub rows : List Row
rows =
    confirmed_row 1 6 ∷ confirmed_row 2 1 ∷ pending_row 3 2 false ∷ pending_row 4 4 false ∷ pending_row 5 12 false
    ∷ pending_row 6 24 true ∷ unsafe_row ∷ []

-- the rows of a request: the first two, with pending coins the first six, and with unsafe ones all
abbrev pub ladder_of : Bool → Bool → List Row
ladder_of zero_conf include_unsafe = take (if zero_conf then (if include_unsafe then 7 else 6) else 2) rows

-- whether the numbers of a coin, or of a group of coins, are within the row
abbrev pub reaches : Row → Bool → Bool → ℕ → ℕ → ℕ → Bool
reaches row mine safe depth ancestors descendants =
    nat_le (if mine then row.own else row.foreign) depth && nat_le ancestors row.ancestors && nat_le descendants row.descendants
    && (safe || row.unsafe_too)

-- one coin meets a row
pub record Meets (row : Row) (c : Candidate) : Type 0 where
  pub deep : (if c.mine then row.own else row.foreign) ≤ c.depth
  pub few_ancestors : c.ancestors ≤ row.ancestors
  pub few_descendants : c.descendants ≤ row.descendants
  pub safe_enough : IsTrue c.safe ⊎ IsTrue row.unsafe_too

-- the second row takes what the first one takes, and may take more
pub record IsLaxer (a b : Row) : Type 0 where
  pub own : b.own ≤ a.own
  pub foreign : b.foreign ≤ a.foreign
  pub ancestors : a.ancestors ≤ b.ancestors
  pub descendants : a.descendants ≤ b.descendants
  pub partial : IsTrue a.partial → IsTrue b.partial
  pub unsafe_too : IsTrue a.unsafe_too → IsTrue b.unsafe_too

-- each row is laxer than the one before it
abbrev pub GrowLaxer : List Row → Type 0
GrowLaxer [] = Unit {0}
GrowLaxer (a ∷ []) = Unit {0}
GrowLaxer (a ∷ b ∷ rest) = IsLaxer a b × GrowLaxer (b ∷ rest)
