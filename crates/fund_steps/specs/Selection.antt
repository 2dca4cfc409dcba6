-- Coins in the order of their outpoints, and those that are listed.
use Rattle.std.specs.Prelude.{◌≡◌, List, [], fold, filter, map, find, not, AllPairs, Bool, Option}
use Rattle.std.specs.List.{list_any}
use Rattle.std.specs.BTreeMap.{insert_entry}
use Rattle.std.specs.Map.{values_of}
use Rattle.std.specs.declared.cmp.Ordering.TheVariants.{Less}
use Rattle.fund_base.specs.Outpoints.{same_outpoint, outpoint_cmp}
use Rattle.coin_candidates.specs.declared.candidate.Candidate.{Candidate}
use Rattle.fund_base.specs.declared.outpoint.OutPoint.{OutPoint}

-- coins in the order of their outpoints, no outpoint twice
abbrev pub AreSorted : List Candidate → Type 0
AreSorted coins = AllPairs (λ (a b : Candidate). outpoint_cmp a.coin b.coin ≡ Less) coins

-- the coins by their outpoints, in the order of these; of two coins of one outpoint the later one is taken
unfoldable pub by_outpoint : List Candidate → List (OutPoint × Candidate)
by_outpoint coins = fold (λ entries (c : Candidate). insert_entry outpoint_cmp entries c.coin c) [] coins

-- coins in the order of their outpoints
abbrev pub in_order : List Candidate → List Candidate
in_order coins = values_of (by_outpoint coins)

-- an outpoint is listed
abbrev pub is_listed : List OutPoint → OutPoint → Bool
is_listed points point = list_any (λ p. same_outpoint p point) points

-- a coin is at this outpoint
abbrev pub has_coin : List Candidate → OutPoint → Bool
has_coin coins point = is_listed (map (λ (c : Candidate). c.coin) coins) point

-- the first of the outpoints at which no coin is
abbrev pub first_missing : List Candidate → List OutPoint → Option OutPoint
first_missing coins points = find (λ p. not (has_coin coins p)) points

-- the coins that aren't listed
abbrev pub unlisted : List OutPoint → List Candidate → List Candidate
unlisted points coins = filter (λ c. not (is_listed points c.coin)) coins
