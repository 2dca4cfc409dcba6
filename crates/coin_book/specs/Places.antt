-- How what spends an outpoint is kept: each spend once, and its place under the outpoints that it spends.
use Rattle.std.specs.Prelude.{ℕ, ◌≡◌, ◌<◌, true, is_some, List, [], length, map, flat_map, slice_get, Vec, if◌then◌else◌}
use Rattle.std.specs.Map.{lookup}
use Rattle.std.specs.Option.{IfSome, option_map_or, option_to_list}
use Rattle.std.specs.declared.alloc.Global.{Global}
use Rattle.fund_base.specs.Outpoints.{same_outpoint}
use Rattle.fund_base.specs.declared.outpoint.OutPoint.{OutPoint}
use Rattle.coin_book.specs.declared.coin.Spend.{Spend}

-- the spends of an outpoint, where these are outpoints with what spends each
abbrev pub spends_in : List (OutPoint × List Spend) → OutPoint → List Spend
spends_in entries o = option_map_or (λ (l : List Spend). l) (lookup (same_outpoint o) entries) []

-- all spends of an outpoint in the entries under it
abbrev pub all_in : List (OutPoint × List Spend) → OutPoint → List Spend
all_in entries o = flat_map (λ (e : OutPoint × List Spend). if same_outpoint e.0 o then e.1 else []) entries

-- the list under an outpoint, or else another one
abbrev pub list_at : List (OutPoint × Vec Spend Global) → OutPoint → List Spend → List Spend
list_at lists o other = option_map_or (λ (v : Vec Spend Global). v.items) (lookup (same_outpoint o) lists) other

-- The spends of an outpoint that has this place: those of its list, and where it has none the one at the place.
abbrev pub found_at : List Spend → List (OutPoint × Vec Spend Global) → OutPoint → ℕ → List Spend
found_at all lists o place = list_at lists o (option_to_list (slice_get all place))

-- each outpoint that has a place, with its spends
abbrev pub shown : List Spend → List (OutPoint × ℕ) → List (OutPoint × Vec Spend Global) → List (OutPoint × List Spend)
shown all places lists = map (λ (e : OutPoint × ℕ). (e.0, found_at all lists e.0 e.1)) places

-- a spend stands at each place, and an outpoint that has a list has a place
pub record AreKept (all : List Spend) (places : List (OutPoint × ℕ)) (lists : List (OutPoint × Vec Spend Global)) : Type 0 where
  pub within : (o : OutPoint) → IfSome (lookup (same_outpoint o) places) (λ (place : ℕ). place < length all)
  pub under : (o : OutPoint) → is_some (lookup (same_outpoint o) lists) ≡ true → is_some (lookup (same_outpoint o) places) ≡ true
