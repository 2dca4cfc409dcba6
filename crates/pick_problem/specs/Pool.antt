-- The items of a pool, in its order.
use Rattle.std.specs.Prelude.{◌≡◌, ℕ, ◌<◌, ◌≤◌, ◌⊎◌, List, length, pos, neg_ℤ, ◌≤ℤ◌, All, slice_index_or}
use Rattle.std.specs.List.{AllAdjacentBelow}
use Rattle.pick_problem.specs.declared.item.Item.{Item}

-- an item's numbers are in their ranges: values up to 100 times all bitcoin, in satoshi, weights in weight units
pub record IsItem (x : Item) : Type 0 where
  pub value : (1 ≤ x.value) × (x.value ≤ 210_000_000_000_000_000)
  pub weight : (1 ≤ x.weight) × (x.weight ≤ 40_000_000)
  pub cost : (neg_ℤ (pos 10_000_000_000_000) ≤ℤ x.cost) × (x.cost ≤ℤ pos 1_000_000_000_000_000_000)

-- one item may stand before another: value falling, then weight rising, then cost rising
abbrev pub IsInOrder : Item → Item → Type 0
IsInOrder x y = (y.value < x.value) ⊎ ((x.value ≡ y.value) × ((x.weight < y.weight) ⊎ ((x.weight ≡ y.weight) × (x.cost ≤ℤ y.cost))))

-- the items of a pool
pub record AreItems (items : List Item) : Type 0 where
  pub few : length items ≤ 10_000
  pub each : All IsItem items
  pub order : AllAdjacentBelow IsInOrder items (length items)

abbrev pub no_item : Item
no_item = record { value = 0; weight = 0; cost = pos 0 }

-- the item at a place
abbrev pub item_at : List Item → ℕ → Item
item_at items place = slice_index_or items place no_item
