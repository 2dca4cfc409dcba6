-- The value that a tree of a JSON text stands for: that which `serde_json` reads of the text.
use Rattle.std.specs.Prelude.{ℕ, Bool, true, ◌&&◌, List, map, Option, Some, None, option_map, unwrap_or, is_some}
use Rattle.std.specs.declared.alloc.Global.{Global}
use Rattle.json.specs.Json as json
use Rattle.json.specs.Value.{value_view}
use Rattle.json.specs.declared.value.Value.{Value}
use Rattle.serde_json.specs.Data.{Data, null, boolean, number, string, array, object, Items, no_items, item, Members, no_members, put}
use Rattle.serde_json.specs.Read.{number_of}
use Rattle.serde_json.specs.View.{items_of}
use Rattle.json_fields.specs.Fields.{lesser}

-- the number that a text writes, and null where it is too large for any
abbrev pub number_data : List ℕ → Data
number_data s = unwrap_or (option_map number (number_of s)) null

-- The members go in one after another, so the last value of a name stays.
abbrev mutual
  pub data_of : json.Json → Data
  data_of json.null = null
  data_of (json.boolean b) = boolean b
  data_of (json.number s) = number_data s
  data_of (json.string s) = string s
  data_of (json.array js) = array (items_data js)
  data_of (json.object ms) = object (members_data ms no_members)

  pub items_data : json.Items → Items
  items_data json.no_items = no_items
  items_data (json.item j js) = item (data_of j) (items_data js)

  pub members_data : json.Members → Members → Members
  members_data json.no_members found = found
  members_data (json.member k j ms) found = members_data ms (put k (data_of j) found)

-- no number is too large
abbrev mutual
  pub is_in_range : json.Json → Bool
  is_in_range json.null = true
  is_in_range (json.boolean b) = true
  is_in_range (json.number s) = is_some (number_of s)
  is_in_range (json.string s) = true
  is_in_range (json.array js) = are_in_range js
  is_in_range (json.object ms) = have_range ms

  pub are_in_range : json.Items → Bool
  are_in_range json.no_items = true
  are_in_range (json.item j js) = is_in_range j && are_in_range js

  -- of the members' values
  pub have_range : json.Members → Bool
  have_range json.no_members = true
  have_range (json.member k j ms) = is_in_range j && have_range ms

abbrev pub view : Value Global → Data
view v = data_of (value_view v)

abbrev pub items_view : List (Value Global) → Items
items_view vs = items_of (map view vs)

-- of a name and the least before it, the lesser by bytes
abbrev pub lesser_than : Option (List ℕ) → List ℕ → List ℕ
lesser_than None name = name
lesser_than (Some other) name = lesser other name
