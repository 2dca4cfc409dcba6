-- What a tree stands for, by what `json` says of it.
use Rattle.std.proofs.Common.{◌≡◌, ℕ, Bool, true, false, cond, ◌&&◌, List, [], ◌∷◌, Option, Some, None, option_map, option_and_then, is_some, Bor, Global, bytes_eq, refl, sym, ap, subst, ◌∙◌, true≢false}
use Rattle.std.proofs.lemmas.Slice.Eq.{bytes_eq-Decides}
use Rattle.std.specs.Prelude.{unwrap_or}
use Rattle.json.specs.Find as finds
use Rattle.json.specs.Json as json
use Rattle.json.specs.Value as trees
use Rattle.json.specs.declared.value.Value.{Value}
use Rattle.serde_json.proofs.Views.{get_member-put, get_member-put_other}
use Rattle.serde_json.specs.Data.{Num, Data, null, number, array, object, Items, item, Members, no_members, put}
use Rattle.serde_json.specs.Find.{get, get_member, as_number, as_u64, as_bool, as_str, as_array, as_object}
use Rattle.serde_json.specs.Read.{number_of, of_json, of_items, of_members}
use Rattle.json_fields.specs.Tree.{data_of, items_data, members_data, is_in_range, are_in_range, have_range, view, items_view}

-- ---- what serde_json reads of it

both : (a b : Bool) → (a && b) ≡ true → (a ≡ true) × (b ≡ true)
both true b e = (refl, e)
both false b e = absurd (true≢false (sym e))

either : {P : Type 0} (a b : Bool) → (a && b) ≡ false → (a ≡ false → P) → (a ≡ true → b ≡ false → P) → P
either true b e first second = second refl e
either false b e first second = first refl

number_taken : (o : Option Num) → is_some o ≡ true → option_map number o ≡ Some (unwrap_or (option_map number o) null)
number_taken None e = absurd (true≢false (sym e))
number_taken (Some n) e = refl

number_refused : (o : Option Num) → is_some o ≡ false → option_map number o ≡ None
number_refused None e = refl
number_refused (Some n) e = absurd (true≢false e)

mutual
  pub taken : (j : json.Json) → is_in_range j ≡ true → of_json j ≡ Some (data_of j)
  taken json.null e = refl
  taken (json.boolean b) e = refl
  taken (json.number s) e = number_taken (number_of s) e
  taken (json.string s) e = refl
  taken (json.array js) e = ap (option_map array) (items_taken js e)
  taken (json.object ms) e = ap (option_map object) (members_taken ms no_members e)

  items_taken : (js : json.Items) → are_in_range js ≡ true → of_items js ≡ Some (items_data js)
  items_taken json.no_items e = refl
  items_taken (json.item j js) e =
      let in_range = both (is_in_range j) (are_in_range js) e in
      ap (option_and_then (λ d. option_map (item d) (of_items js))) (taken j in_range.0) ∙ ap (option_map (item (data_of j))) (items_taken js in_range.1)

  members_taken : (ms : json.Members) (found : Members) → have_range ms ≡ true → of_members ms found ≡ Some (members_data ms found)
  members_taken json.no_members found e = refl
  members_taken (json.member k j ms) found e =
      let in_range = both (is_in_range j) (have_range ms) e in
      ap (option_and_then (λ d. of_members ms (put k d found))) (taken j in_range.0) ∙ members_taken ms (put k (data_of j) found) in_range.1

no_more : (d : Data) (o : Option Items) → o ≡ None → option_map (item d) o ≡ None
no_more d o e = ap (option_map (item d)) e

mutual
  pub refused : (j : json.Json) → is_in_range j ≡ false → of_json j ≡ None
  refused json.null e = absurd (true≢false e)
  refused (json.boolean b) e = absurd (true≢false e)
  refused (json.number s) e = number_refused (number_of s) e
  refused (json.string s) e = absurd (true≢false e)
  refused (json.array js) e = ap (option_map array) (items_refused js e)
  refused (json.object ms) e = ap (option_map object) (members_refused ms no_members e)

  items_refused : (js : json.Items) → are_in_range js ≡ false → of_items js ≡ None
  items_refused json.no_items e = absurd (true≢false e)
  items_refused (json.item j js) e = either (is_in_range j) (are_in_range js) e
      (λ first. ap (option_and_then (λ d. option_map (item d) (of_items js))) (refused j first))
      (λ first rest. ap (option_and_then (λ d. option_map (item d) (of_items js))) (taken j first) ∙ no_more (data_of j) (of_items js) (items_refused js rest))

  members_refused : (ms : json.Members) (found : Members) → have_range ms ≡ false → of_members ms found ≡ None
  members_refused json.no_members found e = absurd (true≢false e)
  members_refused (json.member k j ms) found e = either (is_in_range j) (have_range ms) e
      (λ first. ap (option_and_then (λ d. of_members ms (put k d found))) (refused j first))
      (λ first rest. ap (option_and_then (λ d. of_members ms (put k d found))) (taken j first) ∙ members_refused ms (put k (data_of j) found) rest)

-- ---- the values of one kind

-- the data of a number's text, which is null where the number is too large
abbrev data_or_null : Option Num → Data
data_or_null o = unwrap_or (option_map number o) null

number_u64 : (o : Option Num) → option_and_then as_u64 (as_number (data_or_null o)) ≡ option_and_then as_u64 o
number_u64 None = refl
number_u64 (Some n) = refl

pub u64_in : (j : json.Json) → option_and_then as_u64 (as_number (data_of j)) ≡ option_and_then (λ s. option_and_then as_u64 (number_of s)) (finds.as_number j)
u64_in json.null = refl
u64_in (json.boolean b) = refl
u64_in (json.number s) = number_u64 (number_of s)
u64_in (json.string s) = refl
u64_in (json.array js) = refl
u64_in (json.object ms) = refl

no_bool : (o : Option Num) → as_bool (data_or_null o) ≡ None
no_bool None = refl
no_bool (Some n) = refl

pub bool_in : (j : json.Json) → as_bool (data_of j) ≡ finds.as_bool j
bool_in json.null = refl
bool_in (json.boolean b) = refl
bool_in (json.number s) = no_bool (number_of s)
bool_in (json.string s) = refl
bool_in (json.array js) = refl
bool_in (json.object ms) = refl

no_str : (o : Option Num) → as_str (data_or_null o) ≡ None
no_str None = refl
no_str (Some n) = refl

pub str_in : (j : json.Json) → as_str (data_of j) ≡ finds.as_str j
str_in json.null = refl
str_in (json.boolean b) = refl
str_in (json.number s) = no_str (number_of s)
str_in (json.string s) = refl
str_in (json.array js) = refl
str_in (json.object ms) = refl

no_array : (o : Option Num) → as_array (data_or_null o) ≡ None
no_array None = refl
no_array (Some n) = refl

pub array_in : (j : json.Json) → as_array (data_of j) ≡ option_map items_data (finds.as_array j)
array_in json.null = refl
array_in (json.boolean b) = refl
array_in (json.number s) = no_array (number_of s)
array_in (json.string s) = refl
array_in (json.array js) = refl
array_in (json.object ms) = refl

no_object : (o : Option Num) → as_object (data_or_null o) ≡ None
no_object None = refl
no_object (Some n) = refl

pub object_in : (j : json.Json) → as_object (data_of j) ≡ option_map (λ ms. members_data ms no_members) (finds.as_object j)
object_in json.null = refl
object_in (json.boolean b) = refl
object_in (json.number s) = no_object (number_of s)
object_in (json.string s) = refl
object_in (json.array js) = refl
object_in (json.object ms) = refl

-- the items of a list, one after another
pub items_in : (vs : List (Value Global)) → items_data (trees.items_view vs) ≡ items_view vs
items_in [] = refl
items_in (v ∷ vs) = ap (item (view v)) (items_in vs)

-- the same, behind a reference
pub entries_in : (r : Option (Bor (List (Value Global)))) → option_map (λ vs. items_view vs.now) r ≡ option_map items_data (option_map (λ vs. trees.items_view vs.now) r)
entries_in None = refl
entries_in (Some vs) = ap Some (sym (items_in vs.now))

pub value_in : (r : Option (Bor (Value Global))) → option_map (λ v. view v.now) r ≡ option_map data_of (option_map (λ v. trees.value_view v.now) r)
value_in None = refl
value_in (Some v) = refl

-- ---- the members of an object

-- the value of the text, and else what was found before
abbrev or_before : Option json.Json → Option Data → Option Data
or_before None before = before
or_before (Some j) before = Some (data_of j)

one_more : (name k : List ℕ) (j : json.Json) (later : Option json.Json) (found : Members)
    → or_before later (get_member name (put k (data_of j) found)) ≡ or_before (finds.later_or later (cond (bytes_eq k name) (Some j) None)) (get_member name found)
one_more name k j (Some l) found = refl
one_more name k j None found = by (bytes_eq k name) refl
  where
    by : (b : Bool) → bytes_eq k name ≡ b → get_member name (put k (data_of j) found) ≡ or_before (cond b (Some j) None) (get_member name found)
    by true same = subst (λ q. get_member q (put k (data_of j) found) ≡ Some (data_of j)) ((bytes_eq-Decides k name).0 same) (get_member-put k (data_of j) found)
    by false other = get_member-put_other name k (data_of j) found (λ is. true≢false (sym ((bytes_eq-Decides k name).1 (sym is)) ∙ other))

members_last : (name : List ℕ) (ms : json.Members) (found : Members) → get_member name (members_data ms found) ≡ or_before (finds.get_member name ms) (get_member name found)
members_last name json.no_members found = refl
members_last name (json.member k j ms) found = members_last name ms (put k (data_of j) found) ∙ one_more name k j (finds.get_member name ms) found

or_none : (o : Option json.Json) → or_before o None ≡ option_map data_of o
or_none None = refl
or_none (Some j) = refl

pub last_member : (name : List ℕ) (ms : json.Members) → get_member name (members_data ms no_members) ≡ option_map data_of (finds.get_member name ms)
last_member name ms = members_last name ms no_members ∙ or_none (finds.get_member name ms)

no_member : (name : List ℕ) (o : Option Num) → get name (data_or_null o) ≡ None
no_member name None = refl
no_member name (Some n) = refl

pub member_in : (name : List ℕ) (j : json.Json) → get name (data_of j) ≡ option_map data_of (finds.get name j)
member_in name json.null = refl
member_in name (json.boolean b) = refl
member_in name (json.number s) = no_member name (number_of s)
member_in name (json.string s) = refl
member_in name (json.array js) = refl
member_in name (json.object ms) = last_member name ms
