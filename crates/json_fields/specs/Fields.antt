-- Looking into JSON: each value is what it should be, or the first fault is reported.
use Rattle.std.specs.Prelude.{ℕ, ◌≡◌, ◌<◌, ◌^◌, ◌==◌, Bool, List, [], ◌∷◌, ◌++◌, length, reverse, map, filter, find, fold, not, bytes_eq, nat_lt, nat_le, if◌then◌else◌, Option, Some, None, Result, Ok, Err, is_none, option_and_then, ⊤}
use Rattle.std.specs.Borrow.{Bor}
use Rattle.std.specs.Cmp.Lexicographic.{slice_cmp}
use Rattle.std.specs.List.{list_any, before_first, after_first, position_or_len}
use Rattle.std.specs.Option.{ok_or}
use Rattle.std.specs.Ordering.{nat_cmp, match_ordering}
use Rattle.std.specs.Result.{result_ok, result_unwrap_or}
use Rattle.std.specs.Str.{is_utf8}
use Rattle.hex.specs.Hex.{decode_of, decode_sized}
use Rattle.serde_json.specs.Data.{Data, Items, no_items, item, Members, no_members, member}
use Rattle.serde_json.specs.Read.{read}
use Rattle.serde_json.specs.Find.{get, as_number, as_u64, as_bool, as_str, as_array, as_object}
use Rattle.fund_base.specs.Cursor.{IsBytes}
use Rattle.fund_base.specs.Decimal.{number_of}
use Rattle.fund_base.specs.Parsing.{◌>>=◌}
use Rattle.fund_base.specs.declared.outpoint.OutPoint.{OutPoint}
use Rattle.json_fields.specs.declared.fault.FieldFault.{FieldFault}
use Rattle.json_fields.specs.declared.fault.FieldFault.TheVariants.{NotJson, Kind, Member, Missing}

-- the texts that names refer to
abbrev pub texts : List (Bor (List ℕ)) → List (List ℕ)
texts names = map (λ (n : Bor (List ℕ)). n.now) names

-- refused where there is something
abbrev pub refuse : {A E : Type 0} → (A → E) → Option A → Result ⊤ E
refuse fault None = Ok tt
refuse fault (Some x) = Err (fault x)

-- the value that the bytes are, where serde_json takes them
unfoldable pub parsed : List ℕ → Option Data
parsed bytes = if is_utf8 bytes then read bytes else None

unfoldable pub value_of : List ℕ → Result Data FieldFault
value_of bytes = ok_or (parsed bytes) NotJson

-- the names of the members
abbrev pub names_of : Members → List (List ℕ)
names_of no_members = []
names_of (member name d ms) = name ∷ names_of ms

abbrev pub is_among : List (List ℕ) → List ℕ → Bool
is_among names name = list_any (bytes_eq name) names

-- the names that aren't known
abbrev pub unknown_in : List (List ℕ) → Members → List (List ℕ)
unknown_in known ms = filter (λ name. not (is_among known name)) (names_of ms)

-- of two names the lesser by bytes
abbrev pub lesser : List ℕ → List ℕ → List ℕ
lesser a b = match_ordering (slice_cmp nat_cmp a b) a a b

-- the least name by bytes
abbrev pub least : List (List ℕ) → Option (List ℕ)
least [] = None
least (name ∷ names) = Some (fold lesser name names)

-- the first of the required names that no member has
abbrev pub first_missing : List (List ℕ) → Data → Option (List ℕ)
first_missing required d = find (λ name. is_none (get name d)) required

-- An object: it is one, its members are known, and it has the required ones.
unfoldable pub object_at : List ℕ → List (List ℕ) → List (List ℕ) → Data → Result ⊤ FieldFault
object_at whole known required d = do
  ms ← ok_or (as_object d) (Kind whole)
  all_known ← refuse Member (least (unknown_in known ms))
  refuse Missing (first_missing required d)

-- the member of a name
unfoldable pub member_at : List ℕ → Data → Result Data FieldFault
member_at name d = ok_or (get name d) (Missing name)

-- a member that may be left out
abbrev pub optional : {A E : Type 0} → A → (Data → Result A E) → Option Data → Result A E
optional default reading None = Ok default
optional default reading (Some d) = reading d

-- a whole number from 0 to most
unfoldable pub number_at : List ℕ → ℕ → Data → Result ℕ FieldFault
number_at name most d = do
  n ← ok_or (option_and_then as_u64 (as_number d)) (Kind name)
  if nat_le n most then Ok n else Err (Kind name)

-- a truth value
abbrev pub flag_at : List ℕ → Data → Result Bool FieldFault
flag_at name d = ok_or (as_bool d) (Kind name)

-- the text of a string
abbrev pub text_at : List ℕ → Data → Result (List ℕ) FieldFault
text_at name d = ok_or (as_str d) (Kind name)

-- the entries of a list
abbrev pub entries_at : List ℕ → Data → Result Items FieldFault
entries_at name d = ok_or (as_array d) (Kind name)

-- bytes in hex
unfoldable pub hex_at : List ℕ → Data → Result (List ℕ) FieldFault
hex_at name d = do
  text ← text_at name d
  ok_or (result_ok (decode_of text)) (Kind name)

-- the bytes that a text spells in hex, none where it spells none
abbrev pub spelled_in : List ℕ → List ℕ
spelled_in text = result_unwrap_or (decode_of text) []

-- a hash of 32 bytes, which text shows in hex with its bytes reversed
unfoldable pub hash_in : List ℕ → Option (List ℕ)
hash_in text = option_and_then (λ bytes. Some (reverse bytes)) (result_ok (decode_sized text 32))

unfoldable pub hash_at : List ℕ → Data → Result (List ℕ) FieldFault
hash_at name d = do
  text ← text_at name d
  ok_or (hash_in text) (Kind name)

-- 32 bytes
pub record IsHash (hash : List ℕ) : Type 0 where
  pub len : length hash ≡ 32
  pub bytes : IsBytes hash

-- a txid of 32 bytes, and an index of 32 bits
pub record IsPoint (p : OutPoint) : Type 0 where
  pub txid : IsHash p.txid
  pub index : p.index < 2 ^ 32

-- an output, by its txid as text shows it and its index in decimal
unfoldable pub point_in : List ℕ → List ℕ → Option OutPoint
point_in txid index = option_and_then (λ hash. option_and_then (λ n. Some (record { txid = hash; index = n })) (number_of 4294967295 index)) (hash_in txid)

-- the two with a colon between them
unfoldable pub coin_in : List ℕ → Option OutPoint
coin_in text = if nat_lt (position_or_len (λ b. b == 58) text) (length text) then point_in (before_first (λ b. b == 58) text) (after_first (λ b. b == 58) text) else None

unfoldable pub coin_at : List ℕ → Data → Result OutPoint FieldFault
coin_at name d = do
  text ← text_at name d
  ok_or (coin_in text) (Kind name)

-- The entries of a list in order, each read after those before it.
unfoldable pub each_from : {A E : Type 0} → (List A → Data → Result A E) → List A → Items → Result (List A) E
each_from reading front no_items = Ok front
each_from reading front (item d ds) = do
  x ← reading front d
  each_from reading (front ++ x ∷ []) ds
