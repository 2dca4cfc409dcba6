-- What an object is reported of, without the order in which it is found out.
use Rattle.std.specs.Prelude.{ℕ, ◌≡◌, ◌≢◌, ◌<◌, ◌+◌, ◌*◌, ◌^◌, ◌⊎◌, List, [], ◌∷◌, ◌++◌, length, get_or, slice_index, take, codes, Option, Some, None, Result, Ok, Err, Contains, if◌then◌else◌, option_and_then, bytes_eq}
use Rattle.std.specs.Cmp.Lexicographic.{slice_cmp}
use Rattle.std.specs.Fmt.{decimal}
use Rattle.std.specs.Option.{option_or}
use Rattle.std.specs.Result.{result_err, result_unwrap_or}
use Rattle.std.specs.Ordering.{nat_cmp}
use Rattle.std.specs.declared.cmp.Ordering.TheVariants.{Less}
use Rattle.json.specs.Json as json
use Rattle.json.specs.Lex.{tokens}
use Rattle.serde_json.specs.Data.{Data, string, object, Members}
use Rattle.serde_json.specs.Read.{max_depth}
use Rattle.fund_base.specs.declared.outpoint.OutPoint.{OutPoint}
use Rattle.json_fields.specs.Fields.{names_of, hash_in, optional}

-- the value is an object, of whose members this holds
abbrev pub HasMembers : Data → (Members → Type 0) → Type 0
HasMembers d P = (ms : Members) × (d ≡ object ms) × P ms

-- each member is known
abbrev pub AreKnown : List (List ℕ) → Members → Type 0
AreKnown known ms = (name : List ℕ) → Contains (names_of ms) name → Contains known name

-- each required name has a member
abbrev pub HasAll : List (List ℕ) → Members → Type 0
HasAll required ms = (name : List ℕ) → Contains required name → Contains (names_of ms) name

-- a member has this name, which isn't known, and no unknown name is less by bytes
pub record IsLeastUnknown (known : List (List ℕ)) (ms : Members) (name : List ℕ) : Type 0 where
  pub stands : Contains (names_of ms) name
  pub unknown : ¬ Contains known name
  pub least : (other : List ℕ) → Contains (names_of ms) other → ¬ Contains known other → slice_cmp nat_cmp other name ≢ Less

-- no member has this required name, and those that are required before it have one
pub record IsFirstMissing (required : List (List ℕ)) (ms : Members) (name : List ℕ) : Type 0 where
  pub front : List (List ℕ)
  pub back : List (List ℕ)
  pub parts : required ≡ front ++ name ∷ back
  pub there : HasAll front ms
  pub lacks : ¬ Contains (names_of ms) name

-- the JSON text that the bytes are, in which a name may stand more than once
abbrev pub text_of : List ℕ → Option json.Json
text_of bytes = option_and_then (λ p. json.if_last p.0 p.1) (json.value max_depth (tokens bytes))

-- the last value of a name, in the order of the text
abbrev pub last_value : List ℕ → json.Members → Option json.Json
last_value name json.no_members = None
last_value name (json.member k j ms) = option_or (last_value name ms) (if bytes_eq name k then Some j else None)

-- the letter is the hexadecimal digit of this value, in either case
abbrev pub IsHexDigit : ℕ → ℕ → Type 0
IsHexDigit letter value = (value < 16) × ((letter ≡ slice_index (codes "0123456789abcdef") value) ⊎ (letter ≡ slice_index (codes "0123456789ABCDEF") value))

-- two letters that are the digits of a byte, the first for its sixteens
pub record IsHexByte (first second byte : ℕ) : Type 0 where
  pub high : ℕ
  pub low : ℕ
  pub sixteens : IsHexDigit first high
  pub ones : IsHexDigit second low
  pub value : byte ≡ 16 * high + low

-- a text that spells bytes in hex: two letters for each, in their order
pub record IsHexOf (text bytes : List ℕ) : Type 0 where
  pub len : length text ≡ 2 * length bytes
  pub each : (k : ℕ) → k < length bytes → IsHexByte (slice_index text (2 * k)) (slice_index text (2 * k + 1)) (slice_index bytes k)

-- a string that does so
abbrev pub IsHexString : Data → List ℕ → Type 0
IsHexString d bytes = (text : List ℕ) × (d ≡ string text) × IsHexOf text bytes

-- a coin: the digits of its txid, a colon, and its index in decimal
pub record IsCoinText (text : List ℕ) (c : OutPoint) : Type 0 where
  pub front : List ℕ
  pub hash : hash_in front ≡ Some c.txid
  pub index : c.index < 2 ^ 32
  pub whole : text ≡ front ++ 58 ∷ decimal c.index

-- each of these was read of the entry at its place, after those before it
abbrev pub AreRead : {A E : Type 0} → (List A → Data → Result A E) → List Data → List A → Type 0
AreRead {A} reading ds xs = (k : ℕ) (d : Data) (x : A) → k < length xs → reading (take k xs) (get_or ds k d) ≡ Ok (get_or xs k x)

-- the entry at the place after these is refused, and these were read of the entries before it
pub record IsFirstRefused {A E : Type 0} (reading : List A → Data → Result A E) (ds : List Data) (fault : E) : Type 0 where
  pub before : List A
  pub within : length before < length ds
  pub each : AreRead reading ds before
  pub here : (d : Data) → reading before (get_or ds (length before) d) ≡ Err fault

-- what is wrong with a member by itself, nothing where it is left out
abbrev pub wrong : {A E : Type 0} → (Data → Result A E) → Option Data → Option E
wrong reading o = option_and_then (λ d. result_err (reading d)) o

-- what a member says by itself, and a default where it is left out or wrong
abbrev pub said : {A E : Type 0} → A → (Data → Result A E) → Option Data → A
said default reading o = result_unwrap_or (optional default reading o) default

-- the first that there is
abbrev pub first_some : {E : Type 0} → List (Option E) → Option E
first_some [] = None
first_some (None ∷ others) = first_some others
first_some (Some x ∷ others) = Some x
