-- The request file: the request that a JSON value is, or the first fault.
use Rattle.std.specs.Prelude.{ℕ, ◌==◌, nat_lt, min, Bool, true, false, ◌||◌, List, [], ◌∷◌, ◌++◌, length, bytes_eq, codes, replicate, if◌then◌else◌, Option, Some, None, Result, Ok, Err, is_some, option_and_then, ⊤}
use Rattle.std.specs.List.{list_any}
use Rattle.std.specs.Option.{ok_or, option_map_or}
use Rattle.std.specs.Result.{result_ok}
use Rattle.hex.specs.Hex.{decode_sized}
use Rattle.serde_json.specs.Data.{Data}
use Rattle.serde_json.specs.Find.{get, as_str}
use Rattle.fund_base.specs.Outpoints.{same_outpoint}
use Rattle.fund_base.specs.Parsing.{◌>>=◌, fault_as}
use Rattle.fund_base.specs.declared.outpoint.OutPoint.{OutPoint}
use Rattle.fee_rates.specs.Output.{dust_of}
use Rattle.segwit_addr.specs.Reading.{decode_of}
use Rattle.json_fields.specs.Fields.{value_of, object_at, member_at, optional, number_at, flag_at, text_at, entries_at, hex_at, hash_at, coin_at, each_from}
use Rattle.json_fields.specs.declared.fault.FieldFault.{FieldFault}
use Rattle.json_fields.specs.declared.fault.FieldFault.TheVariants.{Kind}
use Rattle.request_text.specs.PlainRequest.{PlainRequest, draws, paid_to}
use Rattle.request_text.specs.declared.fault.Refusal.{Refusal}
use Rattle.request_text.specs.declared.fault.Refusal.TheVariants.{Field, Address, Script, AmountRange, Dust, SumRange, NoRecipients, RateRange, TriesRange, Repeat}
use Rattle.request_text.specs.declared.request.Method.{Method}
use Rattle.request_text.specs.declared.request.Method.TheVariants.{Auto, Changeless, Weight, Draw, Manual}
use Rattle.request_text.specs.declared.request.Recipient.{Recipient}

-- a fault that any JSON file may have
abbrev pub field : {A : Type 0} → Result A FieldFault → Result A Refusal
field read = fault_as Field read

-- a place as an index of 32 bits: a greater one counts as the greatest
abbrev pub index_of : ℕ → ℕ
index_of place = min place 4_294_967_295

-- a whole number of 64 bits
abbrev pub whole_at : List ℕ → Data → Result ℕ Refusal
whole_at name d = field (number_at name 18_446_744_073_709_551_615 d)

-- ---- Recipients

-- there is exactly one of the two, an address or a script
abbrev pub one_of : Option Data → Option Data → Result ⊤ FieldFault
one_of (Some address) None = Ok tt
one_of None (Some script) = Ok tt
one_of (Some address) (Some script) = Err (Kind (codes "recipients"))
one_of None None = Err (Kind (codes "recipients"))

-- the amount of an entry
abbrev pub amount_at : Data → Result ℕ Refusal
amount_at d = field (member_at (codes "amount") d) >>= whole_at (codes "amount")

-- what is paid to a script, by the recipient at an index
unfoldable pub paid_at : ℕ → List ℕ → ℕ → Result Recipient Refusal
paid_at index script amount =
    if nat_lt 2_100_000_000_000_000 amount then Err (AmountRange index)
    else if nat_lt amount (dust_of script) then Err (Dust index)
    else Ok (record { script = script; amount = amount })

-- an entry that names an address
unfoldable pub to_address_at : ℕ → Data → Data → Result Recipient Refusal
to_address_at index address d = do
  text ← field (text_at (codes "address") address)
  amount ← amount_at d
  script ← fault_as (Address index) (decode_of text)
  paid_at index script amount

-- an entry that spells its script, of 1 to 10,000 bytes
unfoldable pub to_script_at : ℕ → Data → Result Recipient Refusal
to_script_at index d = do
  spelled ← field (member_at (codes "script") d)
  script ← field (hex_at (codes "script") spelled)
  amount ← amount_at d
  if length script == 0 || nat_lt 10_000 (length script) then Err (Script index) else paid_at index script amount

-- the names of an entry's members
abbrev pub entry_names : List (List ℕ)
entry_names = codes "address" ∷ codes "script" ∷ codes "amount" ∷ []

abbrev pub entry_required : List (List ℕ)
entry_required = codes "amount" ∷ []

-- an entry after others
unfoldable pub recipient_behind : List Recipient → Data → Result Recipient Refusal
recipient_behind before d = do
  one ← field (one_of (get (codes "address") d) (get (codes "script") d))
  whole ← field (object_at (codes "recipients") entry_names entry_required d)
  option_map_or (λ address. to_address_at (index_of (length before)) address d) (get (codes "address") d) (to_script_at (index_of (length before)) d)

-- the entries: at least one, and all together at most 21,000,000 bitcoin
unfoldable pub recipients_at : Data → Result (List Recipient) Refusal
recipients_at d = do
  entries ← field (entries_at (codes "recipients") d)
  recipients ← each_from recipient_behind [] entries
  if length recipients == 0 then Err NoRecipients else if nat_lt 2_100_000_000_000_000 (paid_to recipients) then Err SumRange else Ok recipients

-- ---- The other members

-- a rate of at most 100,000,000 satoshi per 1,000 virtual bytes
unfoldable pub rate_at : List ℕ → Data → Result ℕ Refusal
rate_at name d = do
  rate ← whole_at name d
  if nat_lt 100_000_000 rate then Err (RateRange name) else Ok rate

-- the method that a word names
unfoldable pub method_in : List ℕ → Option Method
method_in word =
    if bytes_eq word (codes "auto") then Some Auto
    else if bytes_eq word (codes "changeless") then Some Changeless
    else if bytes_eq word (codes "weight") then Some Weight
    else if bytes_eq word (codes "draw") then Some Draw
    else if bytes_eq word (codes "manual") then Some Manual
    else None

unfoldable pub method_at : Data → Result Method FieldFault
method_at d = do
  word ← text_at (codes "method") d
  ok_or (method_in word) (Kind (codes "method"))

-- 32 bytes in hex, in the order in which they are spelled
unfoldable pub seed_at : Data → Result (List ℕ) FieldFault
seed_at d = do
  text ← text_at (codes "seed") d
  ok_or (result_ok (decode_sized text 32)) (Kind (codes "seed"))

-- 1 to 10,000,000 tries
unfoldable pub tries_at : Data → Result ℕ Refusal
tries_at d = do
  tries ← whole_at (codes "tries") d
  if tries == 0 || nat_lt 10_000_000 tries then Err TriesRange else Ok tries

-- whether what has been found is taken when the tries are used up
unfoldable pub take_in : List ℕ → Option Bool
take_in word =
    if bytes_eq word (codes "take") then Some true
    else if bytes_eq word (codes "stop") then Some false
    else None

unfoldable pub take_at : Data → Result Bool FieldFault
take_at d = do
  word ← text_at (codes "when_unfinished") d
  ok_or (take_in word) (Kind (codes "when_unfinished"))

-- The place of the first coin that stands before it too, be it in front of the list or in it.
unfoldable pub repeat_behind : List OutPoint → List OutPoint → Option ℕ
repeat_behind front [] = None
repeat_behind front (coin ∷ coins) =
    if list_any (same_outpoint coin) front then Some (length front) else repeat_behind (front ++ coin ∷ []) coins

-- a list of distinct coins is one
abbrev pub distinct_at : List OutPoint → Option ℕ → Result (List OutPoint) Refusal
distinct_at coins None = Ok coins
distinct_at coins (Some place) = Err (Repeat (index_of place))

-- coins, none of them twice
unfoldable pub coins_at : Data → Result (List OutPoint) Refusal
coins_at d = do
  entries ← field (entries_at (codes "coins") d)
  coins ← field (each_from (λ _. coin_at (codes "coins")) [] entries)
  distinct_at coins (repeat_behind [] coins)

-- the txid of a pending transaction
abbrev pub bump_at : Data → Result (Option (List ℕ)) FieldFault
bump_at d = hash_at (codes "bump") d >>= λ txid. Ok (Some txid)

-- the version of the PSBT that is written: 0 or 2
unfoldable pub version_at : Data → Result ℕ FieldFault
version_at d = do
  version ← number_at (codes "psbt") 4_294_967_295 d
  if version == 0 || version == 2 then Ok version else Err (Kind (codes "psbt"))

-- ---- The whole

-- the names of the members but for coins
abbrev pub names_but_coins : List (List ℕ)
names_but_coins =
    codes "recipients" ∷ codes "rate" ∷ codes "long_term" ∷ codes "discard" ∷ codes "change_target" ∷ codes "method" ∷ codes "seed"
    ∷ codes "tries" ∷ codes "when_unfinished" ∷ codes "zero_conf" ∷ codes "include_unsafe" ∷ codes "group" ∷ codes "bump"
    ∷ codes "replaceable" ∷ codes "locktime" ∷ codes "psbt" ∷ []

-- the names that members may have: coins isn't one of them beside a bump
unfoldable pub known_in : Data → List (List ℕ)
known_in d = if is_some (get (codes "bump") d) then names_but_coins else codes "coins" ∷ names_but_coins

-- the member method is left out, or names a method that draws
unfoldable pub needs_seed : Data → Bool
needs_seed d = option_map_or (λ m. option_map_or draws (option_and_then method_in (as_str m)) false) (get (codes "method") d) true

-- the members that have to be there
unfoldable pub required_in : Data → List (List ℕ)
required_in d =
    if needs_seed d then codes "recipients" ∷ codes "rate" ∷ codes "seed" ∷ []
    else codes "recipients" ∷ codes "rate" ∷ []

-- a member that may be left out
abbrev pub or_else : {A : Type 0} → A → (Data → Result A Refusal) → List ℕ → Data → Result A Refusal
or_else default reading name d = optional default reading (get name d)

-- The request that a value is, or the first fault.
unfoldable pub request_at : Data → Result PlainRequest Refusal
request_at d = do
  whole ← field (object_at (codes "root") (known_in d) (required_in d) d)
  recipients ← field (member_at (codes "recipients") d) >>= recipients_at
  rate ← field (member_at (codes "rate") d) >>= rate_at (codes "rate")
  long_term ← or_else 10_000 (rate_at (codes "long_term")) (codes "long_term") d
  discard ← or_else 10_000 (rate_at (codes "discard")) (codes "discard") d
  change_target ← or_else 50_000 (λ m. field (number_at (codes "change_target") 2_100_000_000_000_000 m)) (codes "change_target") d
  method ← or_else Auto (λ m. field (method_at m)) (codes "method") d
  seed ← or_else (replicate 32 0) (λ m. field (seed_at m)) (codes "seed") d
  tries ← or_else 100_000 tries_at (codes "tries") d
  take ← or_else true (λ m. field (take_at m)) (codes "when_unfinished") d
  zero_conf ← or_else true (λ m. field (flag_at (codes "zero_conf") m)) (codes "zero_conf") d
  include_unsafe ← or_else false (λ m. field (flag_at (codes "include_unsafe") m)) (codes "include_unsafe") d
  group ← or_else false (λ m. field (flag_at (codes "group") m)) (codes "group") d
  coins ← or_else [] coins_at (codes "coins") d
  bump ← or_else None (λ m. field (bump_at m)) (codes "bump") d
  replaceable ← or_else true (λ m. field (flag_at (codes "replaceable") m)) (codes "replaceable") d
  locktime ← or_else 0 (λ m. field (number_at (codes "locktime") 4_294_967_295 m)) (codes "locktime") d
  psbt ← or_else 0 (λ m. field (version_at m)) (codes "psbt") d
  Ok (record {
    recipients = recipients;
    rate = rate;
    long_term = long_term;
    discard = discard;
    change_target = change_target;
    method = method;
    seed = seed;
    tries = tries;
    take = take;
    zero_conf = zero_conf;
    include_unsafe = include_unsafe;
    group = group;
    coins = coins;
    bump = bump;
    replaceable = replaceable;
    locktime = locktime;
    psbt = psbt;
  })

-- the request that the bytes of a file are, or the first fault
unfoldable pub request_of : List ℕ → Result PlainRequest Refusal
request_of bytes = do
  d ← field (value_of bytes)
  request_at d
