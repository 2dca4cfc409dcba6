-- What the words behind flags spell.
use Rattle.std.specs.Prelude.{ℕ, Bool, List, [], String, string_bytes, Option, is_some, option_map, Result, Ok, slice_get}
use Rattle.std.specs.Option.{ok_or, option_map_or}
use Rattle.std.specs.Result.{result_ok}
use Rattle.std.specs.declared.alloc.Global.{Global}
use Rattle.hex.specs.Hex.{decode_sized}
use Rattle.json_fields.specs.Fields.{hash_in}
use Rattle.request_making.specs.Spelled.{spelled}
use Rattle.request_making.specs.declared.unit.Kind.TheVariants as kinds
use Rattle.fund_base.specs.Decimal.{number_of}
use Rattle.fund_base.specs.Parsing.{◌>>=◌, fault_as}
use Rattle.request_text.specs.RequestText.{method_in}
use Rattle.request_text.specs.declared.request.Method.{Method}
use Rattle.pay_words.specs.Given.{flags_in, place_of}
use Rattle.pay_words.specs.declared.fault.WordFault.{WordFault}
use Rattle.pay_words.specs.declared.fault.WordFault.TheVariants as faults
use Rattle.pay_words.specs.declared.flag.Flag.{Flag}
use Rattle.pay_words.specs.declared.given.Given.{Given}

-- the word at a place, the empty one where there is none
abbrev pub word_at : List (String Global) → ℕ → List ℕ
word_at words place = option_map_or string_bytes (slice_get words place) []

-- the flag is given
abbrev pub has : List Given → Flag → Bool
has given flag = is_some (place_of given flag)

-- the word behind the flag
abbrev pub text_of : List (String Global) → List Given → Flag → Option (List ℕ)
text_of words given flag = option_map (word_at words) (place_of given flag)

-- the value of a flag, by the words alone
unfoldable pub value_in : Flag → List (String Global) → Result (Option (List ℕ)) WordFault
value_in flag words = flags_in words >>= λ given. Ok (text_of words given flag)

-- an amount in satoshi, at most 21,000,000 bitcoin
abbrev pub amount_at : ℕ → List ℕ → Result ℕ WordFault
amount_at place text = fault_as (faults.Amount place) (spelled kinds.Amount 2_100_000_000_000_000 text)

-- a rate in satoshi per 1,000 virtual bytes, at most 100,000,000
abbrev pub rate_at : ℕ → List ℕ → Result ℕ WordFault
rate_at place text = fault_as (faults.Rate place) (spelled kinds.Rate 100_000_000 text)

-- a number of 64 bits
abbrev pub number_at : ℕ → List ℕ → Result ℕ WordFault
number_at place text = ok_or (number_of 18_446_744_073_709_551_615 text) (faults.Number place)

-- a lock time of 32 bits
abbrev pub locktime_at : ℕ → List ℕ → Result ℕ WordFault
locktime_at place text = ok_or (number_of 4_294_967_295 text) (faults.LockTime place)

-- a txid, which text shows in hex with its bytes reversed
abbrev pub txid_at : ℕ → List ℕ → Result (List ℕ) WordFault
txid_at place text = ok_or (hash_in text) (faults.Txid place)

-- a method
abbrev pub method_at : ℕ → List ℕ → Result Method WordFault
method_at place text = ok_or (method_in text) (faults.Method place)

-- 32 bytes in hex
abbrev pub seed_at : ℕ → List ℕ → Result (List ℕ) WordFault
seed_at place text = ok_or (result_ok (decode_sized text 32)) (faults.Seed place)
