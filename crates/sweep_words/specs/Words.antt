-- The words of a payment of all coins, and the words of `pay` that say the same.
use Rattle.std.specs.Prelude.{ℕ, ◌+◌, ◌==◌, ◌||◌, Bool, false, List, [], ◌∷◌, ◌++◌, bytes_eq, codes, drop, map, position, take, String, string_bytes, Option, Some, None, Result, Ok, Err, if◌then◌else◌}
use Rattle.std.specs.Fmt.{decimal}
use Rattle.std.specs.List.{list_any}
use Rattle.std.specs.declared.alloc.Global.{Global}
use Rattle.hex.specs.Hex.{decode_of as hex_of}
use Rattle.hex.specs.declared.error.FromHexError.{FromHexError}
use Rattle.fee_rates.specs.Output.{dust_of}
use Rattle.base58_addr.specs.Reading.{decode_of as base58_of}
use Rattle.base58_addr.specs.declared.fault.Base58Fault.{Base58Fault}
use Rattle.segwit_addr.specs.Reading.{decode_of}
use Rattle.segwit_addr.specs.declared.fault.AddrFault.{AddrFault}
use Rattle.pay_words.specs.Flags.{flag_word}
use Rattle.pay_words.specs.Payments.{is_equals}
use Rattle.pay_words.specs.declared.flag.Flag.{Flag}
use Rattle.pay_words.specs.declared.flag.Flag.TheVariants as flags

-- ---- words that aren't taken

-- the flags of `pay` that say nothing of a payment of all coins
abbrev pub foreign_flags : List Flag
foreign_flags =
    flags.PayFile
    ∷ flags.Keys
    ∷ flags.LongTerm
    ∷ flags.Discard
    ∷ flags.ChangeTarget
    ∷ flags.Method
    ∷ flags.Coin
    ∷ flags.Tries
    ∷ flags.Seed
    ∷ flags.Bump
    ∷ flags.Log
    ∷ flags.Report
    ∷ flags.Request
    ∷ flags.Group
    ∷ flags.Consolidate
    ∷ flags.FeeFromAmount
    ∷ flags.Stop
    ∷ []

-- the word of one of them
abbrev pub is_foreign : List ℕ → Bool
is_foreign word = list_any (λ f. bytes_eq (flag_word f) word) foreign_flags

-- the place of the first such word
unfoldable pub foreign_at : List (String Global) → Option ℕ
foreign_at words = position (λ w. is_foreign (string_bytes w)) words

-- a recipient stands behind this word
abbrev pub is_payee : List ℕ → Bool
is_payee word = bytes_eq word (flag_word flags.To) || bytes_eq word (flag_word flags.ToScript)

-- the place of the first such word
unfoldable pub payee_at : List (String Global) → Option ℕ
payee_at words = position (λ w. is_payee (string_bytes w)) words

-- so many places further on
abbrev pub further_on : ℕ → Option ℕ → Option ℕ
further_on count None = None
further_on count (Some place) = Some (count + place)

-- behind the first such word
abbrev pub behind_first : List (String Global) → Option ℕ → Option ℕ
behind_first words None = None
behind_first words (Some first) = further_on (first + 1) (payee_at (drop (first + 1) words))

-- the place of the second such word
abbrev pub second_at : List (String Global) → Option ℕ
second_at words = behind_first words (payee_at words)

-- ---- the least that is taken

-- the dust threshold of a script, and nothing of what is none
abbrev pub by_script : Result (List ℕ) AddrFault → ℕ
by_script (Ok script) = dust_of script
by_script (Err e) = 0

-- an address in base58 pays to its script, and another to a witness program
abbrev pub by_base58 : List ℕ → Result (List ℕ) Base58Fault → ℕ
by_base58 text (Ok script) = dust_of script
by_base58 text (Err e) = by_script (decode_of text)

abbrev pub least_to : List ℕ → ℕ
least_to text = by_base58 text (base58_of text)

abbrev pub by_hex : Result (List ℕ) FromHexError → ℕ
by_hex (Ok script) = dust_of script
by_hex (Err e) = 0

abbrev pub least_to_script : List ℕ → ℕ
least_to_script text = by_hex (hex_of text)

-- by the flag before the recipient
abbrev pub least_of : (flag to : List ℕ) → ℕ
least_of flag to = if bytes_eq flag (flag_word flags.To) then least_to to else least_to_script to

-- the first byte is a dash, as that of a flag's word
abbrev pub begins_with_dash : List ℕ → Bool
begins_with_dash [] = false
begins_with_dash (b ∷ rest) = b == 45

-- a recipient with it behind, where no amount stands there
unfoldable pub with_least : (flag to : List ℕ) → List ℕ
with_least flag to = if list_any is_equals to || begins_with_dash to then to else to ++ (61 ∷ decimal (least_of flag to))

-- ---- the words that say the same

-- words that begin with a flag: the recipient behind it has the least that it takes
abbrev pub said_behind : List (String Global) → List (List ℕ)
said_behind (flag ∷ to ∷ rest) = string_bytes flag ∷ with_least (string_bytes flag) (string_bytes to) ∷ map string_bytes rest
said_behind words = map string_bytes words

-- by the place of that flag
abbrev pub said_by : List (String Global) → Option ℕ → List (List ℕ)
said_by words None = map string_bytes words
said_by words (Some place) = map string_bytes (take place words) ++ said_behind (drop place words)

-- the words, in which the first recipient has the least that it takes
abbrev pub said_of : List (String Global) → List (List ℕ)
said_of words = said_by words (payee_at words)
