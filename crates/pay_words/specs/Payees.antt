-- To whom is paid, and to whom a text pays that is given as an address.
use Rattle.std.specs.Prelude.{ℕ, ◌==◌, ◌&&◌, ◌||◌, nat_le, Bool, true, false, List, [], ◌∷◌, length, map, take, bytes_eq, codes, string_bytes, Option, Some, None, Result, Ok, Err, if◌then◌else◌}
use Rattle.std.specs.Char.{to_ascii_lowercase}
use Rattle.base58_addr.specs.Base58.{other_letter}
use Rattle.base58_addr.specs.Reading.{decode_of}
use Rattle.base58_addr.specs.declared.fault.Base58Fault.{Base58Fault}
use Rattle.base58_addr.specs.declared.fault.Base58Fault.TheVariants as base58
use Rattle.request_making.specs.declared.payment.Payee.{Payee}
use Rattle.request_making.specs.declared.payment.Payee.TheVariants as payees
use Rattle.pay_words.specs.declared.address.Network.{Network}
use Rattle.pay_words.specs.declared.address.Network.TheVariants as networks
use Rattle.pay_words.specs.declared.fault.WordFault.{WordFault}
use Rattle.pay_words.specs.declared.fault.WordFault.TheVariants as faults

-- to whom is paid: an address as it was given, or a script
pub data PlainPayee : Type 0 where
  Address : List ℕ → PlainPayee
  Script : List ℕ → PlainPayee

abbrev pub plain_payee : Payee → PlainPayee
plain_payee (payees.Address text) = Address (string_bytes text)
plain_payee (payees.Script script) = Script script

-- the text begins with this word of lower-case letters, in letters of either case
abbrev pub begins : List ℕ → List ℕ → Bool
begins word text = nat_le (length word) (length text) && bytes_eq (map to_ascii_lowercase (take (length word) text)) word

-- the other network that a text is an address of, by its beginning
unfoldable pub foreign_in : List ℕ → Option Network
foreign_in text =
    if begins (codes "ltc1") text then Some networks.Litecoin
    else if begins (codes "0x") text then Some networks.Ethereum
    else None

-- Addresses in base58 begin with `1` or `3`, and on test networks with `m`, `n` or `2`.
abbrev pub is_front : ℕ → Bool
is_front c = (c == 49) || (c == 51) || (c == 109) || (c == 110) || (c == 50)

abbrev pub begins_as_base58 : List ℕ → Bool
begins_as_base58 [] = false
begins_as_base58 (c ∷ rest) = is_front c

-- what is wrong with a text is its version alone
abbrev pub is_version : Base58Fault → Bool
is_version base58.Version = true
is_version _ = false

-- why a text is no address in base58: its first letter that base58 hasn't, or the first fault of the whole
abbrev pub base58_by : ℕ → Option ℕ → Base58Fault → WordFault
base58_by place (Some letter) fault = faults.Base58Letter place letter
base58_by place None fault = faults.Base58 place fault

abbrev pub base58_fault : ℕ → List ℕ → Base58Fault → WordFault
base58_fault place text fault = base58_by place (other_letter text) fault

-- a text that isn't an address of another network is one as it was given
abbrev pub unless_foreign : ℕ → List ℕ → Option Network → Result PlainPayee WordFault
unless_foreign place text None = Ok (Address text)
unless_foreign place text (Some network) = Err (faults.Foreign place network)

-- A text that is no address in base58, for this fault: it is refused where it begins as one, or has the version of another network.
-- Otherwise it is judged where the request is read.
abbrev pub other_payee : ℕ → List ℕ → Base58Fault → Result PlainPayee WordFault
other_payee place text fault =
    if is_version fault || begins_as_base58 text then Err (base58_fault place text fault)
    else unless_foreign place text (foreign_in text)

abbrev pub payee_by : ℕ → List ℕ → Result (List ℕ) Base58Fault → Result PlainPayee WordFault
payee_by place text (Ok script) = Ok (Script script)
payee_by place text (Err fault) = other_payee place text fault

-- To whom a text pays: an address in base58 to its script, and another text to itself, as the request has it.
unfoldable pub payee_at : ℕ → List ℕ → Result PlainPayee WordFault
payee_at place text = payee_by place text (decode_of text)
