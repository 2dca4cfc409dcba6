-- Scripts that may be slips of those who pay to them.
use Rattle.std.specs.Prelude.{ℕ, ◌==◌, ◌||◌, Bool, false, List, [], ◌∷◌, ◌++◌, codes, Option, Some, None, is_some, if◌then◌else◌}
use Rattle.std.specs.List.{flat_map}
use Rattle.hex.specs.Hex.{encode_lower}
use Rattle.fee_rates.specs.Output.{is_program_of}
use Rattle.base58_addr.specs.Address.{encode_of}
use Rattle.request_making.specs.declared.payment.Payee.{Payee}
use Rattle.request_making.specs.declared.payment.Payee.TheVariants as payees
use Rattle.request_making.specs.declared.payment.Payment.{Payment}

-- It begins with OP_RETURN, so that nothing can spend it (Bitcoin Core, `IsUnspendable`).
abbrev pub begins_with_return : List ℕ → Bool
begins_with_return [] = false
begins_with_return (c ∷ script) = c == 106

-- it has an address: as a witness program, or in base58
abbrev pub has_address : List ℕ → Bool
has_address script = is_program_of script || is_some (encode_of script)

unfoldable pub burnt : List ℕ
burnt = codes "begins with OP_RETURN, so nobody can ever spend what is paid to it: pay 0, or to another script."

unfoldable pub strange : List ℕ
strange = codes "is none that has an address: look whether it is a script at all, and no key or hash."

-- What may be wrong with paying an amount to a script: nothing can spend it, or it has no address. Without an amount OP_RETURN is meant.
abbrev pub slip_in : List ℕ → (amount : ℕ) → Option (List ℕ)
slip_in script amount =
    if begins_with_return script then (if amount == 0 then None else Some burnt)
    else if has_address script then None
    else Some strange

-- the line of it
abbrev pub warned : List ℕ → Option (List ℕ) → List ℕ
warned script None = []
warned script (Some slip) = codes "warning The script " ++ (encode_lower script ++ (codes " " ++ (slip ++ codes "\n")))

-- that of a payment; an address is judged where the request is read
abbrev pub payee_warning : Payee → (amount : ℕ) → List ℕ
payee_warning (payees.Address text) amount = []
payee_warning (payees.Script script) amount = warned script (slip_in script amount)

abbrev pub payment_warning : Payment → List ℕ
payment_warning p = payee_warning p.to p.amount

-- those of payments, in their order
abbrev pub warnings_text : List Payment → List ℕ
warnings_text payments = flat_map payment_warning payments
