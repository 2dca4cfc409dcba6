-- How amounts and rates are printed: satoshi as they are, bitcoin with eight digits behind the point, and rates with
-- three, as Bitcoin Core prints them (`FormatMoney`, `CFeeRate::ToString`).
use Rattle.std.specs.Prelude.{ℕ, ◌-◌, ◌/◌, ◌%◌, ◌^◌, List, ◌∷◌, ◌++◌, length, replicate, codes}
use Rattle.std.specs.Fmt.{decimal}

-- the digits of a number, with zeros before them up to this many
abbrev pub padded : ℕ → ℕ → List ℕ
padded places n = replicate (places - length (decimal n)) 48 ++ decimal n

-- a number of parts, of which 10 ^ places make one, with a point
abbrev pub fixed : ℕ → ℕ → List ℕ
fixed places n = decimal (n / 10 ^ places) ++ (46 ∷ padded places (n % 10 ^ places))

-- an amount in satoshi
unfoldable pub sat_text : ℕ → List ℕ
sat_text n = decimal n ++ codes " sat"

-- an amount in bitcoin
unfoldable pub btc_text : ℕ → List ℕ
btc_text n = fixed 8 n ++ codes " BTC"

-- a rate in satoshi per virtual byte, of one in satoshi per 1,000 of these
unfoldable pub rate_text : ℕ → List ℕ
rate_text n = fixed 3 n ++ codes " sat/vB"
