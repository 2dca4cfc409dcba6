-- Lines of reports.
use Rattle.std.specs.Prelude.{ℕ, ◌-◌, List, [], ◌∷◌, ◌++◌, codes, map}
use Rattle.std.specs.Fmt.{decimal}
use Rattle.coin_candidates.specs.declared.candidate.Candidate.{Candidate}
use Rattle.fee_rates.specs.Fee.{vsize_of}
use Rattle.command_end.specs.Coin.{coin_text}

-- a coin that is spent: its outpoint, and its value in satoshi
unfoldable pub in_line : Candidate → List ℕ
in_line c = codes "in " ++ (coin_text c.coin ++ (32 ∷ decimal c.value))

-- the coins that are spent, each in a line
abbrev pub in_lines : List Candidate → List (List ℕ)
in_lines coins = map in_line coins

-- the declared weight of a payment in weight units, its virtual size in virtual bytes, and its fee in satoshi
unfoldable pub figure_lines : (weight fee : ℕ) → List (List ℕ)
figure_lines weight fee = (codes "weight " ++ decimal weight) ∷ (codes "vsize " ++ decimal (vsize_of weight)) ∷ (codes "fee " ++ decimal fee) ∷ []

-- what a signer gets
abbrev pub psbt_line : (text : List ℕ) → List ℕ
psbt_line text = codes "psbt " ++ text
