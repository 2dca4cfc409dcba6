-- Reading the lines of such a report from left to right. What can't be read is answered by the bytes that are left.
use Rattle.std.specs.Prelude.{ℕ, zero, suc, ◌==◌, Bool, false, List, [], ◌∷◌, ◌++◌, length, codes, Option, Result, Ok, Err, if◌then◌else◌}
use Rattle.closing_log.specs.Lines.{behind_at}
use Rattle.closing_log.specs.Reading.{both_at, made_at, number_at}
use Rattle.fund_base.specs.Parsing.{◌>>=◌}
use Rattle.fund_report.specs.Reading.{coin_at, paid_at, psbt_line, row_line, tries_line, wide_line}
use Rattle.fund_report.specs.declared.report.InLine.{InLine}
use Rattle.amount_reports.specs.SharedText.{PlainShared}
use Rattle.amount_reports.specs.SweptText.{PlainSwept}

-- ---- lines that begin with the same byte

-- the first byte is this one
abbrev pub begins : (lead : ℕ) → List ℕ → Bool
begins lead [] = false
begins lead (b ∷ rest) = b == lead

-- Lines as long as they begin with this byte, at most so many. How one is read may depend on how many stand before it.
unfoldable pub rows_from : {X : Type 0} → (lead : ℕ) → (row : ℕ → List ℕ → Result (X × List ℕ) (List ℕ)) → (turns : ℕ) → List X → List ℕ → Result (List X × List ℕ) (List ℕ)
rows_from lead row zero done bytes = Ok (done, bytes)
rows_from lead row (suc turns) done bytes =
    if begins lead bytes then (row (length done) bytes >>= λ x. rows_from lead row turns (done ++ x.0 ∷ []) x.1) else Ok (done, bytes)

-- the line of a coin
abbrev pub in_at : List ℕ → Result (InLine × List ℕ) (List ℕ)
in_at = behind_at (codes "in ") coin_at

-- the lines of coins
abbrev pub ins_at : List ℕ → Result (List InLine × List ℕ) (List ℕ)
ins_at bytes = rows_from 105 (λ place. in_at) (length bytes) [] bytes

-- ---- what a payment comes to

abbrev pub named_line : (name : List ℕ) → List ℕ → Result (ℕ × List ℕ) (List ℕ)
named_line name = behind_at name wide_line

abbrev pub figures_at : List ℕ → Result ((ℕ × (ℕ × ℕ)) × List ℕ) (List ℕ)
figures_at = both_at (named_line (codes "weight ")) (λ w. both_at (named_line (codes "vsize ")) (λ v. named_line (codes "fee ")))

-- ---- a payment of all coins

abbrev pub swept_tail : List ℕ → Result (((ℕ × (ℕ × ℕ)) × List ℕ) × List ℕ) (List ℕ)
swept_tail = both_at figures_at (λ f. psbt_line)

abbrev pub swept_of : ℕ × (List InLine × ((ℕ × (ℕ × ℕ)) × List ℕ)) → PlainSwept
swept_of v = record { amount = v.0; coins = v.1.0; weight = v.1.1.0.0; vsize = v.1.1.0.1.0; fee = v.1.1.0.1.1; psbt = v.1.1.1 }

abbrev pub swept_lines : List ℕ → Result (PlainSwept × List ℕ) (List ℕ)
swept_lines = made_at swept_of (both_at (named_line (codes "swept ")) (λ a. both_at ins_at (λ c. swept_tail)))

-- it spends a coin, and nothing stands behind the last line
abbrev pub swept_end : PlainSwept → List ℕ → Result PlainSwept (List ℕ)
swept_end r (b ∷ rest) = Err (b ∷ rest)
swept_end r [] = if length r.coins == 0 then Err [] else Ok r

unfoldable pub swept_at : List ℕ → Result PlainSwept (List ℕ)
swept_at bytes = swept_lines bytes >>= λ x. swept_end x.0 x.1

-- ---- a payment whose recipients bear the fee

-- a number of 64 bits, and a blank
abbrev pub place_at : List ℕ → Result (ℕ × List ℕ) (List ℕ)
place_at = made_at (λ (v : ℕ × ℕ). v.0) (number_at 18_446_744_073_709_551_615 (32 ∷ []))

-- the line of what a recipient gets, with its place
abbrev pub placed_at : List ℕ → Result ((ℕ × ℕ) × List ℕ) (List ℕ)
placed_at = behind_at (codes "pay ") (both_at place_at (λ p. wide_line))

-- where it is of this place
abbrev pub pay_of : (place : ℕ) → (ℕ × ℕ) × List ℕ → Result (ℕ × List ℕ) (List ℕ)
pay_of place x = if x.0.0 == place then Ok (x.0.1, x.1) else Err x.1

abbrev pub pay_at : (place : ℕ) → List ℕ → Result (ℕ × List ℕ) (List ℕ)
pay_at place bytes = placed_at bytes >>= pay_of place

-- the lines of what recipients get, from the first on
abbrev pub pays_at : List ℕ → Result (List ℕ × List ℕ) (List ℕ)
pays_at bytes = rows_from 112 pay_at (length bytes) [] bytes

abbrev pub head_at : List ℕ → Result ((ℕ × ℕ) × List ℕ) (List ℕ)
head_at = behind_at (codes "shared\n") (both_at row_line (λ r. tries_line))

abbrev pub shared_tail : List ℕ → Result (((ℕ × (ℕ × ℕ)) × (Option ℕ × List ℕ)) × List ℕ) (List ℕ)
shared_tail = both_at figures_at (λ f. paid_at)

abbrev pub SharedParts : Type 0
SharedParts = (ℕ × ℕ) × (List InLine × (List ℕ × ((ℕ × (ℕ × ℕ)) × (Option ℕ × List ℕ))))

abbrev pub shared_of : SharedParts → PlainShared
shared_of v = record {
  row = v.0.0;
  tries = v.0.1;
  coins = v.1.0;
  amounts = v.1.1.0;
  weight = v.1.1.1.0.0;
  vsize = v.1.1.1.0.1.0;
  fee = v.1.1.1.0.1.1;
  change = v.1.1.1.1.0;
  psbt = v.1.1.1.1.1;
}

abbrev pub shared_parts : List ℕ → Result (SharedParts × List ℕ) (List ℕ)
shared_parts = both_at head_at (λ h. both_at ins_at (λ c. both_at pays_at (λ p. shared_tail)))

abbrev pub shared_lines : List ℕ → Result (PlainShared × List ℕ) (List ℕ)
shared_lines = made_at shared_of shared_parts

abbrev pub shared_end : PlainShared → List ℕ → Result PlainShared (List ℕ)
shared_end r (b ∷ rest) = Err (b ∷ rest)
shared_end r [] = if length r.coins == 0 then Err [] else Ok r

unfoldable pub shared_at : List ℕ → Result PlainShared (List ℕ)
shared_at bytes = shared_lines bytes >>= λ x. shared_end x.0 x.1
