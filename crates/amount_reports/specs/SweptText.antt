-- The report of a payment of all coins, as a text of lines.
use Rattle.std.specs.Prelude.{ℕ, ◌≡◌, ◌<◌, List, ◌++◌, codes, length}
use Rattle.std.specs.Fmt.{decimal}
use Rattle.fund_report.specs.ReportText.{AreInLines, IsLine, IsWide, line}
use Rattle.fund_report.specs.declared.report.InLine.{InLine}

-- What is reported of it: what the recipient gets, and the coins that it spends, in order; its declared weight in weight units,
-- its virtual size in virtual bytes, and its fee; and what a signer gets. Amounts are in satoshi.
pub record PlainSwept : Type 0 where
  pub amount : ℕ
  pub coins : List InLine
  pub weight : ℕ
  pub vsize : ℕ
  pub fee : ℕ
  pub psbt : List ℕ

-- the lines of what a payment comes to
abbrev pub figures_text : (weight vsize fee : ℕ) → List ℕ
figures_text weight vsize fee = line (codes "weight ") (decimal weight) ++ (line (codes "vsize ") (decimal vsize) ++ line (codes "fee ") (decimal fee))

-- all lines; `coins` are those of its coins
unfoldable pub swept_text : (coins : List ℕ) → PlainSwept → List ℕ
swept_text coins r = line (codes "swept ") (decimal r.amount) ++ (coins ++ (figures_text r.weight r.vsize r.fee ++ line (codes "psbt ") r.psbt))

-- The bytes are a text of this report: its numbers fit in eight bytes, it spends one coin at least, and the digits of their txids
-- are in either case.
pub record IsSweptText (bytes : List ℕ) (r : PlainSwept) : Type 0 where
  pub coins : List ℕ
  pub lines : bytes ≡ swept_text coins r
  pub ins : AreInLines r.coins coins
  pub some : 0 < length r.coins
  pub amount : IsWide r.amount
  pub weight : IsWide r.weight
  pub vsize : IsWide r.vsize
  pub fee : IsWide r.fee
  pub psbt : IsLine r.psbt
