-- The report of a payment whose recipients bear the fee, as a text of lines.
use Rattle.std.specs.Prelude.{ℕ, ◌≡◌, ◌<◌, ◌≤◌, suc, List, [], ◌∷◌, ◌++◌, codes, length, Option, IfSome}
use Rattle.std.specs.Fmt.{decimal}
use Rattle.std.specs.List.{AllByRecursion}
use Rattle.fund_report.specs.ReportText.{AreInLines, IsLine, IsWide, change_text, line}
use Rattle.fund_report.specs.declared.report.InLine.{InLine}
use Rattle.amount_reports.specs.SweptText.{figures_text}

-- What is reported of it: the row of its coins, and all tries; the coins that it spends, in order; what each recipient gets, in
-- their order; its declared weight in weight units, its virtual size in virtual bytes, its fee and the change; and what a signer
-- gets. Amounts are in satoshi.
pub record PlainShared : Type 0 where
  pub row : ℕ
  pub tries : ℕ
  pub coins : List InLine
  pub amounts : List ℕ
  pub weight : ℕ
  pub vsize : ℕ
  pub fee : ℕ
  pub change : Option ℕ
  pub psbt : List ℕ

-- the line of what a recipient gets, behind its place
abbrev pub pay_text : (place amount : ℕ) → List ℕ
pay_text place amount = line (codes "pay ") (decimal place ++ (codes " " ++ decimal amount))

-- those of recipients, the first at this place
abbrev pub pays_text : (place : ℕ) → List ℕ → List ℕ
pays_text place [] = []
pays_text place (a ∷ others) = pay_text place a ++ pays_text (suc place) others

-- the lines before the coins
abbrev pub head_text : (row tries : ℕ) → List ℕ
head_text row tries = codes "shared\n" ++ (line (codes "row ") (decimal row) ++ line (codes "tries ") (decimal tries))

-- the last two lines
abbrev pub paid_text : Option ℕ → List ℕ → List ℕ
paid_text change psbt = line (codes "change ") (change_text change) ++ line (codes "psbt ") psbt

-- all lines; `coins` are those of its coins
unfoldable pub shared_text : (coins : List ℕ) → PlainShared → List ℕ
shared_text coins r = head_text r.row r.tries ++ (coins ++ (pays_text 0 r.amounts ++ (figures_text r.weight r.vsize r.fee ++ paid_text r.change r.psbt)))

-- The bytes are a text of this report: its row fits in a byte, and its other numbers and the places of its recipients in
-- eight. It spends one coin at least, and the digits of their txids are in either case.
pub record IsSharedText (bytes : List ℕ) (r : PlainShared) : Type 0 where
  pub coins : List ℕ
  pub lines : bytes ≡ shared_text coins r
  pub ins : AreInLines r.coins coins
  pub some : 0 < length r.coins
  pub row : r.row ≤ 255
  pub tries : IsWide r.tries
  pub few : length r.amounts ≤ 18_446_744_073_709_551_616
  pub amounts : AllByRecursion IsWide r.amounts
  pub weight : IsWide r.weight
  pub vsize : IsWide r.vsize
  pub fee : IsWide r.fee
  pub change : IfSome r.change IsWide
  pub psbt : IsLine r.psbt
