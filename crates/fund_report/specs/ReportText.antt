-- A report as a text of lines.
use Rattle.std.specs.Prelude.{ℕ, ℤ, pos, negsuc, ◌≡◌, ◌≤◌, ◌<◌, List, [], ◌∷◌, ◌++◌, length, reverse, All, codes, Option, Some, None, IfSome}
use Rattle.std.specs.List.{AllByRecursion, flat_map}
use Rattle.std.specs.Fmt.{decimal, signed_decimal}
use Rattle.hex.specs.Hex.{encode_lower}
use Rattle.closing_log.specs.declared.log.Stage.{Stage}
use Rattle.closing_log.specs.declared.log.Stage.TheVariants.{Wide}
use Rattle.closing_log.specs.LogText.{AreJoined, IsDigest, stage_word}
use Rattle.closing_log.specs.MarkWord.{mark_word}
use Rattle.fund_report.specs.declared.report.InLine.{InLine}
use Rattle.fund_report.specs.declared.report.Report.{Report}
use Rattle.fund_report.specs.declared.report.Report.TheVariants.{Funded, NoSelection, Unfinished}
use Rattle.fund_report.specs.PlainFunded.{PlainFunded}

-- ---- lines

-- a line: its name and a blank, what it says, and a line feed
abbrev pub line : List ℕ → List ℕ → List ℕ
line name said = name ++ (said ++ codes "\n")

-- the line of a coin: its txid, a colon and its index, a blank and its value; `digits` show the txid
abbrev pub in_text : List ℕ → InLine → List ℕ
in_text digits l = line (codes "in ") (digits ++ (codes ":" ++ (decimal l.coin.index ++ (codes " " ++ decimal l.value))))

-- the change, or `none`
abbrev pub change_text : Option ℕ → List ℕ
change_text None = codes "none"
change_text (Some change) = decimal change

-- the lines before the coins
abbrev pub found_text : PlainFunded → List ℕ
found_text f = line (codes "funded ") (mark_word f.mark) ++ (line (codes "row ") (decimal f.row) ++ (line (codes "stage ") (stage_word f.stage) ++ line (codes "tries ") (decimal f.tries)))

-- the lines of what it comes to
abbrev pub figures_text : PlainFunded → List ℕ
figures_text f = line (codes "weight ") (decimal f.weight) ++ (line (codes "vsize ") (decimal f.vsize) ++ (line (codes "fee ") (decimal f.fee) ++ line (codes "waste ") (signed_decimal f.waste)))

-- the lines of what is paid
abbrev pub paid_text : PlainFunded → List ℕ
paid_text f = line (codes "change ") (change_text f.change) ++ line (codes "psbt ") f.text

-- all lines of a payment; `coins` are those of its coins
unfoldable pub funded_text : List ℕ → PlainFunded → List ℕ
funded_text coins f = found_text f ++ (coins ++ (figures_text f ++ paid_text f))

-- the lines where there is no payment
abbrev pub none_text : ℕ → List ℕ
none_text tries = codes "none\n" ++ line (codes "tries ") (decimal tries)

-- the lines of a run that goes on
abbrev pub unfinished_text : ℕ → ℕ → Stage → List ℕ
unfinished_text tries row stage = codes "unfinished\n" ++ (line (codes "tries ") (decimal tries) ++ (line (codes "row ") (decimal row) ++ line (codes "stage ") (stage_word stage)))

-- ---- the text that is written, with txids in lower case

-- a txid is shown with its bytes reversed
abbrev pub in_line : InLine → List ℕ
in_line l = in_text (encode_lower (reverse l.coin.txid)) l

unfoldable pub text_of : Report → List ℕ
text_of (Funded f) = funded_text (flat_map in_line f.coins) f
text_of (NoSelection tries) = none_text tries
text_of (Unfinished tries row stage) = unfinished_text tries row stage

-- ---- what can be read

-- the stages that are read
abbrev pub IsRead : Stage → Type 0
IsRead Wide = ⊥
IsRead _ = Unit {0}

-- the text of a PSBT is one or more bytes other than a line feed
pub record IsLine (text : List ℕ) : Type 0 where
  pub some : 0 < length text
  pub feedless : AllByRecursion (λ b. b ≡ 10 → ⊥) text

-- a payment that can be read has coins
pub record CanBePaid (f : PlainFunded) : Type 0 where
  pub stage : IsRead f.stage
  pub coins : 0 < length f.coins
  pub text : IsLine f.text

abbrev pub CanBeRead : Report → Type 0
CanBeRead (Funded f) = CanBePaid f
CanBeRead (NoSelection tries) = Unit {0}
CanBeRead (Unfinished tries row stage) = IsRead stage

-- ---- numbers that fit

-- in eight bytes
abbrev pub IsWide : ℕ → Type 0
IsWide n = n ≤ 18_446_744_073_709_551_615

-- in sixteen bytes, with a sign
abbrev pub IsSigned : ℤ → Type 0
IsSigned (pos n) = n ≤ 170_141_183_460_469_231_731_687_303_715_884_105_727
IsSigned (negsuc n) = n ≤ 170_141_183_460_469_231_731_687_303_715_884_105_727

pub record HasFigures (f : PlainFunded) : Type 0 where
  pub row : f.row ≤ 255
  pub tries : IsWide f.tries
  pub weight : IsWide f.weight
  pub vsize : IsWide f.vsize
  pub fee : IsWide f.fee
  pub waste : IsSigned f.waste
  pub change : IfSome f.change IsWide

-- a coin: its index in four bytes, its value in eight
pub record HasAmounts (l : InLine) : Type 0 where
  pub index : l.coin.index ≤ 4_294_967_295
  pub value : IsWide l.value

-- and a txid of 32 bytes
pub record IsSizedCoin (l : InLine) : Type 0 where
  pub txid : (length l.coin.txid ≡ 32) × All (λ b. b < 256) l.coin.txid
  pub amounts : HasAmounts l

pub record IsSizedFunded (f : PlainFunded) : Type 0 where
  pub figures : HasFigures f
  pub coins : AllByRecursion IsSizedCoin f.coins

abbrev pub IsSized : Report → Type 0
IsSized (Funded f) = IsSizedFunded f
IsSized (NoSelection tries) = IsWide tries
IsSized (Unfinished tries row stage) = IsWide tries × (row ≤ 255)

-- ---- the relation between bytes and a report

-- the bytes are the line of this coin; the digits of its txid are in either case
pub record IsInLine (text : List ℕ) (l : InLine) : Type 0 where
  pub digits : List ℕ
  pub line : text ≡ in_text digits l
  pub txid : IsDigest digits (reverse l.coin.txid)
  pub amounts : HasAmounts l

-- lines of coins, one after the other
abbrev pub AreInLines : List InLine → List ℕ → Type 0
AreInLines [] text = text ≡ []
AreInLines (l ∷ ls) text = AreJoined (λ front. IsInLine front l) (AreInLines ls) text

pub record IsFundedText (bytes : List ℕ) (f : PlainFunded) : Type 0 where
  pub coins : List ℕ
  pub lines : bytes ≡ funded_text coins f
  pub ins : AreInLines f.coins coins
  pub can : CanBePaid f
  pub figures : HasFigures f

-- the bytes are a text of this report
abbrev pub IsReportText : List ℕ → Report → Type 0
IsReportText bytes (Funded f) = IsFundedText bytes f
IsReportText bytes (NoSelection tries) = (bytes ≡ none_text tries) × IsWide tries
IsReportText bytes (Unfinished tries row stage) = (bytes ≡ unfinished_text tries row stage) × IsRead stage × IsWide tries × (row ≤ 255)
