-- Coins that are written with their txids in lower case are read.
use Rattle.std.proofs.Common.{ℕ, ◌-◌, ◌<◌, List, [], ◌∷◌, length, refl, ◌∙◌, arith}
use Rattle.std.specs.Prelude.{All, reverse}
use Rattle.std.specs.List.{AllByRecursion, flat_map}
use Rattle.std.proofs.lemmas.List.{get_or-reverse, length-reverse}
use Rattle.std.proofs.lemmas.List.Concat.{flat_map-cons}
use Rattle.hex.specs.Hex.{encode_lower}
use Rattle.closing_log.proofs.WrittenLaws.{digest_written}
use Rattle.fund_report.specs.ReportText.{AreInLines, IsInLine, IsSizedCoin, in_line}
use Rattle.fund_report.specs.declared.report.InLine.{InLine}

all_reversed : (xs : List ℕ) → All (λ b. b < 256) xs → All (λ b. b < 256) (reverse xs)
all_reversed xs all k d lt =
    let within : k < length xs = omega (arith, lt, length-reverse xs) in
    omega (arith, get_or-reverse xs k d within, all (length xs - 1 - k) d (omega arith))

in_written : (l : InLine) → IsSizedCoin l → IsInLine (in_line l) l
in_written l sized = record {
  digits = encode_lower (reverse l.coin.txid);
  line = refl;
  txid = digest_written (reverse l.coin.txid) (length-reverse l.coin.txid ∙ sized.txid.0) (all_reversed l.coin.txid sized.txid.1);
  amounts = sized.amounts;
}

pub ins_written : (ls : List InLine) → AllByRecursion IsSizedCoin ls → AreInLines ls (flat_map in_line ls)
ins_written [] sized = refl
ins_written (l ∷ ls) sized = record {
  front = in_line l;
  back = flat_map in_line ls;
  parts = flat_map-cons in_line l ls;
  first = in_written l sized.0;
  others = ins_written ls sized.1;
}
