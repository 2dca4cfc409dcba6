-- What is written of a report is a text of it.
use Rattle.std.proofs.Common.{◌≡◌, ℕ, ◌-◌, ◌<◌, List, [], ◌∷◌, ◌++◌, length, All, refl, sym, subst, arith, ap, ◌∙◌}
use Rattle.std.specs.Prelude.{codes, reverse}
use Rattle.std.specs.Fmt.{decimal, signed_decimal}
use Rattle.std.specs.List.{AllByRecursion, flat_map}
use Rattle.std.proofs.lemmas.List.{get_or-reverse, length-reverse}
use Rattle.std.proofs.lemmas.List.Concat.{flat_map-cons}
use Rattle.hex.specs.Hex.{encode_lower}
use Rattle.fund_base.specs.Writer.{Feeds}
use Rattle.closing_log.specs.LogText.{stage_word}
use Rattle.closing_log.specs.MarkWord.{mark_word}
use Rattle.closing_log.proofs.Feeding.{feeds_then}
use Rattle.closing_log.proofs.WrittenLaws.{digest_written}
use Rattle.fund_report.specs.declared.report.InLine.{InLine}
use Rattle.fund_report.specs.declared.report.Report.{Report}
use Rattle.fund_report.specs.declared.report.Report.TheVariants.{Funded, NoSelection, Unfinished}
use Rattle.fund_report.specs.PlainFunded.{PlainFunded}
use Rattle.fund_report.specs.ReportText.{AreInLines, CanBeRead, IsInLine, IsReportText, IsSized, IsSizedCoin, change_text, figures_text, found_text, funded_text, in_line, line, paid_text, text_of}

-- ---- the text that is written

all_reversed : (xs : List ℕ) → All (λ b. b < 256) xs → All (λ b. b < 256) (reverse xs)
all_reversed xs all k d lt =
    let within : k < length xs = omega (arith, lt, length-reverse xs) in
    omega (arith, get_or-reverse xs k d within, all (length xs - 1 - k) d (omega arith))

in_written : (l : InLine) → IsSizedCoin l → IsInLine (in_line l) l
in_written l sized = record {
  digits = encode_lower (reverse l.coin.txid);
  line = refl;
  txid = digest_written (reverse l.coin.txid) (length-reverse l.coin.txid ∙ sized.txid.0) (all_reversed l.coin.txid sized.txid.1);
  amounts = sized.amounts;
}

ins_written : (ls : List InLine) → AllByRecursion IsSizedCoin ls → AreInLines ls (flat_map in_line ls)
ins_written [] sized = refl
ins_written (l ∷ ls) sized = record {
  front = in_line l;
  back = flat_map in_line ls;
  parts = flat_map-cons in_line l ls;
  first = in_written l sized.0;
  others = ins_written ls sized.1;
}

pub written_is_text : (r : Report) → CanBeRead r → IsSized r → IsReportText (text_of r) r
unfolding text_of
written_is_text (Funded f) can sized = record { coins = flat_map in_line f.coins; lines = refl; ins = ins_written f.coins sized.coins; can = can; figures = sized.figures }
written_is_text (NoSelection tries) can sized = (refl, sized)
written_is_text (Unfinished tries row stage) can sized = (refl, can, sized.0, sized.1)

pub text_is_of : (r : Report) (text : List ℕ) → text ≡ text_of r → CanBeRead r → IsSized r → IsReportText text r
text_is_of r text is can sized = subst (λ (t : List ℕ). IsReportText t r) (sym is) (written_is_text r can sized)

-- ---- line by line

pub feeds_coin : {W : Type 0} (holds : W → List ℕ → Type 0) (a b c d e : W) (s : InLine) → Feeds holds a b (codes "in ") → Feeds holds b c (encode_lower (reverse s.coin.txid))
    → Feeds holds c d (codes ":" ++ (decimal s.coin.index ++ (codes " " ++ decimal s.value))) → Feeds holds d e (codes "\n") → Feeds holds a e (in_line s)
feeds_coin holds a b c d e s one two three four =
    let amounts : List ℕ = codes ":" ++ (decimal s.coin.index ++ (codes " " ++ decimal s.value)) in
    let digits : List ℕ = encode_lower (reverse s.coin.txid) in
    let rest = feeds_then holds b d e (digits ++ amounts) (codes "\n") (feeds_then holds b c d digits amounts two three) four in
    feeds_then holds a b e (codes "in ") ((digits ++ amounts) ++ codes "\n") one rest

pub feeds_found : {W : Type 0} (holds : W → List ℕ → Type 0) (a b c d e : W) (s t : PlainFunded) → s ≡ t
    → Feeds holds a b (line (codes "funded ") (mark_word s.mark)) → Feeds holds b c (line (codes "row ") (decimal s.row))
    → Feeds holds c d (line (codes "stage ") (stage_word s.stage)) → Feeds holds d e (line (codes "tries ") (decimal s.tries)) → Feeds holds a e (found_text t)
feeds_found holds a b c d e s t is one two three four =
    let rest = feeds_then holds b c e _ _ two (feeds_then holds c d e _ _ three four) in
    subst (λ (p : PlainFunded). Feeds holds a e (found_text p)) is (feeds_then holds a b e _ _ one rest)

pub feeds_figures : {W : Type 0} (holds : W → List ℕ → Type 0) (a b c d e : W) (s t : PlainFunded) → s ≡ t
    → Feeds holds a b (line (codes "weight ") (decimal s.weight)) → Feeds holds b c (line (codes "vsize ") (decimal s.vsize))
    → Feeds holds c d (line (codes "fee ") (decimal s.fee)) → Feeds holds d e (line (codes "waste ") (signed_decimal t.waste)) → Feeds holds a e (figures_text t)
feeds_figures holds a b c d e s t is one two three four =
    let last = subst (λ (p : PlainFunded). Feeds holds d e (line (codes "waste ") (signed_decimal p.waste))) (sym is) four in
    let rest = feeds_then holds b c e _ _ two (feeds_then holds c d e _ _ three last) in
    subst (λ (p : PlainFunded). Feeds holds a e (figures_text p)) is (feeds_then holds a b e _ _ one rest)

pub feeds_paid : {W : Type 0} (holds : W → List ℕ → Type 0) (a b c : W) (s t : PlainFunded) (text : List ℕ) → s ≡ t → text ≡ s.text
    → Feeds holds a b (line (codes "change ") (change_text s.change)) → Feeds holds b c (line (codes "psbt ") text) → Feeds holds a c (paid_text t)
feeds_paid holds a b c s t text is same one two =
    let last = subst (λ (x : List ℕ). Feeds holds b c (line (codes "psbt ") x)) same two in
    subst (λ (p : PlainFunded). Feeds holds a c (paid_text p)) is (feeds_then holds a b c _ _ one last)

pub feeds_funded : {W : Type 0} (holds : W → List ℕ → Type 0) (a b c d e : W) (s t : PlainFunded) (coins : List InLine) → s ≡ t → coins ≡ s.coins
    → Feeds holds a b (found_text t) → Feeds holds b c (flat_map in_line coins) → Feeds holds c d (figures_text t) → Feeds holds d e (paid_text t) → Feeds holds a e (text_of (Funded t))
unfolding text_of funded_text
feeds_funded holds a b c d e s t coins is same one two three four =
    let list : coins ≡ t.coins = same ∙ ap (λ (p : PlainFunded). p.coins) is in
    let ins = subst (λ (x : List InLine). Feeds holds b c (flat_map in_line x)) list two in
    let rest = feeds_then holds b c e _ _ ins (feeds_then holds c d e _ _ three four) in
    feeds_then holds a b e _ _ one rest
