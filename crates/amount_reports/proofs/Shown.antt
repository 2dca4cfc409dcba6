-- Readers of lines are exact: each of them reads what its value is shown as.
use Rattle.std.proofs.Common.{◌≡◌, ℕ, suc, ◌^◌, ◌≤◌, ◌<◌, eqb, List, [], ◌∷◌, ◌++◌, Result, refl, sym, ap, subst, ◌∙◌, append_assoc, arith}
use Rattle.std.specs.Prelude.{codes, reverse}
use Rattle.std.specs.Fmt.{decimal}
use Rattle.std.proofs.lemmas.List.{reverse-reverse}
use Rattle.closing_log.specs.Lines.{behind_at}
use Rattle.closing_log.specs.LogText.{IsDigest}
use Rattle.closing_log.specs.Reading.{both_at, digest_at, made_at, number_at}
use Rattle.closing_log.proofs.DigestLaws.{digest_piece}
use Rattle.closing_log.proofs.Exactness.{Made, Piece}
use Rattle.closing_log.proofs.LineLaws.{Behind, IsNumberLine, behind_piece, number_line_piece}
use Rattle.closing_log.proofs.NumberLaws.{IsNumber, wide_piece}
use Rattle.closing_log.proofs.PartLaws.{Both, both_piece, made_piece, piece_as}
use Rattle.closing_log.proofs.SectionLaws.{row_end, row_ends, row_ends_are}
use Rattle.fund_report.specs.Reading.{amounts_at, coin_at, coin_of, index_at, psbt_line, text_line, wide_line}
use Rattle.fund_report.specs.ReportText.{AreInLines, IsInLine, IsLine, IsWide, line}
use Rattle.fund_report.specs.declared.report.InLine.{InLine}
use Rattle.fund_report.proofs.LineLaws.{IsTextLine, text_piece}
use Rattle.amount_reports.specs.Reading.{begins, figures_at, in_at, named_line}
use Rattle.amount_reports.specs.SweptText.{figures_text}
use Rattle.amount_reports.proofs.Rows.{AreRows, IsRow}

-- the text shows a value that fits
pub record Shown {X : Type 0} (show : X → List ℕ) (Fits : X → Type 0) (text : List ℕ) (x : X) : Type 0 where
  pub is : text ≡ show x
  pub fits : Fits x

pub both_shown : {X Y : Type 0} (first : List ℕ → Result (X × List ℕ) (List ℕ)) (second : List ℕ → Result (Y × List ℕ) (List ℕ)) (a : X → List ℕ) (F : X → Type 0) (b : Y → List ℕ) (G : Y → Type 0)
    → Piece first (Shown a F) → Piece second (Shown b G) → Piece (both_at first (λ x. second)) (Shown (λ (v : X × Y). a v.0 ++ b v.1) (λ (v : X × Y). F v.0 × G v.1))
both_shown {X = X} {Y = Y} first second a F b G one two =
    piece_as (both_at first (λ x. second)) (Both (Shown a F) (λ x. Shown b G)) (Shown (λ (v : X × Y). a v.0 ++ b v.1) (λ (v : X × Y). F v.0 × G v.1))
    (λ text v m. record { is = m.parts ∙ ap (λ t. t ++ m.back) m.first.is ∙ ap (λ t. a v.0 ++ t) m.second.is; fits = (m.first.fits, m.second.fits) })
    (λ text v s. record { front = a v.0; back = b v.1; parts = s.is; first = record { is = refl; fits = s.fits.0 }; second = record { is = refl; fits = s.fits.1 } })
    (both_piece first (λ x. second) (Shown a F) (λ x. Shown b G) one (λ x. two))

pub behind_shown : {X : Type 0} (word : List ℕ) (item : List ℕ → Result (X × List ℕ) (List ℕ)) (a : X → List ℕ) (F : X → Type 0) → Piece item (Shown a F) → Piece (behind_at word item) (Shown (λ x. word ++ a x) F)
behind_shown {X = X} word item a F law =
    piece_as (behind_at word item) (Behind word (Shown a F)) (Shown (λ (x : X). word ++ a x) F)
    (λ text x m. record { is = m.parts ∙ ap (λ t. word ++ t) m.means.is; fits = m.means.fits })
    (λ text x s. record { back = a x; parts = s.is; means = record { is = refl; fits = s.fits } })
    (behind_piece word item (Shown a F) law)

-- ---- numbers

abbrev most_wide : ℕ
most_wide = 18_446_744_073_709_551_615

abbrev pub number_text : ℕ → List ℕ
number_text n = decimal n ++ codes "\n"

pub wide_shown : Piece wide_line (Shown number_text IsWide)
wide_shown =
    piece_as wide_line (IsNumberLine most_wide) (Shown number_text IsWide)
    (λ text n m. record { is = m.is; fits = m.small })
    (λ text n s. record { small = s.fits; is = s.is })
    (number_line_piece most_wide (omega arith))

pub named_shown : (name : List ℕ) → Piece (named_line name) (Shown (λ n. line name (decimal n)) IsWide)
named_shown name = behind_shown name wide_line number_text IsWide wide_shown

-- ---- what a payment comes to

abbrev pub figures_of : ℕ × (ℕ × ℕ) → List ℕ
figures_of v = figures_text v.0 v.1.0 v.1.1

abbrev pub FigureFits : ℕ × (ℕ × ℕ) → Type 0
FigureFits v = IsWide v.0 × (IsWide v.1.0 × IsWide v.1.1)

abbrev named : List ℕ → ℕ → List ℕ
named name n = line name (decimal n)

pub figures_shown : Piece figures_at (Shown figures_of FigureFits)
figures_shown =
    both_shown (named_line (codes "weight ")) (both_at (named_line (codes "vsize ")) (λ v. named_line (codes "fee "))) (named (codes "weight ")) IsWide (λ (v : ℕ × ℕ). named (codes "vsize ") v.0 ++ named (codes "fee ") v.1) (λ (v : ℕ × ℕ). IsWide v.0 × IsWide v.1)
    (named_shown (codes "weight "))
    (both_shown (named_line (codes "vsize ")) (named_line (codes "fee ")) (named (codes "vsize ")) IsWide (named (codes "fee ")) IsWide (named_shown (codes "vsize ")) (named_shown (codes "fee ")))

pub psbt_shown : Piece psbt_line (Shown (λ t. line (codes "psbt ") t) IsLine)
psbt_shown =
    behind_shown (codes "psbt ") text_line (λ t. t ++ codes "\n") IsLine
    (piece_as text_line IsTextLine (Shown (λ t. t ++ codes "\n") IsLine) (λ text t m. record { is = m.is; fits = m.line }) (λ text t s. record { is = s.is; line = s.fits }) text_piece)

-- ---- a coin

abbrev pub first_of : ℕ × ℕ → ℕ
first_of v = v.0

-- a number and a blank
abbrev pub spaced_text : ℕ → List ℕ
spaced_text n = decimal n ++ codes " "

spaced_to : (most : ℕ) (text : List ℕ) (n : ℕ) → Made first_of (IsNumber most row_ends) text n → Shown spaced_text (λ n. n ≤ most) text n
spaced_to most text n m =
    let end : m.value.1 ≡ 32 = row_end m.value.1 (eqb 32 m.value.1) refl m.means.end in
    record {
      is = m.means.text_is ∙ ap (λ (k : ℕ). decimal m.value.0 ++ k ∷ []) end ∙ ap spaced_text (sym m.is);
      fits = omega (arith, m.is, m.means.small);
    }

pub spaced_shown : (most : ℕ) → most < 10 ^ 64 → Piece (made_at first_of (number_at most row_ends)) (Shown spaced_text (λ n. n ≤ most))
spaced_shown most small =
    piece_as (made_at first_of (number_at most row_ends)) (Made first_of (IsNumber most row_ends)) (Shown spaced_text (λ n. n ≤ most)) (spaced_to most)
    (λ text n s. record { value = (n, 32); is = refl; means = record { small = s.fits; end = refl; text_is = s.is } })
    (made_piece first_of (number_at most row_ends) (IsNumber most row_ends) (wide_piece most row_ends small row_ends_are))

abbrev IsIndex : ℕ → Type 0
IsIndex n = n ≤ 4_294_967_295

index_shown : Piece index_at (Shown spaced_text IsIndex)
index_shown = spaced_shown 4_294_967_295 (omega arith)

abbrev amounts_text : ℕ × ℕ → List ℕ
amounts_text v = codes ":" ++ (spaced_text v.0 ++ number_text v.1)

abbrev AmountsFit : ℕ × ℕ → Type 0
AmountsFit v = IsIndex v.0 × IsWide v.1

amounts_shown : Piece amounts_at (Shown amounts_text AmountsFit)
amounts_shown =
    behind_shown (codes ":") (both_at index_at (λ i. wide_line)) (λ (v : ℕ × ℕ). spaced_text v.0 ++ number_text v.1) AmountsFit
    (both_shown index_at wide_line spaced_text IsIndex number_text IsWide index_shown wide_shown)

abbrev IsCoinText : List ℕ → InLine → Type 0
IsCoinText = Behind (codes "in ") (Made coin_of (Both IsDigest (λ d. Shown amounts_text AmountsFit)))

grouped : (digits index value : List ℕ) → digits ++ (codes ":" ++ ((index ++ codes " ") ++ (value ++ codes "\n"))) ≡ (digits ++ (codes ":" ++ (index ++ (codes " " ++ value)))) ++ codes "\n"
grouped digits index value = simp append_assoc

in_to : (text : List ℕ) (l : InLine) → IsCoinText text l → IsInLine text l
in_to text l b =
    let m = b.means in
    let p = m.means in
    let said : b.back ≡ (p.front ++ (codes ":" ++ (decimal m.value.1.0 ++ (codes " " ++ decimal m.value.1.1)))) ++ codes "\n" =
    p.parts ∙ ap (λ t. p.front ++ t) p.second.is ∙ grouped p.front (decimal m.value.1.0) (decimal m.value.1.1) in
    subst (IsInLine text) (sym m.is)
    (record {
      digits = p.front;
      line = b.parts ∙ ap (λ t. codes "in " ++ t) said;
      txid = subst (IsDigest p.front) (sym (reverse-reverse m.value.0)) p.first;
      amounts = record { index = p.second.fits.0; value = p.second.fits.1 };
    })

in_from : (text : List ℕ) (l : InLine) → IsInLine text l → IsCoinText text l
in_from text l i =
    let amounts : List ℕ = amounts_text (l.coin.index, l.value) in
    record {
      back = i.digits ++ amounts;
      parts = i.line ∙ ap (λ t. codes "in " ++ t) (sym (grouped i.digits (decimal l.coin.index) (decimal l.value)));
      means = record {
        value = (reverse l.coin.txid, (l.coin.index, l.value));
        is = ap (λ (t : List ℕ). record { coin = record { txid = t; index = l.coin.index }; value = l.value }) (sym (reverse-reverse l.coin.txid));
        means = record { front = i.digits; back = amounts; parts = refl; first = i.txid; second = record { is = refl; fits = (i.amounts.index, i.amounts.value) } };
      };
    }

in_piece : Piece in_at IsInLine
in_piece =
    piece_as in_at IsCoinText IsInLine in_to in_from
    (behind_piece (codes "in ") coin_at (Made coin_of (Both IsDigest (λ d. Shown amounts_text AmountsFit)))
    (made_piece coin_of (both_at digest_at (λ d. amounts_at)) (Both IsDigest (λ d. Shown amounts_text AmountsFit))
    (both_piece digest_at (λ d. amounts_at) IsDigest (λ d. Shown amounts_text AmountsFit) digest_piece (λ d. amounts_shown))))

-- ---- the lines of coins

abbrev InRow : ℕ → List ℕ → InLine → Type 0
InRow place = IsInLine

pub in_row : IsRow 105 (λ place. in_at) InRow
in_row = record {
  takes = λ place bytes x e. in_piece.takes bytes x e;
  again = λ place text rest l i. in_piece.again text rest l i;
  led = λ place text l i more. ap (λ t. begins 105 (t ++ more)) i.line;
}

pub ins_to : (place : ℕ) (ls : List InLine) (text : List ℕ) → AreRows InRow place ls text → AreInLines ls text
ins_to place [] text rows = rows
ins_to place (l ∷ ls) text rows = record { front = rows.front; back = rows.back; parts = rows.parts; first = rows.first; others = ins_to (suc place) ls rows.back rows.others }

pub ins_of : (place : ℕ) (ls : List InLine) (text : List ℕ) → AreInLines ls text → AreRows InRow place ls text
ins_of place [] text rows = rows
ins_of place (l ∷ ls) text rows = record { front = rows.front; back = rows.back; parts = rows.parts; first = rows.first; others = ins_of (suc place) ls rows.back rows.others }
