-- The lines of a report are read exactly.
use Rattle.std.proofs.Common.{◌≡◌, ℕ, ◌≤◌, ◌<◌, List, ◌++◌, length, get_or, Option, inl, inr, refl, sym, ap, subst, ◌∙◌, arith}
use Rattle.std.specs.Prelude.{codes, ℤ, IfSome}
use Rattle.std.specs.Fmt.{decimal, signed_decimal}
use Rattle.closing_log.specs.declared.log.Stage.{Stage}
use Rattle.closing_log.specs.declared.mark.Mark.{Mark}
use Rattle.closing_log.specs.Lines.{behind_at, ended_at, number_line}
use Rattle.closing_log.specs.LogText.{stage_word}
use Rattle.closing_log.specs.MarkWord.{mark_word}
use Rattle.closing_log.specs.Reading.{both_at}
use Rattle.closing_log.proofs.EitherLaws.{AllLed, Either, NoneLed, either_piece}
use Rattle.closing_log.proofs.Exactness.{Made, Piece}
use Rattle.closing_log.proofs.LineLaws.{Behind, Ended, IsNumberLine, behind_piece, ended_piece, number_line_piece}
use Rattle.closing_log.proofs.PartLaws.{Both, both_piece, made_piece, piece_as}
use Rattle.closing_log.proofs.WordLaws.{IsOneOf}
use Rattle.fund_report.specs.declared.parts.Figures.{Figures}
use Rattle.fund_report.specs.declared.parts.Start.{Start}
use Rattle.fund_report.specs.declared.report.InLine.{InLine}
use Rattle.fund_report.specs.declared.report.Report.{Report}
use Rattle.fund_report.specs.declared.report.Report.TheVariants.{NoSelection}
use Rattle.fund_report.specs.Reading.{change_line, change_rest, coins_at, coins_line, fee_line, figures_at, figures_of, funded_at, lines_at, mark_at, mark_line, none_at, others_at, paid_at, psbt_line, report_of, row_line, signed_line, stage_at, stage_line, start_at, start_of, text_line, tries_line, unfinished_at, unfinished_of, vsize_line, waste_line, wide_line}
use Rattle.fund_report.specs.ReportText.{IsLine, IsRead, IsSigned, IsWide, change_text, line}
use Rattle.fund_report.proofs.ChoiceLaws.{AnyMark, mark_piece, stage_piece}
use Rattle.fund_report.proofs.CoinLaws.{AreSome, coins_piece}
use Rattle.fund_report.proofs.LineLaws.{IsChange, IsSignedLine, IsTextLine, change_piece, signed_piece, text_piece}

-- ---- the lines before the coins

abbrev most_wide : ℕ
most_wide = 18_446_744_073_709_551_615

abbrev IsMark : List ℕ → Mark → Type 0
IsMark = Behind (codes "funded ") (Ended (IsOneOf mark_word AnyMark))

abbrev pub IsRow : List ℕ → ℕ → Type 0
IsRow = Behind (codes "row ") (IsNumberLine 255)

abbrev pub IsStage : List ℕ → Stage → Type 0
IsStage = Behind (codes "stage ") (Ended (IsOneOf stage_word IsRead))

abbrev pub IsTries : List ℕ → ℕ → Type 0
IsTries = Behind (codes "tries ") (IsNumberLine most_wide)

wide_piece : Piece wide_line (IsNumberLine most_wide)
wide_piece = number_line_piece most_wide (omega arith)

row_piece : Piece row_line IsRow
row_piece = behind_piece (codes "row ") (number_line 255) (IsNumberLine 255) (number_line_piece 255 (omega arith))

stage_line_piece : Piece stage_line IsStage
stage_line_piece = behind_piece (codes "stage ") (ended_at stage_at) (Ended (IsOneOf stage_word IsRead)) (ended_piece stage_at (IsOneOf stage_word IsRead) stage_piece)

tries_piece : Piece tries_line IsTries
tries_piece = behind_piece (codes "tries ") wide_line (IsNumberLine most_wide) wide_piece

mark_line_piece : Piece mark_line IsMark
mark_line_piece = behind_piece (codes "funded ") (ended_at mark_at) (Ended (IsOneOf mark_word AnyMark)) (ended_piece mark_at (IsOneOf mark_word AnyMark) mark_piece)

-- lines one after the other
pub lined : (a b c d e : List ℕ) → a ≡ b ++ c → b ≡ d → c ≡ e → a ≡ d ++ e
lined a b c d e parts first second = parts ∙ ap (λ t. t ++ c) first ∙ ap (λ t. d ++ t) second

pub named : (name text back said : List ℕ) → text ≡ name ++ back → back ≡ said ++ codes "\n" → text ≡ line name said
named name text back said parts is = parts ∙ ap (λ t. name ++ t) is

abbrev pub start_words : Start → List ℕ
start_words s = line (codes "funded ") (mark_word s.mark) ++ (line (codes "row ") (decimal s.row) ++ (line (codes "stage ") (stage_word s.stage) ++ line (codes "tries ") (decimal s.tries)))

pub record IsStart (text : List ℕ) (s : Start) : Type 0 where
  pub is : text ≡ start_words s
  pub row : s.row ≤ 255
  pub stage : IsRead s.stage
  pub tries : IsWide s.tries

abbrev AreStart : List ℕ → Mark × (ℕ × (Stage × ℕ)) → Type 0
AreStart = Both IsMark (λ m. Both IsRow (λ r. Both IsStage (λ s. IsTries)))

start_given : (text : List ℕ) (v : Mark × (ℕ × (Stage × ℕ))) → AreStart text v → IsStart text (start_of v)
start_given text v a =
    let b = a.second in
    let c = b.second in
    let mark = named (codes "funded ") a.front a.first.back (mark_word v.0) a.first.parts (a.first.means.parts ∙ ap (λ t. t ++ codes "\n") a.first.means.means.1) in
    let row = named (codes "row ") b.front b.first.back (decimal v.1.0) b.first.parts b.first.means.is in
    let stage = named (codes "stage ") c.front c.first.back (stage_word v.1.1.0) c.first.parts (c.first.means.parts ∙ ap (λ t. t ++ codes "\n") c.first.means.means.1) in
    let tries = named (codes "tries ") c.back c.second.back (decimal v.1.1.1) c.second.parts c.second.means.is in
    record {
      is = lined text a.front a.back _ _ a.parts mark (lined a.back b.front b.back _ _ b.parts row (lined b.back c.front c.back _ _ c.parts stage tries));
      row = b.first.means.small;
      stage = c.first.means.means.0;
      tries = c.second.means.small;
    }

start_to : (text : List ℕ) (s : Start) → Made start_of AreStart text s → IsStart text s
start_to text s m = subst (IsStart text) (sym m.is) (start_given text m.value m.means)

start_from : (text : List ℕ) (s : Start) → IsStart text s → Made start_of AreStart text s
start_from text s i = record {
  value = (s.mark, (s.row, (s.stage, s.tries)));
  is = refl;
  means = record {
    front = line (codes "funded ") (mark_word s.mark);
    back = line (codes "row ") (decimal s.row) ++ (line (codes "stage ") (stage_word s.stage) ++ line (codes "tries ") (decimal s.tries));
    parts = i.is;
    first = record { back = mark_word s.mark ++ codes "\n"; parts = refl; means = record { front = mark_word s.mark; parts = refl; means = (tt, refl) } };
    second = record {
      front = line (codes "row ") (decimal s.row);
      back = line (codes "stage ") (stage_word s.stage) ++ line (codes "tries ") (decimal s.tries);
      parts = refl;
      first = record { back = decimal s.row ++ codes "\n"; parts = refl; means = record { small = i.row; is = refl } };
      second = record {
        front = line (codes "stage ") (stage_word s.stage);
        back = line (codes "tries ") (decimal s.tries);
        parts = refl;
        first = record { back = stage_word s.stage ++ codes "\n"; parts = refl; means = record { front = stage_word s.stage; parts = refl; means = (i.stage, refl) } };
        second = record { back = decimal s.tries ++ codes "\n"; parts = refl; means = record { small = i.tries; is = refl } };
      };
    };
  };
}

start_piece : Piece start_at IsStart
start_piece =
    piece_as start_at (Made start_of AreStart) IsStart start_to start_from
    (made_piece start_of (both_at mark_line (λ m. both_at row_line (λ r. both_at stage_line (λ s. tries_line)))) AreStart
    (both_piece mark_line (λ m. both_at row_line (λ r. both_at stage_line (λ s. tries_line))) IsMark (λ m. Both IsRow (λ r. Both IsStage (λ s. IsTries))) mark_line_piece
    (λ m. both_piece row_line (λ r. both_at stage_line (λ s. tries_line)) IsRow (λ r. Both IsStage (λ s. IsTries)) row_piece
    (λ r. both_piece stage_line (λ s. tries_line) IsStage (λ s. IsTries) stage_line_piece (λ s. tries_piece)))))

-- ---- the lines after them

abbrev pub IsCoins : List ℕ → List InLine → Type 0
IsCoins = Behind (codes "in ") AreSome

coins_line_piece : Piece coins_line IsCoins
coins_line_piece = behind_piece (codes "in ") coins_at AreSome coins_piece

abbrev IsSize : List ℕ → ℕ → Type 0
IsSize = Behind (codes "vsize ") (IsNumberLine most_wide)

abbrev IsFee : List ℕ → ℕ → Type 0
IsFee = Behind (codes "fee ") (IsNumberLine most_wide)

abbrev IsWaste : List ℕ → ℤ → Type 0
IsWaste = Behind (codes "waste ") IsSignedLine

-- from the number of the weight on
abbrev pub figure_words : Figures → List ℕ
figure_words g = (decimal g.weight ++ codes "\n") ++ (line (codes "vsize ") (decimal g.vsize) ++ (line (codes "fee ") (decimal g.fee) ++ line (codes "waste ") (signed_decimal g.waste)))

pub record IsFigures (text : List ℕ) (g : Figures) : Type 0 where
  pub is : text ≡ figure_words g
  pub weight : IsWide g.weight
  pub vsize : IsWide g.vsize
  pub fee : IsWide g.fee
  pub waste : IsSigned g.waste

abbrev AreFigures : List ℕ → ℕ × (ℕ × (ℕ × ℤ)) → Type 0
AreFigures = Both (IsNumberLine most_wide) (λ w. Both IsSize (λ v. Both IsFee (λ f. IsWaste)))

figures_given : (text : List ℕ) (v : ℕ × (ℕ × (ℕ × ℤ))) → AreFigures text v → IsFigures text (figures_of v)
figures_given text v a =
    let b = a.second in
    let c = b.second in
    let vsize = named (codes "vsize ") b.front b.first.back (decimal v.1.0) b.first.parts b.first.means.is in
    let fee = named (codes "fee ") c.front c.first.back (decimal v.1.1.0) c.first.parts c.first.means.is in
    let waste = named (codes "waste ") c.back c.second.back (signed_decimal v.1.1.1) c.second.parts c.second.means.is in
    record {
      is = lined text a.front a.back _ _ a.parts a.first.is (lined a.back b.front b.back _ _ b.parts vsize (lined b.back c.front c.back _ _ c.parts fee waste));
      weight = a.first.small;
      vsize = b.first.means.small;
      fee = c.first.means.small;
      waste = c.second.means.small;
    }

figures_to : (text : List ℕ) (g : Figures) → Made figures_of AreFigures text g → IsFigures text g
figures_to text g m = subst (IsFigures text) (sym m.is) (figures_given text m.value m.means)

figures_from : (text : List ℕ) (g : Figures) → IsFigures text g → Made figures_of AreFigures text g
figures_from text g i = record {
  value = (g.weight, (g.vsize, (g.fee, g.waste)));
  is = refl;
  means = record {
    front = decimal g.weight ++ codes "\n";
    back = line (codes "vsize ") (decimal g.vsize) ++ (line (codes "fee ") (decimal g.fee) ++ line (codes "waste ") (signed_decimal g.waste));
    parts = i.is;
    first = record { small = i.weight; is = refl };
    second = record {
      front = line (codes "vsize ") (decimal g.vsize);
      back = line (codes "fee ") (decimal g.fee) ++ line (codes "waste ") (signed_decimal g.waste);
      parts = refl;
      first = record { back = decimal g.vsize ++ codes "\n"; parts = refl; means = record { small = i.vsize; is = refl } };
      second = record {
        front = line (codes "fee ") (decimal g.fee);
        back = line (codes "waste ") (signed_decimal g.waste);
        parts = refl;
        first = record { back = decimal g.fee ++ codes "\n"; parts = refl; means = record { small = i.fee; is = refl } };
        second = record { back = signed_decimal g.waste ++ codes "\n"; parts = refl; means = record { is = refl; small = i.waste } };
      };
    };
  };
}

figures_piece : Piece figures_at IsFigures
figures_piece =
    piece_as figures_at (Made figures_of AreFigures) IsFigures figures_to figures_from
    (made_piece figures_of (both_at wide_line (λ w. both_at vsize_line (λ v. both_at fee_line (λ f. waste_line)))) AreFigures
    (both_piece wide_line (λ w. both_at vsize_line (λ v. both_at fee_line (λ f. waste_line))) (IsNumberLine most_wide) (λ w. Both IsSize (λ v. Both IsFee (λ f. IsWaste))) wide_piece
    (λ w. both_piece vsize_line (λ v. both_at fee_line (λ f. waste_line)) IsSize (λ v. Both IsFee (λ f. IsWaste)) (behind_piece (codes "vsize ") wide_line (IsNumberLine most_wide) wide_piece)
    (λ v. both_piece fee_line (λ f. waste_line) IsFee (λ f. IsWaste) (behind_piece (codes "fee ") wide_line (IsNumberLine most_wide) wide_piece)
    (λ f. behind_piece (codes "waste ") signed_line IsSignedLine signed_piece)))))

abbrev IsChangeLine : List ℕ → Option ℕ → Type 0
IsChangeLine = Behind (codes "change ") IsChange

abbrev IsPsbt : List ℕ → List ℕ → Type 0
IsPsbt = Behind (codes "psbt ") IsTextLine

abbrev ArePaid : List ℕ → Option ℕ × List ℕ → Type 0
ArePaid = Both IsChangeLine (λ c. IsPsbt)

pub record IsPaid (text : List ℕ) (p : Option ℕ × List ℕ) : Type 0 where
  pub is : text ≡ line (codes "change ") (change_text p.0) ++ line (codes "psbt ") p.1
  pub change : IfSome p.0 IsWide
  pub text_is : IsLine p.1

paid_to : (text : List ℕ) (p : Option ℕ × List ℕ) → ArePaid text p → IsPaid text p
paid_to text p a =
    let change = named (codes "change ") a.front a.first.back (change_text p.0) a.first.parts a.first.means.is in
    let psbt = named (codes "psbt ") a.back a.second.back p.1 a.second.parts a.second.means.is in
    record { is = lined text a.front a.back _ _ a.parts change psbt; change = a.first.means.small; text_is = a.second.means.line }

paid_from : (text : List ℕ) (p : Option ℕ × List ℕ) → IsPaid text p → ArePaid text p
paid_from text p i = record {
  front = line (codes "change ") (change_text p.0);
  back = line (codes "psbt ") p.1;
  parts = i.is;
  first = record { back = change_text p.0 ++ codes "\n"; parts = refl; means = record { is = refl; small = i.change } };
  second = record { back = p.1 ++ codes "\n"; parts = refl; means = record { is = refl; line = i.text_is } };
}

paid_piece : Piece paid_at IsPaid
paid_piece =
    piece_as paid_at ArePaid IsPaid paid_to paid_from
    (both_piece change_line (λ c. psbt_line) IsChangeLine (λ c. IsPsbt) (behind_piece (codes "change ") change_rest IsChange change_piece)
    (λ c. behind_piece (codes "psbt ") text_line IsTextLine text_piece))

abbrev pub Lines : Type 0
Lines = Start × (List InLine × (Figures × (Option ℕ × List ℕ)))

abbrev pub AreLines : List ℕ → Lines → Type 0
AreLines = Both IsStart (λ s. Both IsCoins (λ c. Both IsFigures (λ f. IsPaid)))

abbrev pub IsFundedLines : List ℕ → Report → Type 0
IsFundedLines = Made report_of AreLines

funded_piece : Piece funded_at IsFundedLines
funded_piece =
    made_piece report_of (both_at start_at (λ s. both_at coins_line (λ c. both_at figures_at (λ f. paid_at)))) AreLines
    (both_piece start_at (λ s. both_at coins_line (λ c. both_at figures_at (λ f. paid_at))) IsStart (λ s. Both IsCoins (λ c. Both IsFigures (λ f. IsPaid))) start_piece
    (λ s. both_piece coins_line (λ c. both_at figures_at (λ f. paid_at)) IsCoins (λ c. Both IsFigures (λ f. IsPaid)) coins_line_piece
    (λ c. both_piece figures_at (λ f. paid_at) IsFigures (λ f. IsPaid) figures_piece (λ f. paid_piece))))

-- ---- reports without a payment

abbrev pub none_of_tries : ℕ → Report
none_of_tries n = NoSelection n

abbrev pub IsNoneLines : List ℕ → Report → Type 0
IsNoneLines = Made none_of_tries (Behind (codes "none\n") IsTries)

none_piece : Piece none_at IsNoneLines
none_piece = made_piece none_of_tries (behind_at (codes "none\n") tries_line) (Behind (codes "none\n") IsTries) (behind_piece (codes "none\n") tries_line IsTries tries_piece)

abbrev pub IsStanding : List ℕ → ℕ × (ℕ × Stage) → Type 0
IsStanding = Both IsTries (λ n. Both IsRow (λ r. IsStage))

abbrev pub IsUnfinishedLines : List ℕ → Report → Type 0
IsUnfinishedLines = Made unfinished_of (Behind (codes "unfinished\n") IsStanding)

unfinished_piece : Piece unfinished_at IsUnfinishedLines
unfinished_piece =
    made_piece unfinished_of (behind_at (codes "unfinished\n") (both_at tries_line (λ n. both_at row_line (λ r. stage_line)))) (Behind (codes "unfinished\n") IsStanding)
    (behind_piece (codes "unfinished\n") (both_at tries_line (λ n. both_at row_line (λ r. stage_line))) IsStanding
    (both_piece tries_line (λ n. both_at row_line (λ r. stage_line)) IsTries (λ n. Both IsRow (λ r. IsStage)) tries_piece
    (λ n. both_piece row_line (λ r. stage_line) IsRow (λ r. IsStage) row_piece (λ r. stage_line_piece))))

-- ---- one of the three

none_led : AllLed 110 IsNoneLines
none_led = λ text r m. (ap (λ t. get_or t 0 0) m.means.parts, omega (arith, ap length m.means.parts))

unfinished_led : NoneLed 110 IsUnfinishedLines
unfinished_led = λ text r m. (λ is. omega (arith, is, ap (λ t. get_or t 0 0) m.means.parts), omega (arith, ap length m.means.parts))

abbrev pub AreOthers : List ℕ → Report → Type 0
AreOthers = Either IsNoneLines IsUnfinishedLines

others_piece : Piece others_at AreOthers
others_piece = either_piece Report 110 none_at unfinished_at IsNoneLines IsUnfinishedLines none_piece unfinished_piece none_led unfinished_led

funded_led : AllLed 102 IsFundedLines
funded_led = λ text r m.
    let whole : text ≡ start_words m.value.0 ++ m.means.back = m.means.parts ∙ ap (λ t. t ++ m.means.back) m.means.first.is in
    (ap (λ t. get_or t 0 0) whole, omega (arith, ap length whole))

others_led_of : (text : List ℕ) (r : Report) → AreOthers text r → (get_or text 0 0 ≡ 102 → ⊥) × (0 < length text)
others_led_of text r (inl m) = (λ is. omega (arith, is, ap (λ t. get_or t 0 0) m.means.parts), omega (arith, ap length m.means.parts))
others_led_of text r (inr m) = (λ is. omega (arith, is, ap (λ t. get_or t 0 0) m.means.parts), omega (arith, ap length m.means.parts))

abbrev pub IsLines : List ℕ → Report → Type 0
IsLines = Either IsFundedLines AreOthers

pub lines_piece : Piece lines_at IsLines
lines_piece = either_piece Report 102 funded_at others_at IsFundedLines AreOthers funded_piece others_piece funded_led others_led_of
