-- The first lines of a report are read exactly.
use Rattle.std.proofs.Common.{◌≡◌, ◌∙◌, ℕ, ◌≤◌, List, ◌++◌, Ok, refl, sym, ap, append_assoc, arith}
use Rattle.std.specs.Prelude.{⊤, codes, Result}
use Rattle.std.specs.Fmt.{decimal}
use Rattle.closing_log.specs.declared.log.Stage.{Stage}
use Rattle.closing_log.specs.declared.log.Stage.TheVariants.{Changeless, Wide}
use Rattle.closing_log.specs.declared.mark.Mark.{Mark}
use Rattle.closing_log.specs.Lines.{ended_at, number_line}
use Rattle.closing_log.specs.LogText.{stage_word}
use Rattle.closing_log.specs.MarkWord.{mark_word}
use Rattle.closing_log.specs.Reading.{both_at, word_at}
use Rattle.closing_log.proofs.Exactness.{Made, Piece}
use Rattle.closing_log.proofs.LineLaws.{Behind, Ended, IsNumberLine, behind_piece, ended_piece, number_line_piece}
use Rattle.closing_log.proofs.PartLaws.{Both, both_piece, made_piece}
use Rattle.closing_log.proofs.WordLaws.{IsOneOf, IsWord, word_piece}
use Rattle.fund_report.specs.Reading.{mark_at, mark_line, row_line, stage_at, stage_line}
use Rattle.fund_report.specs.ReportText.{IsRead, line}
use Rattle.fund_report.proofs.ChoiceLaws.{AnyMark, mark_piece, stage_piece}
use Rattle.fund_report.proofs.FundedLaws.{IsRow, IsStage, lined, named}
use Rattle.wide_report.specs.Reading.{changeless_front, front_at, front_text, row_wide_at}

-- ---- line by line

abbrev IsMark : List ℕ → Mark → Type 0
IsMark = Behind (codes "funded ") (Ended (IsOneOf mark_word AnyMark))

mark_line_piece : Piece mark_line IsMark
mark_line_piece = behind_piece (codes "funded ") (ended_at mark_at) (Ended (IsOneOf mark_word AnyMark)) (ended_piece mark_at (IsOneOf mark_word AnyMark) mark_piece)

row_piece : Piece row_line IsRow
row_piece = behind_piece (codes "row ") (number_line 255) (IsNumberLine 255) (number_line_piece 255 (omega arith))

stage_line_piece : Piece stage_line IsStage
stage_line_piece = behind_piece (codes "stage ") (ended_at stage_at) (Ended (IsOneOf stage_word IsRead)) (ended_piece stage_at (IsOneOf stage_word IsRead) stage_piece)

mark_of : (mark : Mark) → IsMark (line (codes "funded ") (mark_word mark)) mark
mark_of mark = record { back = mark_word mark ++ codes "\n"; parts = refl; means = record { front = mark_word mark; parts = refl; means = (tt, refl) } }

row_of : (row : ℕ) → row ≤ 255 → IsRow (line (codes "row ") (decimal row)) row
row_of row small = record { back = decimal row ++ codes "\n"; parts = refl; means = record { small = small; is = refl } }

stage_of : (stage : Stage) → IsRead stage → IsStage (line (codes "stage ") (stage_word stage)) stage
stage_of stage read = record { back = stage_word stage ++ codes "\n"; parts = refl; means = record { front = stage_word stage; parts = refl; means = (read, refl) } }

-- ---- up to the stage `wide`

abbrev IsWideLine : ℕ → List ℕ → ⊤ → Type 0
IsWideLine row = IsWord (codes "stage wide\n")

abbrev first_of : ℕ × ⊤ → ℕ
first_of v = v.0

abbrev IsRowWide : Mark → List ℕ → ℕ → Type 0
IsRowWide mark = Made first_of (Both IsRow IsWideLine)

front_piece : Piece front_at (Both IsMark IsRowWide)
front_piece =
    both_piece mark_line (λ m. row_wide_at) IsMark IsRowWide mark_line_piece
    (λ m. made_piece first_of (both_at row_line (λ r. word_at (codes "stage wide\n"))) (Both IsRow IsWideLine)
    (both_piece row_line (λ r. word_at (codes "stage wide\n")) IsRow IsWideLine row_piece (λ r. word_piece (codes "stage wide\n"))))

-- the bytes begin with these lines, and with those behind them
pub record IsFront (mark : Mark) (row : ℕ) (bytes rest : List ℕ) : Type 0 where
  pub is : bytes ≡ front_text Wide mark row ++ rest
  pub small : row ≤ 255

pub front_means : (bytes rest : List ℕ) (mark : Mark) (row : ℕ) → front_at bytes ≡ Ok ((mark, row), rest) → IsFront mark row bytes rest
front_means bytes rest mark row e =
    let h = front_piece.takes bytes ((mark, row), rest) e in
    let a = h.means in
    let b = a.second.means in
    let own : row ≡ a.second.value.0 = a.second.is in
    let first : a.front ≡ line (codes "funded ") (mark_word mark) = named (codes "funded ") a.front a.first.back (mark_word mark) a.first.parts (a.first.means.parts ∙ ap (λ t. t ++ codes "\n") a.first.means.means.1) in
    let second : b.front ≡ line (codes "row ") (decimal row) = named (codes "row ") b.front b.first.back (decimal a.second.value.0) b.first.parts b.first.means.is ∙ ap (λ (n : ℕ). line (codes "row ") (decimal n)) (sym own) in
    let third : b.back ≡ line (codes "stage ") (stage_word Wide) = b.second in
    let whole : h.text ≡ front_text Wide mark row = lined h.text a.front a.back _ _ a.parts first (lined a.back b.front b.back _ _ b.parts second third) in
    let small = b.first.means.small in
    record { is = h.parts ∙ ap (λ (t : List ℕ). t ++ rest) whole; small = omega (arith, small, own) }

pub front_again : (mark : Mark) (row : ℕ) (rest : List ℕ) → row ≤ 255 → front_at (front_text Wide mark row ++ rest) ≡ Ok ((mark, row), rest)
front_again mark row rest small =
    front_piece.again (front_text Wide mark row) rest (mark, row)
    (record {
      front = line (codes "funded ") (mark_word mark);
      back = line (codes "row ") (decimal row) ++ line (codes "stage ") (stage_word Wide);
      parts = refl;
      first = mark_of mark;
      second = record {
        value = (row, tt);
        is = refl;
        means = record { front = line (codes "row ") (decimal row); back = line (codes "stage ") (stage_word Wide); parts = refl; first = row_of row small; second = refl };
      };
    })

-- ---- up to any other stage

lines_of : (first mark feed second row last : List ℕ) → first ++ (mark ++ (feed ++ (second ++ (row ++ (feed ++ last))))) ≡ (first ++ (mark ++ feed)) ++ ((second ++ (row ++ feed)) ++ last)
lines_of first mark feed second row last = simp append_assoc

pub changeless_is : (mark : Mark) (row : ℕ) → changeless_front mark row ≡ front_text Changeless mark row
unfolding changeless_front
changeless_is mark row = lines_of (codes "funded ") (mark_word mark) (codes "\n") (codes "row ") (decimal row) (line (codes "stage ") (stage_word Changeless))

abbrev pub standing_at : List ℕ → Result ((Mark × (ℕ × Stage)) × List ℕ) (List ℕ)
standing_at = both_at mark_line (λ m. both_at row_line (λ r. stage_line))

abbrev IsStanding : List ℕ → Mark × (ℕ × Stage) → Type 0
IsStanding = Both IsMark (λ m. Both IsRow (λ r. IsStage))

standing_piece : Piece standing_at IsStanding
standing_piece =
    both_piece mark_line (λ m. both_at row_line (λ r. stage_line)) IsMark (λ m. Both IsRow (λ r. IsStage)) mark_line_piece
    (λ m. both_piece row_line (λ r. stage_line) IsRow (λ r. IsStage) row_piece (λ r. stage_line_piece))

pub standing_again : (stage : Stage) (mark : Mark) (row : ℕ) (rest : List ℕ) → IsRead stage → row ≤ 255 → standing_at (front_text stage mark row ++ rest) ≡ Ok ((mark, (row, stage)), rest)
standing_again stage mark row rest read small =
    standing_piece.again (front_text stage mark row) rest (mark, (row, stage))
    (record {
      front = line (codes "funded ") (mark_word mark);
      back = line (codes "row ") (decimal row) ++ line (codes "stage ") (stage_word stage);
      parts = refl;
      first = mark_of mark;
      second = record { front = line (codes "row ") (decimal row); back = line (codes "stage ") (stage_word stage); parts = refl; first = row_of row small; second = stage_of stage read };
    })
