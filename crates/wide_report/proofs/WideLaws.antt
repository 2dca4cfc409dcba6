-- The report of a payment by the wide search is read as one of another stage, and as nothing else.
use Rattle.std.proofs.Common.{◌≡◌, ◌∙◌, ℕ, List, ◌++◌, Result, Ok, Err, refl, sym, ap, subst, append_assoc}
use Rattle.std.specs.Prelude.{codes, IfOk, MatchResult}
use Rattle.std.specs.Fmt.{decimal}
use Rattle.std.specs.List.{flat_map}
use Rattle.closing_log.specs.declared.log.Stage.{Stage}
use Rattle.closing_log.specs.declared.log.Stage.TheVariants.{Changeless, Wide}
use Rattle.closing_log.specs.declared.mark.Mark.{Mark}
use Rattle.closing_log.specs.LogText.{stage_word}
use Rattle.closing_log.specs.MarkWord.{mark_word}
use Rattle.closing_log.proofs.Exactness.{not_both, ok_is}
use Rattle.fund_report.specs.PlainFunded.{PlainFunded}
use Rattle.fund_report.specs.ReportText.{HasFigures, IsReportText, figures_text, funded_text, in_line, line, paid_text, text_of}
use Rattle.fund_report.specs.declared.report.Report.TheVariants.{Funded}
use Rattle.fund_report.proofs.ToldLaws.{one_report}
use Rattle.wide_report.specs.Reading.{IsWideOf, as_stage, changeless_front, front_at, front_text}
use Rattle.wide_report.specs.WideText.{IsWideText}
use Rattle.wide_report.specs.declared.fault.WideReportFault.{WideReportFault}
use Rattle.wide_report.specs.declared.fault.WideReportFault.TheVariants as faults
use Rattle.wide_report.proofs.FrontLaws.{IsFront, changeless_is, front_again, front_means, standing_again, standing_at}

-- ---- the text of a payment, cut behind its stage

abbrev tail_text : List ℕ → PlainFunded → List ℕ
tail_text coins f = line (codes "tries ") (decimal f.tries) ++ (coins ++ (figures_text f ++ paid_text f))

regroup : (a b c d x : List ℕ) → (a ++ (b ++ (c ++ d))) ++ x ≡ (a ++ (b ++ c)) ++ (d ++ x)
regroup a b c d x = simp append_assoc

cut : (coins : List ℕ) (f : PlainFunded) → funded_text coins f ≡ front_text f.stage f.mark f.row ++ tail_text coins f
unfolding funded_text
cut coins f =
    regroup (line (codes "funded ") (mark_word f.mark)) (line (codes "row ") (decimal f.row)) (line (codes "stage ") (stage_word f.stage)) (line (codes "tries ") (decimal f.tries)) (coins ++ (figures_text f ++ paid_text f))

-- what doesn't say the stage is the same
figures_as : (stage : Stage) (f : PlainFunded) → HasFigures f → HasFigures (as_stage stage f)
figures_as stage f h = record { row = h.row; tries = h.tries; weight = h.weight; vsize = h.vsize; fee = h.fee; waste = h.waste; change = h.change }

-- ---- what is read

-- a report of another stage is that of the wide search with its stage
pub wide_text : (mark : Mark) (row : ℕ) (rest text bytes : List ℕ) (g : PlainFunded) → IsFront mark row bytes rest → text ≡ front_text Changeless mark row ++ rest → IsReportText text (Funded g) → IsWideText bytes (as_stage Wide g)
wide_text mark row rest text bytes g front is i =
    let tail : List ℕ = tail_text i.coins g in
    let whole : text ≡ front_text g.stage g.mark g.row ++ tail = i.lines ∙ cut i.coins g in
    let one = ap standing_at is ∙ standing_again Changeless mark row rest tt front.small in
    let two = ap standing_at whole ∙ standing_again g.stage g.mark g.row tail i.can.stage i.figures.row in
    let same : ((mark, (row, Changeless)), rest) ≡ ((g.mark, (g.row, g.stage)), tail) = ok_is ((mark, (row, Changeless)), rest) ((g.mark, (g.row, g.stage)), tail) (standing_at text) one two in
    let first : mark ≡ g.mark = ap (λ (p : (Mark × (ℕ × Stage)) × List ℕ). p.0.0) same in
    let second : row ≡ g.row = ap (λ (p : (Mark × (ℕ × Stage)) × List ℕ). p.0.1.0) same in
    let behind : rest ≡ tail = ap (λ (p : (Mark × (ℕ × Stage)) × List ℕ). p.1) same in
    record {
      coins = i.coins;
      lines = front.is ∙ (ap (λ (x : Mark). front_text Wide x row ++ rest) first ∙ (ap (λ (x : ℕ). front_text Wide g.mark x ++ rest) second ∙ (ap (λ (x : List ℕ). front_text Wide g.mark g.row ++ x) behind ∙ sym (cut i.coins (as_stage Wide g)))));
      ins = i.ins;
      stage = refl;
      some = i.can.coins;
      text = i.can.text;
      figures = figures_as Wide g i.figures;
    }

-- a report of the wide search begins with its mark, its row and its stage; with another stage it is a report as well
record IsBegun (bytes : List ℕ) (f : PlainFunded) : Type 0 where
  rest : List ℕ
  front : front_at bytes ≡ Ok ((f.mark, f.row), rest)
  report : (text : List ℕ) → text ≡ front_text Changeless f.mark f.row ++ rest → IsReportText text (Funded (as_stage Changeless f))

begun : (bytes : List ℕ) (f : PlainFunded) → IsWideText bytes f → IsBegun bytes f
begun bytes f i =
    let tail : List ℕ = tail_text i.coins f in
    let whole : bytes ≡ front_text Wide f.mark f.row ++ tail = i.lines ∙ (cut i.coins f ∙ ap (λ (s : Stage). front_text s f.mark f.row ++ tail) i.stage) in
    record {
      rest = tail;
      front = ap front_at whole ∙ front_again f.mark f.row tail i.figures.row;
      report = λ text is. record {
        coins = i.coins;
        lines = is ∙ sym (cut i.coins (as_stage Changeless f));
        ins = i.ins;
        can = record { stage = tt; coins = i.some; text = i.text };
        figures = figures_as Changeless f i.figures;
      };
    }

-- what is read of it as of another stage
pub other_text : (bytes rest text : List ℕ) (mark : Mark) (row : ℕ) (f : PlainFunded) → front_at bytes ≡ Ok ((mark, row), rest) → text ≡ front_text Changeless mark row ++ rest → IsWideText bytes f → IsReportText text (Funded (as_stage Changeless f))
other_text bytes rest text mark row f e is i =
    let b = begun bytes f i in
    let same : ((mark, row), rest) ≡ ((f.mark, f.row), b.rest) = ok_is ((mark, row), rest) ((f.mark, f.row), b.rest) (front_at bytes) e b.front in
    b.report text (is ∙ ap (λ (p : (Mark × ℕ) × List ℕ). front_text Changeless p.0.0 p.0.1 ++ p.1) same)

-- with its own stage it is the payment again
pub again : (bytes : List ℕ) (f : PlainFunded) → IsWideText bytes f → as_stage Wide (as_stage Changeless f) ≡ f
again bytes f i = ap (λ (s : Stage). as_stage s f) (sym i.stage)

-- ---- what the reader tells

-- what was read of the text of another stage, if there was enough memory
pub found_by : (bytes rest text : List ℕ) (mark : Mark) (row : ℕ) (r : Result PlainFunded WideReportFault) → front_at bytes ≡ Ok ((mark, row), rest) → text ≡ changeless_front mark row ++ rest → IfOk r (IsWideOf text) → IfOk r (IsWideText bytes)
found_by bytes rest text mark row (Ok f) e is (g, i, own) =
    let begins : IsFront mark row bytes rest = front_means bytes rest mark row e in
    subst (IsWideText bytes) (sym own) (wide_text mark row rest text bytes g begins (is ∙ ap (λ (t : List ℕ). t ++ rest) (changeless_is mark row)) i)
found_by bytes rest text mark row (Err fault) e is h = tt

pub only_by : (bytes rest text : List ℕ) (mark : Mark) (row : ℕ) (r : Result PlainFunded WideReportFault) → front_at bytes ≡ Ok ((mark, row), rest) → text ≡ changeless_front mark row ++ rest
    → ((g : PlainFunded) → IsReportText text (Funded g) → MatchResult r (λ read. read ≡ as_stage Wide g) (λ e. e ≡ faults.Memory)) → (f : PlainFunded) → IsWideText bytes f → MatchResult r (λ read. read ≡ f) (λ e. e ≡ faults.Memory)
only_by bytes rest text mark row (Ok x) e is only f i = only (as_stage Changeless f) (other_text bytes rest text mark row f e (is ∙ ap (λ (t : List ℕ). t ++ rest) (changeless_is mark row)) i) ∙ again bytes f i
only_by bytes rest text mark row (Err fault) e is only f i = only (as_stage Changeless f) (other_text bytes rest text mark row f e (is ∙ ap (λ (t : List ℕ). t ++ rest) (changeless_is mark row)) i)

-- bytes that don't begin so are no report of the wide search
pub none_wide : (bytes stop : List ℕ) (f : PlainFunded) → front_at bytes ≡ Err stop → IsWideText bytes f → ⊥
none_wide bytes stop f e i =
    let b = begun bytes f i in
    not_both ((f.mark, f.row), b.rest) stop (front_at bytes) b.front e

-- ---- what is written

-- what is written of a payment by the wide search is its report, where that of the same by another search is
pub wide_of : (f : PlainFunded) → f.stage ≡ Wide → IsReportText (text_of (Funded (as_stage Changeless f))) (Funded (as_stage Changeless f)) → IsWideText (text_of (Funded f)) f
unfolding text_of
wide_of f stage i =
    let coins : List ℕ = flat_map in_line f.coins in
    let begins : IsFront f.mark f.row (funded_text coins f) (tail_text coins f) = record { is = cut coins f ∙ ap (λ (s : Stage). front_text s f.mark f.row ++ tail_text coins f) stage; small = i.figures.row } in
    subst (IsWideText (funded_text coins f)) (ap (λ (s : Stage). as_stage s f) (sym stage))
    (wide_text f.mark f.row (tail_text coins f) (funded_text coins (as_stage Changeless f)) (funded_text coins f) (as_stage Changeless f) begins (cut coins (as_stage Changeless f)) i)

-- ---- a text is the report of one payment

pub same_funded : (f g : PlainFunded) → Funded f ≡ Funded g → f ≡ g
same_funded f g e = cc

pub one_payment : (bytes : List ℕ) (a b : PlainFunded) → IsWideText bytes a → IsWideText bytes b → a ≡ b
one_payment bytes a b first second =
    let begun_a = begun bytes a first in
    let text : List ℕ = front_text Changeless a.mark a.row ++ begun_a.rest in
    let one = begun_a.report text refl in
    let two = other_text bytes begun_a.rest text a.mark a.row b begun_a.front refl second in
    let same : as_stage Changeless a ≡ as_stage Changeless b = same_funded (as_stage Changeless a) (as_stage Changeless b) (one_report text (Funded (as_stage Changeless a)) (Funded (as_stage Changeless b)) one two) in
    sym (again bytes a first) ∙ (ap (as_stage Wide) same ∙ again bytes b second)
