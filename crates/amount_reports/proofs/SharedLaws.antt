-- The report of a payment whose recipients bear the fee is read exactly.
use Rattle.std.proofs.Common.{◌≡◌, ℕ, suc, ◌+◌, ◌≤◌, ◌<◌, eqb, false, List, [], ◌∷◌, ◌++◌, length, Result, Ok, Err, Option, refl, sym, ap, subst, ◌∙◌, append_assoc, arith, eq-eqb, ne_eqb}
use Rattle.std.specs.Prelude.{codes, IfOk, IfSome, MatchResult}
use Rattle.std.specs.Fmt.{decimal}
use Rattle.std.specs.List.{AllByRecursion}
use Rattle.std.proofs.lemmas.Bool.{eqb-true}
use Rattle.std.proofs.lemmas.List.{append-nil, length-append}
use Rattle.fund_base.specs.Parsing.{◌>>=◌}
use Rattle.fund_base.proofs.Laws.{bind_is, bind_ok, guard_met, guard_ok}
use Rattle.closing_log.specs.Lines.{number_line}
use Rattle.closing_log.specs.Reading.{both_at}
use Rattle.closing_log.proofs.Exactness.{Held, Piece}
use Rattle.closing_log.proofs.LineLaws.{IsNumberLine, number_line_piece}
use Rattle.closing_log.proofs.PartLaws.{piece_as}
use Rattle.fund_report.specs.Reading.{change_line, change_rest, paid_at, psbt_line, row_line, tries_line, wide_line}
use Rattle.fund_report.specs.ReportText.{AreInLines, IsLine, IsWide, change_text, line}
use Rattle.fund_report.specs.declared.report.InLine.{InLine}
use Rattle.fund_report.proofs.LineLaws.{IsChange, change_piece}
use Rattle.amount_reports.specs.Read.{Agrees}
use Rattle.amount_reports.specs.Reading.{SharedParts, begins, figures_at, head_at, in_at, ins_at, pay_at, pay_of, pays_at, place_at, placed_at, shared_at, shared_end, shared_lines, shared_of, shared_parts, shared_tail}
use Rattle.amount_reports.specs.SharedText.{IsSharedText, PlainShared, head_text, paid_text, pay_text, pays_text, shared_text}
use Rattle.amount_reports.specs.declared.fault.AmountFault.{AmountFault}
use Rattle.amount_reports.specs.declared.fault.AmountFault.TheVariants as faults
use Rattle.amount_reports.proofs.Rows.{AreRows, IsRow, rows_again, rows_take}
use Rattle.amount_reports.proofs.Shown.{FigureFits, Shown, behind_shown, both_shown, figures_of, figures_shown, in_row, ins_of, ins_to, named_shown, number_text, psbt_shown, spaced_shown, spaced_text, wide_shown}
use Rattle.amount_reports.proofs.SweptLaws.{both_is, both_ok, some_coins}

-- ---- the lines before the coins

abbrev row_text : ℕ → List ℕ
row_text n = line (codes "row ") (decimal n)

abbrev tries_text : ℕ → List ℕ
tries_text n = line (codes "tries ") (decimal n)

abbrev IsByte : ℕ → Type 0
IsByte n = n ≤ 255

row_shown : Piece row_line (Shown row_text IsByte)
row_shown =
    behind_shown (codes "row ") (number_line 255) number_text IsByte
    (piece_as (number_line 255) (IsNumberLine 255) (Shown number_text IsByte)
    (λ text n m. record { is = m.is; fits = m.small }) (λ text n s. record { small = s.fits; is = s.is }) (number_line_piece 255 (omega arith)))

abbrev shown_head : ℕ × ℕ → List ℕ
shown_head v = head_text v.0 v.1

abbrev HeadFits : ℕ × ℕ → Type 0
HeadFits v = IsByte v.0 × IsWide v.1

head_shown : Piece head_at (Shown shown_head HeadFits)
head_shown =
    behind_shown (codes "shared\n") (both_at row_line (λ r. tries_line)) (λ (v : ℕ × ℕ). row_text v.0 ++ tries_text v.1) HeadFits
    (both_shown row_line tries_line row_text IsByte tries_text IsWide row_shown (named_shown (codes "tries ")))

-- ---- what recipients get

abbrev most_wide : ℕ
most_wide = 18_446_744_073_709_551_615

place_shown : Piece place_at (Shown spaced_text IsWide)
place_shown = spaced_shown most_wide (omega arith)

abbrev placed_text : ℕ × ℕ → List ℕ
placed_text v = codes "pay " ++ (spaced_text v.0 ++ number_text v.1)

abbrev PlacedFits : ℕ × ℕ → Type 0
PlacedFits v = IsWide v.0 × IsWide v.1

placed_shown : Piece placed_at (Shown placed_text PlacedFits)
placed_shown = behind_shown (codes "pay ") (both_at place_at (λ p. wide_line)) (λ (v : ℕ × ℕ). spaced_text v.0 ++ number_text v.1) PlacedFits (both_shown place_at wide_line spaced_text IsWide number_text IsWide place_shown wide_shown)

-- the line of what the recipient at a place gets
pub record IsPay (place : ℕ) (text : List ℕ) (amount : ℕ) : Type 0 where
  pub is : text ≡ pay_text place amount
  pub place_fits : IsWide place
  pub fits : IsWide amount

grouped : (place amount : List ℕ) → codes "pay " ++ ((place ++ codes " ") ++ (amount ++ codes "\n")) ≡ codes "pay " ++ ((place ++ (codes " " ++ amount)) ++ codes "\n")
grouped place amount = ap (λ t. codes "pay " ++ t) (append_assoc place (codes " ") (amount ++ codes "\n") ∙ sym (append_assoc place (codes " " ++ amount) (codes "\n")))

pay_takes : (place : ℕ) (bytes : List ℕ) (x : ℕ × List ℕ) → pay_at place bytes ≡ Ok x → Held (IsPay place) bytes x
pay_takes place bytes x e =
    let found = bind_ok (placed_at bytes) (pay_of place) x e in
    let y = found.0 in
    let here = guard_met (eqb y.0.0 place) y.1 (Ok (y.0.1, y.1)) x found.2 in
    let same : (y.0.1, y.1) ≡ x = (let it = here.1 in cc) in
    let h = placed_shown.takes bytes y found.1 in
    let place_is : y.0.0 ≡ place = eqb-true y.0.0 place here.0 in
    let made : Held (IsPay place) bytes (y.0.1, y.1) = record {
      text = h.text;
      parts = h.parts;
      means = record {
        is = h.means.is ∙ grouped (decimal y.0.0) (decimal y.0.1) ∙ ap (λ (n : ℕ). pay_text n y.0.1) place_is;
        place_fits = subst IsWide place_is h.means.fits.0;
        fits = h.means.fits.1;
      };
    } in
    subst (λ (z : ℕ × List ℕ). Held (IsPay place) bytes z) same made

pay_again : (place : ℕ) (text rest : List ℕ) (amount : ℕ) → IsPay place text amount → pay_at place (text ++ rest) ≡ Ok (amount, rest)
pay_again place text rest amount p =
    let is : text ≡ placed_text (place, amount) = p.is ∙ sym (grouped (decimal place) (decimal amount)) in
    bind_is (placed_at (text ++ rest)) (pay_of place) ((place, amount), rest) (Ok (amount, rest))
    (placed_shown.again text rest (place, amount) (record { is = is; fits = (p.place_fits, p.fits) }))
    (rw (eq-eqb place place refl) refl)

pay_row : IsRow 112 pay_at IsPay
pay_row = record {
  takes = pay_takes;
  again = pay_again;
  led = λ place text amount p more. ap (λ t. begins 112 (t ++ more)) p.is;
}

-- what such lines are together: each amount fits, and so does the last place
record ArePays (place : ℕ) (amounts : List ℕ) (text : List ℕ) : Type 0 where
  pub is : text ≡ pays_text place amounts
  pub fit : AllByRecursion IsWide amounts
  pub last : (0 < length amounts) → place + length amounts ≤ most_wide + 1

pays_to : (place : ℕ) (amounts : List ℕ) (text : List ℕ) → AreRows IsPay place amounts text → ArePays place amounts text
pays_to place [] text rows = record { is = rows; fit = tt; last = λ some. absurd (omega arith) }
pays_to place (a ∷ others) text rows =
    let more = pays_to (suc place) others rows.back rows.others in
    record {
      is = rows.parts ∙ ap (λ t. t ++ rows.back) rows.first.is ∙ ap (λ t. pay_text place a ++ t) more.is;
      fit = (rows.first.fits, more.fit);
      last = λ some. by others rows.first.place_fits more.last;
    }
  where
    by : (others : List ℕ) → IsWide place → ((0 < length others) → suc place + length others ≤ most_wide + 1) → place + suc (length others) ≤ most_wide + 1
    by [] fits last = omega (arith, fits)
    by (b ∷ bs) fits last = omega (arith, last (omega arith))

pays_of : (place : ℕ) (amounts : List ℕ) (text : List ℕ) → text ≡ pays_text place amounts → AllByRecursion IsWide amounts → place + length amounts ≤ most_wide + 1 → AreRows IsPay place amounts text
pays_of place [] text is fit last = is
pays_of place (a ∷ others) text is fit last = record {
  front = pay_text place a;
  back = pays_text (suc place) others;
  parts = is;
  first = record { is = refl; place_fits = omega (arith, last); fits = fit.0 };
  others = pays_of (suc place) others (pays_text (suc place) others) refl fit.1 (omega (arith, last));
}

few_of : (amounts : List ℕ) → ((0 < length amounts) → 0 + length amounts ≤ most_wide + 1) → length amounts ≤ most_wide + 1
few_of [] last = omega arith
few_of (a ∷ others) last = omega (arith, last (omega arith))

-- ---- the lines behind them

change_shown : Piece change_line (Shown (λ (c : Option ℕ). line (codes "change ") (change_text c)) (λ (c : Option ℕ). IfSome c IsWide))
change_shown =
    behind_shown (codes "change ") change_rest (λ (c : Option ℕ). change_text c ++ codes "\n") (λ (c : Option ℕ). IfSome c IsWide)
    (piece_as change_rest IsChange (Shown (λ (c : Option ℕ). change_text c ++ codes "\n") (λ (c : Option ℕ). IfSome c IsWide))
    (λ text c m. record { is = m.is; fits = m.small }) (λ text c s. record { is = s.is; small = s.fits }) change_piece)

abbrev Tail : Type 0
Tail = (ℕ × (ℕ × ℕ)) × (Option ℕ × List ℕ)

abbrev tail_text : Tail → List ℕ
tail_text v = figures_of v.0 ++ paid_text v.1.0 v.1.1

abbrev PaidFits : Option ℕ × List ℕ → Type 0
PaidFits v = IfSome v.0 IsWide × IsLine v.1

abbrev TailFits : Tail → Type 0
TailFits v = FigureFits v.0 × PaidFits v.1

tail_shown : Piece shared_tail (Shown tail_text TailFits)
tail_shown =
    both_shown figures_at paid_at figures_of FigureFits (λ (v : Option ℕ × List ℕ). paid_text v.0 v.1) PaidFits figures_shown
    (both_shown change_line psbt_line (λ (c : Option ℕ). line (codes "change ") (change_text c)) (λ (c : Option ℕ). IfSome c IsWide) (λ t. line (codes "psbt ") t) IsLine change_shown psbt_shown)

-- ---- what is read is a text

abbrev after_head : List ℕ → Result ((List InLine × (List ℕ × Tail)) × List ℕ) (List ℕ)
after_head = both_at ins_at (λ c. both_at pays_at (λ p. shared_tail))

abbrev after_coins : List ℕ → Result ((List ℕ × Tail) × List ℕ) (List ℕ)
after_coins = both_at pays_at (λ p. shared_tail)

shared_given : (bytes : List ℕ) (v : SharedParts) → shared_parts bytes ≡ Ok (v, []) → 0 < length v.1.0 → IsSharedText bytes (shared_of v)
unfolding shared_text
shared_given bytes v e some =
    let one = both_ok head_at (λ h. after_head) bytes (v, []) e in
    let two = both_ok ins_at (λ c. after_coins) one.0 (v.1, []) one.2 in
    let three = both_ok pays_at (λ p. shared_tail) two.0 (v.1.1, []) two.2 in
    let head = head_shown.takes bytes (v.0, one.0) one.1 in
    let ins = rows_take 105 (λ place. in_at) _ in_row (length one.0) [] one.0 (v.1.0, two.0) two.1 in
    let pays = rows_take 112 pay_at IsPay pay_row (length two.0) [] two.0 (v.1.1.0, three.0) three.1 in
    let tail = tail_shown.takes three.0 (v.1.1.1, []) three.2 in
    let last : three.0 ≡ tail_text v.1.1.1 = tail.parts ∙ append-nil tail.text ∙ tail.means.is in
    let coins_are : ins.news ≡ v.1.0 = sym ins.whole in
    let amounts_are : pays.news ≡ v.1.1.0 = sym pays.whole in
    let paid : ArePays 0 v.1.1.0 pays.text = subst (λ (paid : List ℕ). ArePays 0 paid pays.text) amounts_are (pays_to 0 pays.news pays.text pays.rows) in
    record {
      coins = ins.text;
      lines = head.parts ∙ ap (λ t. t ++ one.0) head.means.is
          ∙ ap (λ t. shown_head v.0 ++ t) (ins.parts ∙ ap (λ t. ins.text ++ t) (pays.parts ∙ ap (λ t. t ++ three.0) paid.is ∙ ap (λ t. pays_text 0 v.1.1.0 ++ t) last));
      ins = subst (λ (ls : List InLine). AreInLines ls ins.text) coins_are (ins_to 0 ins.news ins.text ins.rows);
      some = some;
      row = head.means.fits.0;
      tries = head.means.fits.1;
      few = few_of v.1.1.0 paid.last;
      amounts = paid.fit;
      weight = tail.means.fits.0.0;
      vsize = tail.means.fits.0.1.0;
      fee = tail.means.fits.0.1.1;
      change = tail.means.fits.1.0;
      psbt = tail.means.fits.1.1;
    }

shared_ok : (r y : PlainShared) (rest : List ℕ) → shared_end r rest ≡ Ok y → (rest ≡ []) × (0 < length r.coins) × (r ≡ y)
shared_ok r y (b ∷ rest) e = absurd cc
shared_ok r y [] e =
    let some = guard_ok (eqb (length r.coins) 0) [] (Ok r) y e in
    (refl, some_coins (length r.coins) some.0, (let it = some.1 in cc))

pub shared_means : (bytes : List ℕ) (r : PlainShared) → shared_at bytes ≡ Ok r → IsSharedText bytes r
unfolding shared_at
shared_means bytes r e =
    let found = bind_ok (shared_lines bytes) (λ x. shared_end x.0 x.1) r e in
    let made = bind_ok (shared_parts bytes) (λ x. Ok (shared_of x.0, x.1)) found.0 found.1 in
    let same : (shared_of made.0.0, made.0.1) ≡ found.0 = (let it = made.2 in cc) in
    let end = shared_ok found.0.0 r found.0.1 found.2 in
    let nothing : made.0.1 ≡ [] = ap (λ (x : PlainShared × List ℕ). x.1) same ∙ end.0 in
    let is : shared_of made.0.0 ≡ r = ap (λ (x : PlainShared × List ℕ). x.0) same ∙ end.2 in
    let some : 0 < length made.0.0.1.0 = subst (λ (x : PlainShared × List ℕ). 0 < length x.0.coins) (sym same) end.1 in
    subst (IsSharedText bytes) is (shared_given bytes made.0.0 (made.1 ∙ ap (λ (t : List ℕ). Ok (made.0.0, t)) nothing) some)

-- ---- and a text is read

abbrev parts_of : PlainShared → SharedParts
parts_of r = ((r.row, r.tries), (r.coins, (r.amounts, ((r.weight, (r.vsize, r.fee)), (r.change, r.psbt)))))

-- what stands behind coins or recipients begins otherwise
no_coin : (amounts : List ℕ) (tail : Tail) → begins 105 (pays_text 0 amounts ++ tail_text tail) ≡ false
no_coin [] tail = refl
no_coin (a ∷ others) tail = refl

shared_again : (bytes : List ℕ) (r : PlainShared) → IsSharedText bytes r → shared_parts bytes ≡ Ok (parts_of r, [])
unfolding shared_text
shared_again bytes r i =
    let v : SharedParts = parts_of r in
    let tail : List ℕ = tail_text v.1.1.1 in
    let pays : List ℕ = pays_text 0 r.amounts ++ tail in
    let mid : List ℕ = i.coins ++ pays in
    let one : head_at bytes ≡ Ok (v.0, mid) = ap head_at i.lines ∙ head_shown.again (shown_head v.0) mid v.0 (record { is = refl; fits = (i.row, i.tries) }) in
    let two : ins_at mid ≡ Ok (r.coins, pays) = rows_again 105 (λ place. in_at) _ in_row (length mid) [] r.coins i.coins pays (ins_of 0 r.coins i.coins i.ins) (no_coin r.amounts v.1.1.1) (omega (arith, length-append i.coins pays)) in
    let rows : AreRows IsPay 0 r.amounts (pays_text 0 r.amounts) = pays_of 0 r.amounts (pays_text 0 r.amounts) refl i.amounts (omega (arith, i.few)) in
    let three : pays_at pays ≡ Ok (r.amounts, tail) = rows_again 112 pay_at IsPay pay_row (length pays) [] r.amounts (pays_text 0 r.amounts) tail rows refl (omega (arith, length-append (pays_text 0 r.amounts) tail)) in
    let four : shared_tail tail ≡ Ok (v.1.1.1, []) = ap shared_tail (sym (append-nil tail)) ∙ tail_shown.again tail [] v.1.1.1 (record { is = refl; fits = ((i.weight, (i.vsize, i.fee)), (i.change, i.psbt)) }) in
    both_is head_at (λ h. after_head) bytes mid [] v.0 v.1 one (both_is ins_at (λ c. after_coins) mid pays [] r.coins v.1.1 two (both_is pays_at (λ p. shared_tail) pays tail [] r.amounts v.1.1.1 three four))

shared_done : (r : PlainShared) → 0 < length r.coins → shared_end r [] ≡ Ok r
shared_done r some = rw (ne_eqb (length r.coins) 0 (λ e. omega (arith, e, some))) refl

pub shared_read : (bytes : List ℕ) (r : PlainShared) → IsSharedText bytes r → shared_at bytes ≡ Ok r
unfolding shared_at
shared_read bytes r i =
    bind_is (shared_lines bytes) (λ x. shared_end x.0 x.1) (r, []) (Ok r)
    (bind_is (shared_parts bytes) (λ x. Ok (shared_of x.0, x.1)) (parts_of r, []) (Ok (r, [])) (shared_again bytes r i) refl)
    (shared_done r i.some)

-- a text has one report
pub one_shared : (bytes : List ℕ) (a b : PlainShared) → IsSharedText bytes a → IsSharedText bytes b → a ≡ b
one_shared bytes a b first second = let one = shared_read bytes a first in let two = shared_read bytes b second in cc

-- ---- what the reader tells

pub fails_lines : (bytes stop : List ℕ) → shared_lines bytes ≡ Err stop → (x : List ℕ) × (shared_at bytes ≡ Err x)
unfolding shared_at
fails_lines bytes stop e = (stop, ap (λ (q : Result (PlainShared × List ℕ) (List ℕ)). q >>= λ x. shared_end x.0 x.1) e)

behind_fails : (r : PlainShared) (rest : List ℕ) → 0 < length rest → shared_end r rest ≡ Err rest
behind_fails r [] some = absurd (omega arith)
behind_fails r (b ∷ rest) some = refl

pub fails_behind : (bytes rest : List ℕ) (r : PlainShared) → shared_lines bytes ≡ Ok (r, rest) → 0 < length rest → (x : List ℕ) × (shared_at bytes ≡ Err x)
unfolding shared_at
fails_behind bytes rest r e some = (rest, bind_is (shared_lines bytes) (λ x. shared_end x.0 x.1) (r, rest) (Err rest) e (behind_fails r rest some))

coins_fail : (r : PlainShared) (rest : List ℕ) → length r.coins ≡ 0 → shared_end r rest ≡ Err rest
coins_fail r [] none = rw (eq-eqb (length r.coins) 0 none) refl
coins_fail r (b ∷ rest) none = refl

pub fails_coins : (bytes rest : List ℕ) (r : PlainShared) → shared_lines bytes ≡ Ok (r, rest) → length r.coins ≡ 0 → (x : List ℕ) × (shared_at bytes ≡ Err x)
unfolding shared_at
fails_coins bytes rest r e none = (rest, bind_is (shared_lines bytes) (λ x. shared_end x.0 x.1) (r, rest) (Err rest) e (coins_fail r rest none))

pub tells_found : (bytes : List ℕ) (r : Result PlainShared AmountFault) → Agrees (λ x. x) r (shared_at bytes) → IfOk r (λ report. IsSharedText bytes report)
tells_found bytes (Ok report) e = shared_means bytes report e
tells_found bytes (Err f) e = tt

pub tells_only : (bytes : List ℕ) (r : Result PlainShared AmountFault) → Agrees (λ x. x) r (shared_at bytes) → (report : PlainShared) → IsSharedText bytes report → MatchResult r (λ read. read ≡ report) (λ e. e ≡ faults.Memory)
tells_only bytes (Ok read) e report i = one_shared bytes read report (shared_means bytes read e) i
tells_only bytes (Err faults.Memory) e report i = refl
tells_only bytes (Err faults.Form) e report i = absurd (let read = shared_read bytes report i in let fails = e.1 in cc)
