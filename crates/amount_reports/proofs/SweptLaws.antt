-- The report of a payment of all coins is read exactly.
use Rattle.std.proofs.Common.{◌≡◌, ℕ, zero, suc, ◌<◌, eqb, false, List, [], ◌∷◌, ◌++◌, length, Result, Ok, Err, refl, sym, ap, subst, ◌∙◌, arith, eq-eqb, ne_eqb}
use Rattle.std.specs.Prelude.{codes, IfOk, MatchResult}
use Rattle.std.specs.Fmt.{decimal}
use Rattle.std.proofs.lemmas.List.{append-nil, length-append}
use Rattle.fund_base.specs.Parsing.{◌>>=◌}
use Rattle.fund_base.proofs.Laws.{bind_is, bind_ok, guard_ok}
use Rattle.closing_log.specs.Reading.{both_at}
use Rattle.fund_report.specs.Reading.{psbt_line}
use Rattle.fund_report.specs.ReportText.{AreInLines, IsLine, line}
use Rattle.fund_report.specs.declared.report.InLine.{InLine}
use Rattle.closing_log.proofs.Exactness.{Piece}
use Rattle.amount_reports.specs.Read.{Agrees}
use Rattle.amount_reports.specs.Reading.{figures_at, in_at, ins_at, named_line, swept_at, swept_end, swept_lines, swept_of, swept_tail}
use Rattle.amount_reports.specs.SweptText.{IsSweptText, PlainSwept, swept_text}
use Rattle.amount_reports.specs.declared.fault.AmountFault.{AmountFault}
use Rattle.amount_reports.specs.declared.fault.AmountFault.TheVariants as faults
use Rattle.amount_reports.proofs.Rows.{rows_again, rows_take}
use Rattle.amount_reports.proofs.Shown.{FigureFits, Shown, both_shown, figures_of, figures_shown, in_row, ins_of, ins_to, named_shown, psbt_shown}

-- two parts were read
pub both_ok : {X Y : Type 0} (first : List ℕ → Result (X × List ℕ) (List ℕ)) (second : X → List ℕ → Result (Y × List ℕ) (List ℕ)) (bytes : List ℕ) (v : (X × Y) × List ℕ) → both_at first second bytes ≡ Ok v → (rest : List ℕ) × (first bytes ≡ Ok (v.0.0, rest)) × (second v.0.0 rest ≡ Ok (v.0.1, v.1))
both_ok {X = X} {Y = Y} first second bytes v e =
    let one = bind_ok (first bytes) (λ x. second x.0 x.1 >>= λ y. Ok ((x.0, y.0), y.1)) v e in
    let two = bind_ok (second one.0.0 one.0.1) (λ y. Ok ((one.0.0, y.0), y.1)) v one.2 in
    let same : ((one.0.0, two.0.0), two.0.1) ≡ v = (let it = two.2 in cc) in
    subst (λ (w : (X × Y) × List ℕ). (rest : List ℕ) × (first bytes ≡ Ok (w.0.0, rest)) × (second w.0.0 rest ≡ Ok (w.0.1, w.1))) same (one.0.1, one.1, two.1)

-- and are read again
pub both_is : {X Y : Type 0} (first : List ℕ → Result (X × List ℕ) (List ℕ)) (second : X → List ℕ → Result (Y × List ℕ) (List ℕ)) (bytes mid rest : List ℕ) (x : X) (y : Y) → first bytes ≡ Ok (x, mid) → second x mid ≡ Ok (y, rest) → both_at first second bytes ≡ Ok ((x, y), rest)
both_is first second bytes mid rest x y one two = bind_is (first bytes) (λ a. second a.0 a.1 >>= λ b. Ok ((a.0, b.0), b.1)) (x, mid) (Ok ((x, y), rest)) one (bind_is (second x mid) (λ b. Ok ((x, b.0), b.1)) (y, rest) (Ok ((x, y), rest)) two refl)

abbrev tail_text : (ℕ × (ℕ × ℕ)) × List ℕ → List ℕ
tail_text v = figures_of v.0 ++ line (codes "psbt ") v.1

abbrev TailFits : (ℕ × (ℕ × ℕ)) × List ℕ → Type 0
TailFits v = FigureFits v.0 × IsLine v.1

tail_shown : Piece swept_tail (Shown tail_text TailFits)
tail_shown = both_shown figures_at psbt_line figures_of FigureFits (λ t. line (codes "psbt ") t) IsLine figures_shown psbt_shown

-- ---- what is read is a text

abbrev Parts : Type 0
Parts = ℕ × (List InLine × ((ℕ × (ℕ × ℕ)) × List ℕ))

abbrev parts_of : PlainSwept → Parts
parts_of r = (r.amount, (r.coins, ((r.weight, (r.vsize, r.fee)), r.psbt)))

swept_given : (bytes : List ℕ) (v : Parts) → both_at (named_line (codes "swept ")) (λ a. both_at ins_at (λ c. swept_tail)) bytes ≡ Ok (v, []) → 0 < length v.1.0 → IsSweptText bytes (swept_of v)
unfolding swept_text
swept_given bytes v e some =
    let one = both_ok (named_line (codes "swept ")) (λ a. both_at ins_at (λ c. swept_tail)) bytes (v, []) e in
    let two = both_ok ins_at (λ c. swept_tail) one.0 (v.1, []) one.2 in
    let amount = (named_shown (codes "swept ")).takes bytes (v.0, one.0) one.1 in
    let ins = rows_take 105 (λ place. in_at) _ in_row (length one.0) [] one.0 (v.1.0, two.0) two.1 in
    let tail = tail_shown.takes two.0 (v.1.1, []) two.2 in
    let last : two.0 ≡ tail_text v.1.1 = tail.parts ∙ append-nil tail.text ∙ tail.means.is in
    let same : ins.news ≡ v.1.0 = sym ins.whole in
    record {
      coins = ins.text;
      lines = amount.parts ∙ ap (λ t. t ++ one.0) amount.means.is ∙ ap (λ t. line (codes "swept ") (decimal v.0) ++ t) (ins.parts ∙ ap (λ t. ins.text ++ t) last);
      ins = subst (λ (ls : List InLine). AreInLines ls ins.text) same (ins_to 0 ins.news ins.text ins.rows);
      some = some;
      amount = amount.means.fits;
      weight = tail.means.fits.0.0;
      vsize = tail.means.fits.0.1.0;
      fee = tail.means.fits.0.1.1;
      psbt = tail.means.fits.1;
    }

pub some_coins : (n : ℕ) → (eqb n 0) ≡ false → 0 < n
some_coins zero e = absurd cc
some_coins (suc n) e = omega arith

end_ok : (r y : PlainSwept) (rest : List ℕ) → swept_end r rest ≡ Ok y → (rest ≡ []) × (0 < length r.coins) × (r ≡ y)
end_ok r y (b ∷ rest) e = absurd cc
end_ok r y [] e =
    let some = guard_ok (eqb (length r.coins) 0) [] (Ok r) y e in
    (refl, some_coins (length r.coins) some.0, (let it = some.1 in cc))

pub swept_means : (bytes : List ℕ) (r : PlainSwept) → swept_at bytes ≡ Ok r → IsSweptText bytes r
unfolding swept_at
swept_means bytes r e =
    let found = bind_ok (swept_lines bytes) (λ x. swept_end x.0 x.1) r e in
    let made = bind_ok (both_at (named_line (codes "swept ")) (λ a. both_at ins_at (λ c. swept_tail)) bytes) (λ x. Ok (swept_of x.0, x.1)) found.0 found.1 in
    let same : (swept_of made.0.0, made.0.1) ≡ found.0 = (let it = made.2 in cc) in
    let end = end_ok found.0.0 r found.0.1 found.2 in
    let nothing : made.0.1 ≡ [] = ap (λ (x : PlainSwept × List ℕ). x.1) same ∙ end.0 in
    let is : swept_of made.0.0 ≡ r = ap (λ (x : PlainSwept × List ℕ). x.0) same ∙ end.2 in
    let some : 0 < length made.0.0.1.0 = subst (λ (x : PlainSwept × List ℕ). 0 < length x.0.coins) (sym same) end.1 in
    subst (IsSweptText bytes) is (swept_given bytes made.0.0 (made.1 ∙ ap (λ (t : List ℕ). Ok (made.0.0, t)) nothing) some)

-- ---- and a text is read

swept_again : (bytes : List ℕ) (r : PlainSwept) → IsSweptText bytes r → both_at (named_line (codes "swept ")) (λ a. both_at ins_at (λ c. swept_tail)) bytes ≡ Ok (parts_of r, [])
unfolding swept_text
swept_again bytes r i =
    let v : Parts = parts_of r in
    let tail : List ℕ = tail_text v.1.1 in
    let mid : List ℕ = i.coins ++ tail in
    let one : named_line (codes "swept ") bytes ≡ Ok (r.amount, mid) = ap (named_line (codes "swept ")) i.lines ∙ (named_shown (codes "swept ")).again (line (codes "swept ") (decimal r.amount)) mid r.amount (record { is = refl; fits = i.amount }) in
    let two : ins_at mid ≡ Ok (r.coins, tail) = rows_again 105 (λ place. in_at) _ in_row (length mid) [] r.coins i.coins tail (ins_of 0 r.coins i.coins i.ins) refl (omega (arith, length-append i.coins tail)) in
    let three : swept_tail tail ≡ Ok (v.1.1, []) = ap swept_tail (sym (append-nil tail)) ∙ tail_shown.again tail [] v.1.1 (record { is = refl; fits = ((i.weight, (i.vsize, i.fee)), i.psbt) }) in
    both_is (named_line (codes "swept ")) (λ a. both_at ins_at (λ c. swept_tail)) bytes mid [] r.amount v.1 one (both_is ins_at (λ c. swept_tail) mid tail [] r.coins v.1.1 two three)

end_is : (r : PlainSwept) → 0 < length r.coins → swept_end r [] ≡ Ok r
end_is r some = rw (ne_eqb (length r.coins) 0 (λ e. omega (arith, e, some))) refl

pub swept_read : (bytes : List ℕ) (r : PlainSwept) → IsSweptText bytes r → swept_at bytes ≡ Ok r
unfolding swept_at
swept_read bytes r i =
    bind_is (swept_lines bytes) (λ x. swept_end x.0 x.1) (r, []) (Ok r)
    (bind_is (both_at (named_line (codes "swept ")) (λ a. both_at ins_at (λ c. swept_tail)) bytes) (λ x. Ok (swept_of x.0, x.1)) (parts_of r, []) (Ok (r, [])) (swept_again bytes r i) refl)
    (end_is r i.some)

-- a text has one report
pub one_swept : (bytes : List ℕ) (a b : PlainSwept) → IsSweptText bytes a → IsSweptText bytes b → a ≡ b
one_swept bytes a b first second = let one = swept_read bytes a first in let two = swept_read bytes b second in cc

-- ---- what the reader tells

pub fails_lines : (bytes stop : List ℕ) → swept_lines bytes ≡ Err stop → (x : List ℕ) × (swept_at bytes ≡ Err x)
unfolding swept_at
fails_lines bytes stop e = (stop, ap (λ (q : Result (PlainSwept × List ℕ) (List ℕ)). q >>= λ x. swept_end x.0 x.1) e)

behind_fails : (r : PlainSwept) (rest : List ℕ) → 0 < length rest → swept_end r rest ≡ Err rest
behind_fails r [] some = absurd (omega arith)
behind_fails r (b ∷ rest) some = refl

pub fails_behind : (bytes rest : List ℕ) (r : PlainSwept) → swept_lines bytes ≡ Ok (r, rest) → 0 < length rest → (x : List ℕ) × (swept_at bytes ≡ Err x)
unfolding swept_at
fails_behind bytes rest r e some = (rest, bind_is (swept_lines bytes) (λ x. swept_end x.0 x.1) (r, rest) (Err rest) e (behind_fails r rest some))

coins_fail : (r : PlainSwept) (rest : List ℕ) → length r.coins ≡ 0 → swept_end r rest ≡ Err rest
coins_fail r [] none = rw (eq-eqb (length r.coins) 0 none) refl
coins_fail r (b ∷ rest) none = refl

pub fails_coins : (bytes rest : List ℕ) (r : PlainSwept) → swept_lines bytes ≡ Ok (r, rest) → length r.coins ≡ 0 → (x : List ℕ) × (swept_at bytes ≡ Err x)
unfolding swept_at
fails_coins bytes rest r e none = (rest, bind_is (swept_lines bytes) (λ x. swept_end x.0 x.1) (r, rest) (Err rest) e (coins_fail r rest none))

pub tells_found : (bytes : List ℕ) (r : Result PlainSwept AmountFault) → Agrees (λ x. x) r (swept_at bytes) → IfOk r (λ report. IsSweptText bytes report)
tells_found bytes (Ok report) e = swept_means bytes report e
tells_found bytes (Err f) e = tt

pub tells_only : (bytes : List ℕ) (r : Result PlainSwept AmountFault) → Agrees (λ x. x) r (swept_at bytes) → (report : PlainSwept) → IsSweptText bytes report → MatchResult r (λ read. read ≡ report) (λ e. e ≡ faults.Memory)
tells_only bytes (Ok read) e report i = one_swept bytes read report (swept_means bytes read e) i
tells_only bytes (Err faults.Memory) e report i = refl
tells_only bytes (Err faults.Form) e report i = absurd (let read = swept_read bytes report i in let fails = e.1 in cc)
