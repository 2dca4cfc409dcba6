-- Which lines of a report a summary keeps.
use Rattle.std.proofs.Common.{◌≡◌, ℕ, zero, suc, ◌^◌, ◌/◌, ◌%◌, ◌<◌, ◌≤◌, Bool, true, false, not, ◌&&◌, eqb, cond, List, [], ◌∷◌, ◌++◌, length, Option, Some, None, refl, sym, ap, subst, ◌∙◌, append_assoc, arith, eqb-true}
use Rattle.std.specs.Fmt.{decimal, signed_decimal}
use Rattle.std.specs.Int.{IsInRange}
use Rattle.std.specs.List.{AllByRecursion, flat_map, list_all}
use Rattle.std.specs.Prelude.{codes, reverse, slice_index, ℤ, pos, negsuc, IfSome}
use Rattle.std.specs.Str.Parse.{AllDigits}
use Rattle.std.proofs.lemmas.Fmt.{decimal_is_IsNumeral_wide}
use Rattle.std.proofs.lemmas.List.{append-nil}
use Rattle.std.proofs.lemmas.List.Concat.{flat_map-cons}
use Rattle.std.proofs.lemmas.List.Folds.{list_all-append}
use Rattle.std.proofs.lemmas.Str.Parse.{digit_at}
use Rattle.hex.specs.Hex.{encode_lower, encode_with, lower_digits}
use Rattle.closing_log.specs.declared.log.Stage.{Stage}
use Rattle.closing_log.specs.declared.log.Stage.TheVariants.{Presets, Changeless, LeanBig, Draw, LeanSmall, Wide}
use Rattle.closing_log.specs.declared.mark.Mark.{Mark}
use Rattle.closing_log.specs.declared.mark.Mark.TheVariants.{Exhausted, Partial, Drawn, Given}
use Rattle.closing_log.specs.LogText.{stage_word}
use Rattle.closing_log.specs.MarkWord.{mark_word}
use Rattle.fund_report.specs.PlainFunded.{PlainFunded}
use Rattle.fund_report.specs.ReportText.{IsSigned, IsSized, IsSizedCoin, IsWide, CanBeRead, change_text, figures_text, found_text, funded_text, in_line, line, none_text, paid_text, text_of, unfinished_text}
use Rattle.fund_report.specs.declared.report.InLine.{InLine}
use Rattle.fund_report.specs.declared.report.Report.TheVariants.{Funded, NoSelection, Unfinished}
use Rattle.command_work.specs.Lines.{begun_by, lines_of, short_line, short_lines}
use Rattle.command_work.specs.Outline.{outline_of}

-- ---- bytes without a line feed

abbrev is_plain : ℕ → Bool
is_plain b = not (eqb b 10)

abbrev Plain : List ℕ → Type 0
Plain xs = list_all is_plain xs ≡ true

both : (a b : List ℕ) → Plain a → Plain b → Plain (a ++ b)
both a b p q = list_all-append is_plain a b ∙ rw (p, q) refl

digits_plain : (ds : List ℕ) → AllDigits 10 ds → Plain ds
digits_plain [] h = refl
digits_plain (c ∷ cs) h = by (eqb c 10) refl (digit_at (c ∷ cs) 0 h (omega arith)) (digits_plain cs h.1)
  where
    by : (b : Bool) → eqb c 10 ≡ b → IsInRange 48 57 c → Plain cs → (not b && list_all is_plain cs) ≡ true
    by true e r p = let same : c ≡ 10 = eqb-true c 10 e in absurd (omega (arith, r.0))
    by false e r p = p

wide_plain : (n : ℕ) → n < 10 ^ 64 → Plain (decimal n)
wide_plain n small = digits_plain (decimal n) (decimal_is_IsNumeral_wide n small).0.1

decimal_plain : (n : ℕ) → IsWide n → Plain (decimal n)
decimal_plain n fits = wide_plain n (omega arith)

signed_plain : (z : ℤ) → IsSigned z → Plain (signed_decimal z)
signed_plain (pos n) fits = wide_plain n (omega arith)
signed_plain (negsuc n) fits = wide_plain (suc n) (omega arith)

nibble : (k : ℕ) → eqb (slice_index lower_digits k) 10 ≡ false
nibble zero = refl
nibble (suc zero) = refl
nibble (suc (suc zero)) = refl
nibble (suc (suc (suc zero))) = refl
nibble (suc (suc (suc (suc zero)))) = refl
nibble (suc (suc (suc (suc (suc zero))))) = refl
nibble (suc (suc (suc (suc (suc (suc zero)))))) = refl
nibble (suc (suc (suc (suc (suc (suc (suc zero))))))) = refl
nibble (suc (suc (suc (suc (suc (suc (suc (suc zero)))))))) = refl
nibble (suc (suc (suc (suc (suc (suc (suc (suc (suc zero))))))))) = refl
nibble (suc (suc (suc (suc (suc (suc (suc (suc (suc (suc zero)))))))))) = refl
nibble (suc (suc (suc (suc (suc (suc (suc (suc (suc (suc (suc zero))))))))))) = refl
nibble (suc (suc (suc (suc (suc (suc (suc (suc (suc (suc (suc (suc zero)))))))))))) = refl
nibble (suc (suc (suc (suc (suc (suc (suc (suc (suc (suc (suc (suc (suc zero))))))))))))) = refl
nibble (suc (suc (suc (suc (suc (suc (suc (suc (suc (suc (suc (suc (suc (suc zero)))))))))))))) = refl
nibble (suc (suc (suc (suc (suc (suc (suc (suc (suc (suc (suc (suc (suc (suc (suc zero))))))))))))))) = refl
nibble (suc (suc (suc (suc (suc (suc (suc (suc (suc (suc (suc (suc (suc (suc (suc (suc n)))))))))))))))) = refl

hex_plain : (xs : List ℕ) → Plain (encode_lower xs)
unfolding encode_with
hex_plain [] = refl
hex_plain (b ∷ rest) = rw (nibble (b / 16), nibble (b % 16)) (hex_plain rest)

text_plain : (xs : List ℕ) → AllByRecursion (λ b. b ≡ 10 → ⊥) xs → Plain xs
text_plain [] h = refl
text_plain (b ∷ bs) h = by (eqb b 10) refl (text_plain bs h.1)
  where
    by : (t : Bool) → eqb b 10 ≡ t → Plain bs → (not t && list_all is_plain bs) ≡ true
    by true e p = absurd (h.0 (eqb-true b 10 e))
    by false e p = p

mark_plain : (m : Mark) → Plain (mark_word m)
mark_plain Exhausted = refl
mark_plain Partial = refl
mark_plain Drawn = refl
mark_plain Given = refl

stage_plain : (s : Stage) → Plain (stage_word s)
stage_plain Presets = refl
stage_plain Changeless = refl
stage_plain LeanBig = refl
stage_plain Draw = refl
stage_plain LeanSmall = refl
stage_plain Wide = refl

change_plain : (o : Option ℕ) → IfSome o IsWide → Plain (change_text o)
change_plain None h = refl
change_plain (Some n) h = decimal_plain n h

-- ---- lines

ended : (xs rest : List ℕ) → Plain xs → lines_of (xs ++ 10 ∷ rest) ≡ (xs ++ 10 ∷ []) ∷ lines_of rest
unfolding lines_of
ended [] rest p = refl
ended (x ∷ xs) rest p = by (eqb x 10) p (ended xs rest)
  where
    by : (b : Bool) → (not b && list_all is_plain xs) ≡ true → (Plain xs → lines_of (xs ++ 10 ∷ rest) ≡ (xs ++ 10 ∷ []) ∷ lines_of rest) → cond b ((x ∷ []) ∷ lines_of (xs ++ 10 ∷ rest)) (begun_by x (lines_of (xs ++ 10 ∷ rest))) ≡ (x ∷ (xs ++ 10 ∷ [])) ∷ lines_of rest
    by true p more = absurd (cc p)
    by false p more = ap (begun_by x) (more p)

shorter : (name said rest : List ℕ) → Plain name → Plain said → short_lines (line name said ++ rest) ≡ short_line (line name said) ++ short_lines rest
unfolding short_lines
shorter name said rest p q =
    let whole : line name said ≡ (name ++ said) ++ 10 ∷ [] = sym (append_assoc name said (10 ∷ [])) in
    let parts : line name said ++ rest ≡ (name ++ said) ++ 10 ∷ rest = ap (λ (l : List ℕ). l ++ rest) whole ∙ append_assoc (name ++ said) (10 ∷ []) rest in
    let one : lines_of (line name said ++ rest) ≡ line name said ∷ lines_of rest = ap lines_of parts ∙ ended (name ++ said) rest (both name said p q) ∙ ap (λ (l : List ℕ). l ∷ lines_of rest) (sym whole) in
    ap (flat_map short_line) one ∙ flat_map-cons short_line (line name said) (lines_of rest)

-- ---- what stays, and what goes

record Keeps (text : List ℕ) : Type 0 where
  keeps : (rest : List ℕ) → short_lines (text ++ rest) ≡ text ++ short_lines rest

record Drops (text : List ℕ) : Type 0 where
  drops : (rest : List ℕ) → short_lines (text ++ rest) ≡ short_lines rest

stays : (name said : List ℕ) → Plain name → Plain said → short_line (line name said) ≡ line name said → Keeps (line name said)
stays name said p q e = record { keeps = λ rest. shorter name said rest p q ∙ ap (λ (l : List ℕ). l ++ short_lines rest) e }

goes : (name said : List ℕ) → Plain name → Plain said → short_line (line name said) ≡ [] → Drops (line name said)
goes name said p q e = record { drops = λ rest. shorter name said rest p q ∙ ap (λ (l : List ℕ). l ++ short_lines rest) e }

stay : (a b : List ℕ) → Keeps a → Keeps b → Keeps (a ++ b)
stay a b h k = record { keeps = λ rest. ap short_lines (append_assoc a b rest) ∙ h.keeps (b ++ rest) ∙ ap (λ (l : List ℕ). a ++ l) (k.keeps rest) ∙ sym (append_assoc a b (short_lines rest)) }

go : (a b : List ℕ) → Drops a → Drops b → Drops (a ++ b)
go a b h k = record { drops = λ rest. ap short_lines (append_assoc a b rest) ∙ h.drops (b ++ rest) ∙ k.drops rest }

none_left : short_lines [] ≡ []
unfolding short_lines lines_of
none_left = refl

kept_alone : (text : List ℕ) → Keeps text → short_lines text ≡ text
kept_alone text h = ap short_lines (sym (append-nil text)) ∙ h.keeps [] ∙ ap (λ (l : List ℕ). text ++ l) none_left ∙ append-nil text

dropped_alone : (text : List ℕ) → Drops text → short_lines text ≡ []
dropped_alone text h = ap short_lines (sym (append-nil text)) ∙ h.drops [] ∙ none_left

-- ---- the parts of a report

tries_stay : (n : ℕ) → IsWide n → Keeps (line (codes "tries ") (decimal n))
tries_stay n fits = stays (codes "tries ") (decimal n) refl (decimal_plain n fits) refl

row_stays : (n : ℕ) → n ≤ 255 → Keeps (line (codes "row ") (decimal n))
row_stays n fits = stays (codes "row ") (decimal n) refl (decimal_plain n (omega arith)) refl

stage_stays : (s : Stage) → Keeps (line (codes "stage ") (stage_word s))
stage_stays s = stays (codes "stage ") (stage_word s) refl (stage_plain s) refl

found_stays : (f : PlainFunded) → f.row ≤ 255 → IsWide f.tries → Keeps (found_text f)
found_stays f row tries =
    let one = stays (codes "funded ") (mark_word f.mark) refl (mark_plain f.mark) refl in
    stay (line (codes "funded ") (mark_word f.mark)) (line (codes "row ") (decimal f.row) ++ (line (codes "stage ") (stage_word f.stage) ++ line (codes "tries ") (decimal f.tries))) one
    (stay (line (codes "row ") (decimal f.row)) (line (codes "stage ") (stage_word f.stage) ++ line (codes "tries ") (decimal f.tries)) (row_stays f.row row)
    (stay (line (codes "stage ") (stage_word f.stage)) (line (codes "tries ") (decimal f.tries)) (stage_stays f.stage) (tries_stay f.tries tries)))

figures_stay : (f : PlainFunded) → IsWide f.weight → IsWide f.vsize → IsWide f.fee → IsSigned f.waste → Keeps (figures_text f)
figures_stay f weight vsize fee waste =
    stay (line (codes "weight ") (decimal f.weight)) (line (codes "vsize ") (decimal f.vsize) ++ (line (codes "fee ") (decimal f.fee) ++ line (codes "waste ") (signed_decimal f.waste))) (stays (codes "weight ") (decimal f.weight) refl (decimal_plain f.weight weight) refl)
    (stay (line (codes "vsize ") (decimal f.vsize)) (line (codes "fee ") (decimal f.fee) ++ line (codes "waste ") (signed_decimal f.waste)) (stays (codes "vsize ") (decimal f.vsize) refl (decimal_plain f.vsize vsize) refl)
    (stay (line (codes "fee ") (decimal f.fee)) (line (codes "waste ") (signed_decimal f.waste)) (stays (codes "fee ") (decimal f.fee) refl (decimal_plain f.fee fee) refl) (stays (codes "waste ") (signed_decimal f.waste) refl (signed_plain f.waste waste) refl)))

coin_goes : (l : InLine) → IsSizedCoin l → Drops (in_line l)
coin_goes l sized =
    let digits : List ℕ = encode_lower (reverse l.coin.txid) in
    let value : Plain (codes " " ++ decimal l.value) = decimal_plain l.value sized.amounts.value in
    let index : Plain (codes ":" ++ (decimal l.coin.index ++ (codes " " ++ decimal l.value))) = both (decimal l.coin.index) (codes " " ++ decimal l.value) (decimal_plain l.coin.index (omega (arith, sized.amounts.index))) value in
    goes (codes "in ") (digits ++ (codes ":" ++ (decimal l.coin.index ++ (codes " " ++ decimal l.value)))) refl (both digits (codes ":" ++ (decimal l.coin.index ++ (codes " " ++ decimal l.value))) (hex_plain (reverse l.coin.txid)) index) refl

coins_go : (ls : List InLine) → AllByRecursion IsSizedCoin ls → Drops (flat_map in_line ls)
coins_go [] sized = record { drops = λ rest. refl }
coins_go (l ∷ ls) sized = subst Drops (sym (flat_map-cons in_line l ls)) (go (in_line l) (flat_map in_line ls) (coin_goes l sized.0) (coins_go ls sized.1))

-- ---- whole reports

pub funded_kept : (f : PlainFunded) → CanBeRead (Funded f) → IsSized (Funded f) → short_lines (text_of (Funded f)) ≡ outline_of f
unfolding text_of funded_text outline_of
funded_kept f can sized =
    let coins : List ℕ = flat_map in_line f.coins in
    let change : List ℕ = line (codes "change ") (change_text f.change) in
    let psbt : List ℕ = line (codes "psbt ") f.text in
    let g = sized.figures in
    let last : Drops psbt = goes (codes "psbt ") f.text refl (text_plain f.text can.text.feedless) refl in
    let paid : short_lines (change ++ psbt) ≡ change = (stays (codes "change ") (change_text f.change) refl (change_plain f.change g.change) refl).keeps psbt ∙ ap (λ (l : List ℕ). change ++ l) (dropped_alone psbt last) ∙ append-nil change in
    (found_stays f g.row g.tries).keeps (coins ++ (figures_text f ++ (change ++ psbt)))
    ∙ ap (λ (l : List ℕ). found_text f ++ l) ((coins_go f.coins sized.coins).drops (figures_text f ++ (change ++ psbt)) ∙ (figures_stay f g.weight g.vsize g.fee g.waste).keeps (change ++ psbt) ∙ ap (λ (l : List ℕ). figures_text f ++ l) paid)

pub none_kept : (tries : ℕ) → IsSized (NoSelection tries) → short_lines (text_of (NoSelection tries)) ≡ text_of (NoSelection tries)
unfolding text_of
none_kept tries fits = kept_alone (none_text tries) (stay (codes "none\n") (line (codes "tries ") (decimal tries)) (stays (codes "none") [] refl refl refl) (tries_stay tries fits))

pub unfinished_kept : (tries row : ℕ) (stage : Stage) → IsSized (Unfinished tries row stage) → short_lines (text_of (Unfinished tries row stage)) ≡ text_of (Unfinished tries row stage)
unfolding text_of
unfinished_kept tries row stage fits =
    let rest : List ℕ = line (codes "row ") (decimal row) ++ line (codes "stage ") (stage_word stage) in
    let back = stay (line (codes "tries ") (decimal tries)) rest (tries_stay tries fits.0) (stay (line (codes "row ") (decimal row)) (line (codes "stage ") (stage_word stage)) (row_stays row fits.1) (stage_stays stage)) in
    kept_alone (unfinished_text tries row stage) (stay (codes "unfinished\n") (line (codes "tries ") (decimal tries) ++ rest) (stays (codes "unfinished") [] refl refl refl) back)
