-- The lines of a script, and the words of a line.
use Rattle.std.specs.Prelude.{ℕ, ◌≡◌, ◌≢◌, ◌==◌, ◌++◌, List, [], ◌∷◌, All, Bool, true, false}
use Rattle.std.proofs.Common.{refl, sym, ap, ◌∙◌, subst, cond, append_assoc}
use Rattle.std.proofs.lemmas.Bool.{eqb-false, eqb-true, ne_eqb}
use Rattle.std.proofs.lemmas.List.Elements.{All-cons, All-head, All-nil, All-tail}
use Rattle.command_end.specs.LinesText.{lines_text}
use Rattle.command_desk.specs.Script.{AreLines, before_part, last_line, lines_of}

abbrev IsPlain : List ℕ → Type 0
IsPlain line = All (λ b. b ≢ 10) line

-- ---- a script has the lines that are worked out

-- a byte more at the front, which ends no line
plain_byte : (b : ℕ) (rest : List ℕ) (ended : List (List ℕ)) (tail : List ℕ) (lines : List (List ℕ)) → b ≢ 10 → rest ≡ lines_text ended ++ tail → lines ≡ ended ++ last_line tail → All IsPlain lines → AreLines (b ∷ rest) (before_part b lines)
plain_byte b rest [] [] lines other text is plain = rw is (record {
  ended = [];
  rest = b ∷ [];
  text_is = ap (λ (r : List ℕ). b ∷ r) text;
  lines_are = refl;
  plain = All-cons IsPlain (b ∷ []) [] (All-cons (λ x. x ≢ 10) b [] other (All-nil _)) (All-nil _);
})
plain_byte b rest [] (c ∷ tail) lines other text is plain = rw is (record {
  ended = [];
  rest = b ∷ c ∷ tail;
  text_is = ap (λ (r : List ℕ). b ∷ r) text;
  lines_are = refl;
  plain = All-cons IsPlain (b ∷ c ∷ tail) [] (All-cons (λ x. x ≢ 10) b (c ∷ tail) other (All-head IsPlain (c ∷ tail) [] (subst (All IsPlain) is plain))) (All-nil _);
})
plain_byte b rest (line ∷ ended) tail lines other text is plain = rw is (record {
  ended = (b ∷ line) ∷ ended;
  rest = tail;
  text_is = ap (λ (r : List ℕ). b ∷ r) text;
  lines_are = refl;
  plain = let all = subst (All IsPlain) is plain in
      All-cons IsPlain (b ∷ line) (ended ++ last_line tail) (All-cons (λ x. x ≢ 10) b line other (All-head IsPlain line (ended ++ last_line tail) all)) (All-tail IsPlain line (ended ++ last_line tail) all);
})

pub are_lines : (text : List ℕ) → AreLines text (lines_of text)
unfolding lines_of
are_lines [] = record { ended = []; rest = []; text_is = refl; lines_are = refl; plain = All-nil _ }
are_lines (b ∷ rest) = by (b == 10) refl (are_lines rest)
  where
    by : (same : Bool) → (b == 10) ≡ same → AreLines rest (lines_of rest) → AreLines (b ∷ rest) (cond same ([] ∷ lines_of rest) (before_part b (lines_of rest)))
    by true e h = record {
      ended = [] ∷ h.ended;
      rest = h.rest;
      text_is = ap (λ (x : ℕ). x ∷ rest) (eqb-true b 10 e) ∙ ap (λ (r : List ℕ). 10 ∷ r) h.text_is;
      lines_are = ap (λ (ls : List (List ℕ)). [] ∷ ls) h.lines_are;
      plain = All-cons IsPlain [] (lines_of rest) (All-nil _) h.plain;
    }
    by false e h = plain_byte b rest h.ended h.rest (lines_of rest) (eqb-false b 10 e) h.text_is h.lines_are h.plain

-- ---- and no others

plain_last : (tail : List ℕ) → IsPlain tail → lines_of tail ≡ last_line tail
unfolding lines_of
plain_last [] plain = refl
plain_last (b ∷ tail) plain =
    let other : b ≢ 10 = All-head (λ x. x ≢ 10) b tail plain in
    rw (ne_eqb b 10 other) (ap (before_part b) (plain_last tail (All-tail (λ x. x ≢ 10) b tail plain)) ∙ joined b tail)
  where
    joined : (b : ℕ) (tail : List ℕ) → before_part b (last_line tail) ≡ (b ∷ tail) ∷ []
    joined b [] = refl
    joined b (c ∷ tail) = refl

line_front : (line behind : List ℕ) → IsPlain line → lines_of (line ++ (10 ∷ behind)) ≡ line ∷ lines_of behind
unfolding lines_of
line_front [] behind plain = refl
line_front (b ∷ line) behind plain =
    let other : b ≢ 10 = All-head (λ x. x ≢ 10) b line plain in
    rw (ne_eqb b 10 other) (ap (before_part b) (line_front line behind (All-tail (λ x. x ≢ 10) b line plain)))

lines_back : (ended : List (List ℕ)) (tail : List ℕ) → All IsPlain (ended ++ last_line tail) → lines_of (lines_text ended ++ tail) ≡ ended ++ last_line tail
lines_back [] [] plain = plain_last [] (All-nil _)
lines_back [] (b ∷ tail) plain = plain_last (b ∷ tail) (All-head IsPlain (b ∷ tail) [] plain)
lines_back (line ∷ ended) tail plain =
    ap lines_of (append_assoc line (10 ∷ lines_text ended) tail)
    ∙ line_front line (lines_text ended ++ tail) (All-head IsPlain line (ended ++ last_line tail) plain)
    ∙ ap (λ (ls : List (List ℕ)). line ∷ ls) (lines_back ended tail (All-tail IsPlain line (ended ++ last_line tail) plain))

pub only_lines : (text : List ℕ) (lines : List (List ℕ)) → AreLines text lines → lines ≡ lines_of text
only_lines text lines h = h.lines_are ∙ sym (lines_back h.ended h.rest (subst (All IsPlain) h.lines_are h.plain)) ∙ ap lines_of (sym h.text_is)
