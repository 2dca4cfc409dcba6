-- Where a text is cut at a byte.
use Rattle.std.specs.Prelude.{ℕ, suc, ◌≡◌, ◌≤◌, ◌<◌, ◌+◌, ◌==◌, List, [], ◌∷◌, Bool, true, false, length, take, drop, not, nat_lt, Some, None}
use Rattle.std.specs.List.{position, position_or_len}
use Rattle.std.proofs.Common.{refl, sym, ap, ◌∙◌, subst, cond, arith}
use Rattle.std.proofs.lemmas.Bool.{ltb-false, ltb-true}
use Rattle.command_desk.specs.Script.{before_part, last_line, lines_of, words_of}

-- the first place of a line feed, and of a blank
abbrev feed : List ℕ → ℕ
feed text = position_or_len (λ b. b == 10) text

abbrev blank : List ℕ → ℕ
blank line = position_or_len (λ b. b == 32) line

-- the number of a place that is there, and that there is none
place_there : (n m i : ℕ) → cond (nat_lt n m) (Some n) None ≡ Some i → (i ≡ n) × (n < m)
place_there n m i e = by (nat_lt n m) refl e
  where
    by : (b : Bool) → nat_lt n m ≡ b → cond b (Some n) None ≡ Some i → (i ≡ n) × (n < m)
    by true h is = (cc, ltb-true n m h)
    by false h is = absurd cc

place_not_there : (n m : ℕ) → cond (nat_lt n m) (Some n) None ≡ None → m ≤ n
place_not_there n m e = by (nat_lt n m) refl e
  where
    by : (b : Bool) → nat_lt n m ≡ b → cond b (Some n) None ≡ None → m ≤ n
    by true h is = absurd cc
    by false h is = ltb-false n m h

-- ---- lines

cut_line : (text : List ℕ) → feed text < length text → lines_of text ≡ take (feed text) text ∷ lines_of (drop (feed text + 1) text)
unfolding lines_of
cut_line [] h = absurd (omega (arith, h))
cut_line (b ∷ rest) h = by (b == 10) (cut_line rest) h
  where
    by : (same : Bool) → (feed rest < length rest → lines_of rest ≡ take (feed rest) rest ∷ lines_of (drop (feed rest + 1) rest))
        → cond (not same) (1 + feed rest) 0 < suc (length rest)
        → cond same ([] ∷ lines_of rest) (before_part b (lines_of rest)) ≡ take (cond (not same) (1 + feed rest) 0) (b ∷ rest) ∷ lines_of (drop (cond (not same) (1 + feed rest) 0 + 1) (b ∷ rest))
    by true more lt = refl
    by false more lt =
        let one : 1 + feed rest ≡ suc (feed rest) = omega arith in
        let two : 1 + feed rest + 1 ≡ suc (feed rest + 1) = omega arith in
        rw (two, one) (ap (before_part b) (more (omega (arith, lt))))

one_line : (text : List ℕ) → length text ≤ feed text → lines_of text ≡ last_line text
unfolding lines_of
one_line [] h = refl
one_line (b ∷ rest) h = by (b == 10) (one_line rest) h
  where
    joined : (tail : List ℕ) → before_part b (last_line tail) ≡ (b ∷ tail) ∷ []
    joined [] = refl
    joined (c ∷ tail) = refl

    by : (same : Bool) → (length rest ≤ feed rest → lines_of rest ≡ last_line rest) → suc (length rest) ≤ cond (not same) (1 + feed rest) 0
        → cond same ([] ∷ lines_of rest) (before_part b (lines_of rest)) ≡ (b ∷ rest) ∷ []
    by true more le = absurd (omega (arith, le))
    by false more le = ap (before_part b) (more (omega (arith, le))) ∙ joined rest

pub line_ends : (text : List ℕ) (i : ℕ) → position (λ b. b == 10) text ≡ Some i → (i < length text) × (lines_of text ≡ take i text ∷ lines_of (drop (i + 1) text))
line_ends text i e =
    let there = place_there (feed text) (length text) i e in
    subst (λ (n : ℕ). (n < length text) × (lines_of text ≡ take n text ∷ lines_of (drop (n + 1) text))) (sym there.0) (there.1, cut_line text there.1)

whole : (text : List ℕ) → 0 < length text → last_line text ≡ text ∷ lines_of []
unfolding lines_of
whole [] h = absurd (omega (arith, h))
whole (b ∷ rest) h = refl

pub line_is_last : (text : List ℕ) → 0 < length text → position (λ b. b == 10) text ≡ None → lines_of text ≡ text ∷ lines_of []
line_is_last text some e = one_line text (place_not_there (feed text) (length text) e) ∙ whole text some

-- ---- words

cut_word : (line : List ℕ) → blank line < length line → words_of line ≡ take (blank line) line ∷ words_of (drop (blank line + 1) line)
unfolding words_of
cut_word [] h = absurd (omega (arith, h))
cut_word (b ∷ rest) h = by (b == 32) (cut_word rest) h
  where
    by : (same : Bool) → (blank rest < length rest → words_of rest ≡ take (blank rest) rest ∷ words_of (drop (blank rest + 1) rest))
        → cond (not same) (1 + blank rest) 0 < suc (length rest)
        → cond same ([] ∷ words_of rest) (before_part b (words_of rest)) ≡ take (cond (not same) (1 + blank rest) 0) (b ∷ rest) ∷ words_of (drop (cond (not same) (1 + blank rest) 0 + 1) (b ∷ rest))
    by true more lt = refl
    by false more lt =
        let one : 1 + blank rest ≡ suc (blank rest) = omega arith in
        let two : 1 + blank rest + 1 ≡ suc (blank rest + 1) = omega arith in
        rw (two, one) (ap (before_part b) (more (omega (arith, lt))))

one_word : (line : List ℕ) → length line ≤ blank line → words_of line ≡ line ∷ []
unfolding words_of
one_word [] h = refl
one_word (b ∷ rest) h = by (b == 32) (one_word rest) h
  where
    by : (same : Bool) → (length rest ≤ blank rest → words_of rest ≡ rest ∷ []) → suc (length rest) ≤ cond (not same) (1 + blank rest) 0
        → cond same ([] ∷ words_of rest) (before_part b (words_of rest)) ≡ (b ∷ rest) ∷ []
    by true more le = absurd (omega (arith, le))
    by false more le = ap (before_part b) (more (omega (arith, le)))

pub word_ends : (line : List ℕ) (i : ℕ) → position (λ b. b == 32) line ≡ Some i → (i < length line) × (words_of line ≡ take i line ∷ words_of (drop (i + 1) line))
word_ends line i e =
    let there = place_there (blank line) (length line) i e in
    subst (λ (n : ℕ). (n < length line) × (words_of line ≡ take n line ∷ words_of (drop (n + 1) line))) (sym there.0) (there.1, cut_word line there.1)

pub word_is_last : (line : List ℕ) → position (λ b. b == 32) line ≡ None → words_of line ≡ line ∷ []
word_is_last line e = one_word line (place_not_there (blank line) (length line) e)
