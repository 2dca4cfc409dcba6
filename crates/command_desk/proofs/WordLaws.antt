-- The words of a line, and what it says.
use Rattle.std.specs.Prelude.{ℕ, ◌≡◌, ◌≢◌, ◌==◌, ◌&&◌, ◌++◌, List, [], ◌∷◌, All, Bool, true, false, length, nat_le, nat_lt, Option, Some}
use Rattle.std.specs.List.{list_all}
use Rattle.std.specs.Str.{is_utf8}
use Rattle.std.proofs.Common.{refl, sym, ap, ◌∙◌, subst, cond}
use Rattle.std.proofs.lemmas.Bool.{and_parts, eqb-false, eqb-true, leb-true, ltb-true, ne_eqb}
use Rattle.std.proofs.lemmas.List.{append-nil}
use Rattle.std.proofs.lemmas.List.Elements.{All-cons, All-head, All-nil, All-tail}
use Rattle.std.proofs.lemmas.Str.{IsUtf8-from_is_utf8}
use Rattle.command_desk.specs.Line.{IsFileWord, Other, by_words, is_file_word, line_of}
use Rattle.command_desk.specs.Script.{before_part, three_words, two_words, words_behind, words_of}

abbrev pub HasNoBlank : List ℕ → Type 0
HasNoBlank word = All (λ b. b ≢ 32) word

-- words behind the first, each with the blank before it
abbrev pub behind_first : List (List ℕ) → List ℕ
behind_first [] = []
behind_first (word ∷ words) = 32 ∷ (word ++ behind_first words)

-- the line is these words, with one blank between them
pub record AreWords (line : List ℕ) (words : List (List ℕ)) : Type 0 where
  pub first : List ℕ
  pub others : List (List ℕ)
  pub words_are : words ≡ first ∷ others
  pub line_is : line ≡ first ++ behind_first others
  pub plain : All HasNoBlank words

pub are_words : (line : List ℕ) → AreWords line (words_of line)
unfolding words_of
are_words [] = record { first = []; others = []; words_are = refl; line_is = refl; plain = All-cons HasNoBlank [] [] (All-nil _) (All-nil _) }
are_words (b ∷ rest) = by (b == 32) refl (are_words rest)
  where
    by : (same : Bool) → (b == 32) ≡ same → AreWords rest (words_of rest) → AreWords (b ∷ rest) (cond same ([] ∷ words_of rest) (before_part b (words_of rest)))
    by true e h = record {
      first = [];
      others = h.first ∷ h.others;
      words_are = ap (λ (ws : List (List ℕ)). [] ∷ ws) h.words_are;
      line_is = ap (λ (x : ℕ). x ∷ rest) (eqb-true b 32 e) ∙ ap (λ (r : List ℕ). 32 ∷ r) h.line_is;
      plain = All-cons HasNoBlank [] (words_of rest) (All-nil _) h.plain;
    }
    by false e h = rw h.words_are (record {
      first = b ∷ h.first;
      others = h.others;
      words_are = refl;
      line_is = ap (λ (r : List ℕ). b ∷ r) h.line_is;
      plain = let all = subst (All HasNoBlank) h.words_are h.plain in
          All-cons HasNoBlank (b ∷ h.first) h.others (All-cons (λ x. x ≢ 32) b h.first (eqb-false b 32 e) (All-head HasNoBlank h.first h.others all)) (All-tail HasNoBlank h.first h.others all);
    })

-- ---- lines of two words and of three

pub two_there : (line a b : List ℕ) → words_of line ≡ a ∷ b ∷ [] → (line ≡ two_words a b) × HasNoBlank b
two_there line a b is =
    let h = are_words line in
    let whole : h.first ∷ h.others ≡ a ∷ b ∷ [] = sym h.words_are ∙ is in
    let first : h.first ≡ a = cc in
    let others : h.others ≡ b ∷ [] = cc in
    let plain = subst (All HasNoBlank) is h.plain in (
      h.line_is ∙ ap (λ (f : List ℕ). f ++ behind_first h.others) first ∙ ap (λ (ws : List (List ℕ)). a ++ behind_first ws) others ∙ ap (λ (r : List ℕ). a ++ (32 ∷ r)) (append-nil b),
      All-head HasNoBlank b [] (All-tail HasNoBlank a (b ∷ []) plain),
    )

pub three_there : (line a b c : List ℕ) → words_of line ≡ a ∷ b ∷ c ∷ [] → (line ≡ three_words a b c) × HasNoBlank c
three_there line a b c is =
    let h = are_words line in
    let whole : h.first ∷ h.others ≡ a ∷ b ∷ c ∷ [] = sym h.words_are ∙ is in
    let first : h.first ≡ a = cc in
    let others : h.others ≡ b ∷ c ∷ [] = cc in
    let plain = subst (All HasNoBlank) is h.plain in (
      h.line_is ∙ ap (λ (f : List ℕ). f ++ behind_first h.others) first ∙ ap (λ (ws : List (List ℕ)). a ++ behind_first ws) others
          ∙ ap (λ (r : List ℕ). a ++ (32 ∷ (b ++ (32 ∷ r)))) (append-nil c),
      All-head HasNoBlank c [] (All-tail HasNoBlank b (c ∷ []) (All-tail HasNoBlank a (b ∷ c ∷ []) plain)),
    )

-- a line of four words or more is no command
pub many_words : (line v a b : List ℕ) (x y z : Option (List ℕ)) (p q r : List ℕ) → words_of line ≡ v ∷ words_behind x → x ≡ Some p → words_of p ≡ a ∷ words_behind y → y ≡ Some q → words_of q ≡ b ∷ words_behind z → z ≡ Some r → Other ≡ line_of line
many_words line v a b x y z p q r verb one first two second three =
    let rest = are_words r in
    let fourth : words_of q ≡ b ∷ (rest.first ∷ rest.others) = second ∙ ap (λ (o : Option (List ℕ)). b ∷ words_behind o) three ∙ ap (λ (ws : List (List ℕ)). b ∷ ws) rest.words_are in
    let third : words_of p ≡ a ∷ (b ∷ (rest.first ∷ rest.others)) = first ∙ ap (λ (o : Option (List ℕ)). a ∷ words_behind o) two ∙ ap (λ (ws : List (List ℕ)). a ∷ ws) fourth in
    let all : words_of line ≡ v ∷ (a ∷ (b ∷ (rest.first ∷ rest.others))) = verb ∙ ap (λ (o : Option (List ℕ)). v ∷ words_behind o) one ∙ ap (λ (ws : List (List ℕ)). v ∷ ws) third in
    sym (ap by_words all)

-- and the other way: a line of words without blanks has these words
word_front : (word behind : List ℕ) → HasNoBlank word → words_of (word ++ (32 ∷ behind)) ≡ word ∷ words_of behind
unfolding words_of
word_front [] behind plain = refl
word_front (b ∷ word) behind plain =
    let other : b ≢ 32 = All-head (λ x. x ≢ 32) b word plain in
    rw (ne_eqb b 32 other) (ap (before_part b) (word_front word behind (All-tail (λ x. x ≢ 32) b word plain)))

word_last : (word : List ℕ) → HasNoBlank word → words_of word ≡ word ∷ []
unfolding words_of
word_last [] plain = refl
word_last (b ∷ word) plain =
    let other : b ≢ 32 = All-head (λ x. x ≢ 32) b word plain in
    rw (ne_eqb b 32 other) (ap (before_part b) (word_last word (All-tail (λ x. x ≢ 32) b word plain)))

pub two_back : (a b : List ℕ) → HasNoBlank a → HasNoBlank b → words_of (two_words a b) ≡ a ∷ b ∷ []
two_back a b plain_a plain_b = word_front a b plain_a ∙ ap (λ (ws : List (List ℕ)). a ∷ ws) (word_last b plain_b)

pub three_back : (a b c : List ℕ) → HasNoBlank a → HasNoBlank b → HasNoBlank c → words_of (three_words a b c) ≡ a ∷ b ∷ c ∷ []
three_back a b c plain_a plain_b plain_c = word_front a (b ++ (32 ∷ c)) plain_a ∙ ap (λ (ws : List (List ℕ)). a ∷ ws) (two_back b c plain_b plain_c)

-- ---- names of files

pub file_there : (file : List ℕ) → is_file_word file ≡ true → HasNoBlank file → IsFileWord file
file_there file e plain =
    let a = and_parts (nat_lt 0 (length file)) (is_utf8 file) e in
    record { some = ltb-true 0 (length file) a.0; text = IsUtf8-from_is_utf8 file a.1; plain = plain }
