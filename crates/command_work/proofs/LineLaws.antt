-- The first line of a text, and the rest.
use Rattle.std.proofs.Common.{◌≡◌, ℕ, suc, ◌+◌, ◌<◌, ◌≤◌, Bool, true, false, not, eqb, ltb, cond, List, [], ◌∷◌, ◌++◌, length, take, drop, Some, None, refl, sym, ap, ◌∙◌, append_assoc, arith}
use Rattle.std.specs.List.{flat_map, position, position_or_len}
use Rattle.std.proofs.lemmas.Bool.{ltb-true, ltb-false}
use Rattle.std.proofs.lemmas.List.Concat.{flat_map-cons}
use Rattle.command_work.specs.Lines.{begun_by, lines_of, short_line, short_lines}

abbrev is_feed : ℕ → Bool
is_feed b = eqb b 10

-- how long the first line is, with the line feed that ends it
line_end : List ℕ → ℕ
line_end [] = 0
line_end (b ∷ bs) = cond (is_feed b) 1 (suc (line_end bs))

-- one byte, or a byte before a line
first_line : (x : ℕ) (xs : List ℕ) → lines_of (x ∷ xs) ≡ take (line_end (x ∷ xs)) (x ∷ xs) ∷ lines_of (drop (line_end (x ∷ xs)) (x ∷ xs))
unfolding lines_of line_end
first_line x [] = by (is_feed x)
  where
    by : (b : Bool) → cond b ((x ∷ []) ∷ []) ((x ∷ []) ∷ []) ≡ take (cond b 1 1) (x ∷ []) ∷ lines_of (drop (cond b 1 1) (x ∷ []))
    by true = refl
    by false = refl
first_line x (y ∷ ys) = by (is_feed x) (line_end (y ∷ ys)) (first_line y ys)
  where
    by : (b : Bool) (n : ℕ) → lines_of (y ∷ ys) ≡ take n (y ∷ ys) ∷ lines_of (drop n (y ∷ ys)) → cond b ((x ∷ []) ∷ lines_of (y ∷ ys)) (begun_by x (lines_of (y ∷ ys))) ≡ take (cond b 1 (suc n)) (x ∷ y ∷ ys) ∷ lines_of (drop (cond b 1 (suc n)) (x ∷ y ∷ ys))
    by true n e = refl
    by false n e = ap (begun_by x) e

-- where the first feed stands, if there is one, and how long the line is
abbrev Ends : ℕ → ℕ → ℕ → Type 0
Ends place long all = (place < all → long ≡ place + 1) × (all ≤ place → long ≡ all)

one_before : (b : Bool) (place long all : ℕ) → Ends place long all → Ends (cond (not b) (1 + place) 0) (cond b 1 (suc long)) (suc all)
one_before true place long all h = (λ lt. omega arith, λ le. absurd (omega arith))
one_before false place long all h = (λ lt. omega (arith, h.0 (omega arith)), λ le. omega (arith, h.1 (omega arith)))

ends : (xs : List ℕ) → Ends (position_or_len is_feed xs) (line_end xs) (length xs)
unfolding line_end
ends [] = (λ lt. absurd (omega arith), λ le. refl)
ends (x ∷ xs) = one_before (is_feed x) (position_or_len is_feed xs) (line_end xs) (length xs) (ends xs)

found : (xs : List ℕ) (place : ℕ) → Some place ≡ position is_feed xs → (place < length xs) × (line_end xs ≡ place + 1)
found xs place e = by (ltb (position_or_len is_feed xs) (length xs)) refl e
  where
    by : (b : Bool) → ltb (position_or_len is_feed xs) (length xs) ≡ b → Some place ≡ cond b (Some (position_or_len is_feed xs)) None → (place < length xs) × (line_end xs ≡ place + 1)
    by true is at =
        let lt = ltb-true (position_or_len is_feed xs) (length xs) is in
        let same : place ≡ position_or_len is_feed xs = cc at in
        (omega arith, omega (arith, (ends xs).0 lt))
    by false is at = absurd (cc at)

whole : (xs : List ℕ) → None ≡ position is_feed xs → line_end xs ≡ length xs
whole xs e = by (ltb (position_or_len is_feed xs) (length xs)) refl e
  where
    by : (b : Bool) → ltb (position_or_len is_feed xs) (length xs) ≡ b → None ≡ cond b (Some (position_or_len is_feed xs)) None → line_end xs ≡ length xs
    by true is at = absurd (cc at)
    by false is at = (ends xs).1 (ltb-false (position_or_len is_feed xs) (length xs) is)

split : (xs : List ℕ) (n : ℕ) → 0 < length xs → line_end xs ≡ n → lines_of xs ≡ take n xs ∷ lines_of (drop n xs)
split [] n some e = absurd (omega arith)
split (x ∷ xs) n some e = first_line x xs ∙ ap (λ (k : ℕ). take k (x ∷ xs) ∷ lines_of (drop k (x ∷ xs))) e

-- a line that a feed ends
pub line_found : (xs : List ℕ) (place : ℕ) → Some place ≡ position is_feed xs → (place < length xs) × (lines_of xs ≡ take (place + 1) xs ∷ lines_of (drop (place + 1) xs))
line_found xs place e = let f = found xs place e in (f.0, split xs (place + 1) (omega (arith, f.0)) f.1)

-- the last line, that none ends
pub line_whole : (xs : List ℕ) → 0 < length xs → None ≡ position is_feed xs → lines_of xs ≡ take (length xs) xs ∷ lines_of (drop (length xs) xs)
line_whole xs some e = split xs (length xs) some (whole xs e)

-- without the lines of coins and of the PSBT, line by line
pub short_more : (xs : List ℕ) (n : ℕ) → lines_of xs ≡ take n xs ∷ lines_of (drop n xs) → short_lines xs ≡ short_line (take n xs) ++ short_lines (drop n xs)
unfolding short_lines
short_more xs n e = ap (flat_map short_line) e ∙ flat_map-cons short_line (take n xs) (lines_of (drop n xs))

pub short_none : (xs : List ℕ) → length xs ≡ 0 → short_lines xs ≡ []
unfolding short_lines lines_of
short_none [] e = refl
short_none (x ∷ xs) e = absurd (omega arith)

-- one line is added, or left out, and the rest goes on
pub put_more : (out new rest front back : List ℕ) (n : ℕ) → lines_of rest ≡ take n rest ∷ lines_of (drop n rest) → front ≡ take n rest → back ≡ drop n rest → new ≡ out ++ short_line front → new ++ short_lines back ≡ out ++ short_lines rest
put_more out new rest front back n e f b h =
    let line : new ≡ out ++ short_line (take n rest) = h ∙ ap (λ (l : List ℕ). out ++ short_line l) f in
    ap (λ (l : List ℕ). new ++ short_lines l) b ∙ ap (λ (l : List ℕ). l ++ short_lines (drop n rest)) line ∙ append_assoc out (short_line (take n rest)) (short_lines (drop n rest)) ∙ ap (λ (l : List ℕ). out ++ l) (sym (short_more rest n e))
