-- Rows of bytes and values, one more at a time.
use Rattle.std.proofs.Common.{◌≡◌, ◌≤◌, ℕ, List, [], ◌∷◌, ◌++◌, ◌+◌, Bool, map, length, sym, ◌∙◌, ap, append_assoc, zero, suc, zero-add, add-zero, add-one, arith}
use Rattle.std.specs.List.{range_with_len, count_by}
use Rattle.std.proofs.lemmas.List.{append-nil}
use Rattle.std.proofs.lemmas.List.Sums.{count_by-le-length}

-- none so far
pub row_none : (f : ℕ → ℕ) (xs : List ℕ) → xs ≡ xs ++ map f (range_with_len 0 0)
row_none f xs = sym (append-nil xs)

-- one more
map_range : (f : ℕ → ℕ) (a n : ℕ) → map f (range_with_len a (suc n)) ≡ map f (range_with_len a n) ++ f (a + n) ∷ []
map_range f a zero = ap (λ k. f k ∷ []) (sym (add-zero a))
map_range f a (suc n) =
    ap (λ (l : List ℕ). f a ∷ l) (map_range f (a + 1) n ∙ ap (λ k. map f (range_with_len (a + 1) n) ++ f k ∷ []) (omega arith))

pub row_more : (f : ℕ → ℕ) (xs ys zs : List ℕ) (n : ℕ) → ys ≡ xs ++ map f (range_with_len 0 n) → zs ≡ ys ++ f n ∷ [] → zs ≡ xs ++ map f (range_with_len 0 (n + 1))
row_more f xs ys zs n before put = rw (add-one, map_range, zero-add) (put ∙ ap (λ (l : List ℕ). l ++ f n ∷ []) before ∙ append_assoc xs (map f (range_with_len 0 n)) (f n ∷ []))

-- no more characters than bytes
pub counts : (p : ℕ → Bool) (xs : List ℕ) → count_by p xs ≤ length xs
counts p xs = count_by-le-length p xs
