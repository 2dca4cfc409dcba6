-- Pieces read and put, one behind the other.
use Rattle.std.proofs.Common.{◌≡◌, ◌≤◌, ◌<◌, ℕ, ◌+◌, ◌-◌, ltb, List, ◌++◌, length, take, drop, sym, ◌∙◌, ap, append_assoc, arith, inl, inr}
use Rattle.std.specs.Prelude.{◌⊎◌}
use Rattle.std.proofs.Math.Seq.{take-add}
use Rattle.std.proofs.lemmas.Bool.{lt-ltb}
use Rattle.std.proofs.lemmas.List.{take_all, take_rest, length-take, length-take-le, take-take}
use Rattle.fund_shelf.specs.Causes.{IsRead}

-- a piece put behind those before it
pub put_more : (old due now next : List ℕ) (at n : ℕ) → now ≡ old ++ take at due → next ≡ now ++ take n (take (length due - at) (drop at due)) → next ≡ old ++ take (at + n) due
put_more old due now next at n before put =
    put
    ∙ ap (λ (l : List ℕ). l ++ take n (take (length due - at) (drop at due))) before
    ∙ append_assoc old (take at due) (take n (take (length due - at) (drop at due)))
    ∙ ap (λ (l : List ℕ). old ++ (take at due ++ take n l)) (take_rest due at)
    ∙ ap (λ (l : List ℕ). old ++ l) (sym (take-add at n due))

-- a piece read behind those before it
pub read_more : (file have piece next : List ℕ) (had at n len : ℕ) → have ≡ take had file → at ≡ had → IsRead file at n piece → n ≤ length piece → next ≡ have ++ take n piece → len ≡ had + length (take n piece) → next ≡ take len file
read_more file have piece next had at n len before place read room more long =
    more
    ∙ ap (λ (l : List ℕ). l ++ take n piece) before
    ∙ ap (λ (l : List ℕ). take had file ++ l) read.bytes
    ∙ ap (λ (k : ℕ). take had file ++ take n (drop k file)) place
    ∙ sym (take-add had n file)
    ∙ ap (λ (k : ℕ). take k file) (sym (long ∙ ap (λ (k : ℕ). had + k) (length-take-le n piece room)))

-- no more bytes were read than the file has
seen_len : (file bytes : List ℕ) → bytes ≡ take (length bytes) file → length bytes ≤ length file
seen_len file bytes front = omega (arith, ap (λ (l : List ℕ). length l) front, length-take (length bytes) file)

-- the first bytes of what was read are those of the file
pub front_bytes : (most : ℕ) (file bytes : List ℕ) → bytes ≡ take (length bytes) file → (length file ≤ length bytes) ⊎ (most < length bytes) → take most bytes ≡ take most file
front_bytes most file bytes front (inr more) =
    let le : most ≤ length bytes = omega arith in
    ap (λ (l : List ℕ). take most l) front ∙ take-take most (length bytes) file le
front_bytes most file bytes front (inl all) = ap (λ (l : List ℕ). take most l) (front ∙ take_all (length bytes) file all)

-- and it is longer than what is kept exactly where the file is
pub front_longer : (most : ℕ) (file bytes : List ℕ) → bytes ≡ take (length bytes) file → (length file ≤ length bytes) ⊎ (most < length bytes) → ltb most (length bytes) ≡ ltb most (length file)
front_longer most file bytes front (inr more) =
    let le = seen_len file bytes front in
    let both : most < length file = omega arith in
    lt-ltb most (length bytes) more ∙ sym (lt-ltb most (length file) both)
front_longer most file bytes front (inl all) =
    let le = seen_len file bytes front in
    let same : length bytes ≡ length file = omega arith in
    ap (λ (n : ℕ). ltb most n) same
