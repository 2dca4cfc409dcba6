-- Scripts that pay to a hash, and the hash in them.
use Rattle.std.proofs.Common.{◌≡◌, ℕ, ◌+◌, ◌<◌, true, false, List, [], ◌∷◌, ◌++◌, length, take, drop, sym, ◌∙◌, ap, refl, arith, length-append}
use Rattle.std.specs.Prelude.{◌==◌, bytes_eq}
use Rattle.std.proofs.Math.Seq.{drop-drop}
use Rattle.std.proofs.lemmas.Bool.{and_parts, eqb-true, eq-eqb, ne_eqb}
use Rattle.std.proofs.lemmas.List.{take_at, drop_at, take-append-drop, length-drop, length-take-le}
use Rattle.std.proofs.lemmas.List.Elements.{All-append, All-cons, All-from_recursion}
use Rattle.std.proofs.lemmas.Slice.Eq.{bytes_eq-Decides}
use Rattle.fund_base.specs.Cursor.{IsBytes}
use Rattle.base58_addr.specs.Address.{hash_script, key_script, pays_key, pays_script}

-- three parts of a list
parts : (xs : List ℕ) (m n k : ℕ) → k ≡ m + n → xs ≡ take m xs ++ (take n (drop m xs) ++ drop k xs)
parts xs m n k is =
    sym (take-append-drop m xs)
    ∙ ap (λ (l : List ℕ). take m xs ++ l) (sym (take-append-drop n (drop m xs)) ∙ ap (λ (l : List ℕ). take n (drop m xs) ++ l) (drop-drop n m xs ∙ ap (λ (j : ℕ). drop j xs) (sym is)))

same_bytes : (xs ys : List ℕ) → bytes_eq xs ys ≡ true → xs ≡ ys
same_bytes xs ys e = (bytes_eq-Decides xs ys).0 e

bytes_same : (xs ys : List ℕ) → xs ≡ ys → bytes_eq xs ys ≡ true
bytes_same xs ys e = (bytes_eq-Decides xs ys).1 e

-- ---- to a public key hash

pub record IsKey (script hash : List ℕ) : Type 0 where
  pub whole : key_script hash ≡ script
  pub size : length hash ≡ 20

pub key_parts : (script : List ℕ) → pays_key script ≡ true → IsKey script (take 20 (drop 3 script))
key_parts script is =
    let sides = and_parts _ _ is in
    let front = and_parts _ _ sides.0 in
    let long : length script ≡ 25 = eqb-true _ _ front.0 in
    let before : take 3 script ≡ 118 ∷ 169 ∷ 20 ∷ [] = same_bytes _ _ front.1 in
    let after : drop 23 script ≡ 136 ∷ 172 ∷ [] = same_bytes _ _ sides.1 in
    record {
      whole = sym (parts script 3 20 23 refl ∙ (λ i. before i ++ (take 20 (drop 3 script) ++ after i)));
      size = length-take-le 20 (drop 3 script) (omega (arith, length-drop 3 script));
    }

pub key_pays : (hash : List ℕ) → length hash ≡ 20 → pays_key (key_script hash) ≡ true
key_pays hash size =
    let long : (length (key_script hash) == 25) ≡ true = eq-eqb _ _ (omega (arith, length-append hash (136 ∷ 172 ∷ []))) in
    let after : bytes_eq (drop 20 (hash ++ 136 ∷ 172 ∷ [])) (136 ∷ 172 ∷ []) ≡ true = bytes_same _ _ (drop_at hash (136 ∷ 172 ∷ []) 20 size) in
    rw (long, after) refl

pub key_taken : (hash : List ℕ) → length hash ≡ 20 → take 20 (drop 3 (key_script hash)) ≡ hash
key_taken hash size = take_at hash (136 ∷ 172 ∷ []) 20 size

pub key_fits : (hash : List ℕ) → IsBytes hash → IsBytes (key_script hash)
key_fits hash fit =
    let P : ℕ → Type 0 = λ b. b < 256 in
    All-cons P 118 (169 ∷ 20 ∷ (hash ++ 136 ∷ 172 ∷ [])) (omega arith) (All-cons P 169 (20 ∷ (hash ++ 136 ∷ 172 ∷ [])) (omega arith) (All-cons P 20 (hash ++ 136 ∷ 172 ∷ []) (omega arith) (All-append P hash (136 ∷ 172 ∷ []) fit (All-from_recursion P (136 ∷ 172 ∷ []) (omega arith, (omega arith, tt))))))

-- ---- to a script hash

pub record IsHashed (script hash : List ℕ) : Type 0 where
  pub whole : hash_script hash ≡ script
  pub size : length hash ≡ 20

pub hash_parts : (script : List ℕ) → pays_script script ≡ true → IsHashed script (take 20 (drop 2 script))
hash_parts script is =
    let sides = and_parts _ _ is in
    let front = and_parts _ _ sides.0 in
    let long : length script ≡ 23 = eqb-true _ _ front.0 in
    let before : take 2 script ≡ 169 ∷ 20 ∷ [] = same_bytes _ _ front.1 in
    let after : drop 22 script ≡ 135 ∷ [] = same_bytes _ _ sides.1 in
    record {
      whole = sym (parts script 2 20 22 refl ∙ (λ i. before i ++ (take 20 (drop 2 script) ++ after i)));
      size = length-take-le 20 (drop 2 script) (omega (arith, length-drop 2 script));
    }

pub hash_pays : (hash : List ℕ) → length hash ≡ 20 → (pays_key (hash_script hash) ≡ false) × (pays_script (hash_script hash) ≡ true)
hash_pays hash size =
    let size_is : length (hash_script hash) ≡ 23 = omega (arith, length-append hash (135 ∷ [])) in
    let other : (length (hash_script hash) == 25) ≡ false = ne_eqb _ _ (λ e. omega arith) in
    let long : (length (hash_script hash) == 23) ≡ true = eq-eqb _ _ size_is in
    let after : bytes_eq (drop 20 (hash ++ 135 ∷ [])) (135 ∷ []) ≡ true = bytes_same _ _ (drop_at hash (135 ∷ []) 20 size) in
    (rw other refl, rw (long, after) refl)

pub hash_taken : (hash : List ℕ) → length hash ≡ 20 → take 20 (drop 2 (hash_script hash)) ≡ hash
hash_taken hash size = take_at hash (135 ∷ []) 20 size

pub hash_fits : (hash : List ℕ) → IsBytes hash → IsBytes (hash_script hash)
hash_fits hash fit =
    let P : ℕ → Type 0 = λ b. b < 256 in
    All-cons P 169 (20 ∷ (hash ++ 135 ∷ [])) (omega arith) (All-cons P 20 (hash ++ 135 ∷ []) (omega arith) (All-append P hash (135 ∷ []) fit (All-from_recursion P (135 ∷ []) (omega arith, tt))))
