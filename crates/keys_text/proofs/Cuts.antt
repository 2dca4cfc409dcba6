-- Parts of scripts and keys, as the code cuts them.
use Rattle.std.proofs.Common.{◌≡◌, ◌-◌, ℕ, Bool, true, ◌==◌, ◌&&◌, List, [], ◌∷◌, length, get_or, take, drop, bytes_eq, slice_index, refl, sym, ap, ◌∙◌, eq-eqb, arith}
use Rattle.std.proofs.lemmas.List.{length-drop, take_all}
use Rattle.std.specs.List.{slice_range}
use Rattle.keys_text.specs.Judging.{is_compressed, is_xpub, pays_script_hash}
use Rattle.keys_text.specs.PlainKeys.{PlainKeyPath}

-- what is cut from a place to the end
rest_is : (xs : List ℕ) (k : ℕ) → slice_range xs k (length xs) ≡ drop k xs
rest_is xs k = let long = length-drop k xs in take_all (length xs - k) (drop k xs) (omega (arith, long))

-- two tests that are passed before a third
third : (a b last : Bool) → a ≡ true → b ≡ true → last ≡ (a && b && last)
third a b last one two = rw (one, two) refl

pub hash_ends : (script : List ℕ) (ends : Bool) → length script ≡ 23 → bytes_eq (take 2 script) (169 ∷ 20 ∷ []) ≡ true → ends ≡ bytes_eq (slice_range script 22 (length script)) (135 ∷ []) → ends ≡ pays_script_hash script
hash_ends script ends long begins e =
    e ∙ ap (λ (rest : List ℕ). bytes_eq rest (135 ∷ [])) (rest_is script 22)
    ∙ third (length script == 23) (bytes_eq (take 2 script) (169 ∷ 20 ∷ [])) (bytes_eq (drop 22 script) (135 ∷ [])) (ap (λ n. n == 23) long) begins

pub extended : (k : PlainKeyPath) (bytes : List ℕ) (steps : ℕ) (ends : Bool) → bytes ≡ k.key → length bytes ≡ 78 → get_or bytes 4 0 ≡ steps → steps ≡ length k.path → ends ≡ is_compressed (slice_range bytes 45 (length bytes)) → ends ≡ is_xpub k
extended k bytes steps ends same long depth count e =
    e ∙ ap is_compressed (rest_is bytes 45 ∙ ap (λ (b : List ℕ). drop 45 b) same)
    ∙ third (length k.key == 78) (slice_index k.key 4 == length k.path) (is_compressed (drop 45 k.key)) (ap (λ (b : List ℕ). length b == 78) (sym same) ∙ ap (λ n. n == 78) long)
    (eq-eqb (slice_index k.key 4) (length k.path) (ap (λ (b : List ℕ). get_or b 4 0) (sym same) ∙ depth ∙ count))
