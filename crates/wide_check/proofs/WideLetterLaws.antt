-- Letters and their reading.
use Rattle.std.specs.Prelude.{◌≡◌, ℕ, ◌==◌, List, [], ◌∷◌, ◌++◌, length, unwrap_or, Option, Some, None, if◌then◌else◌}
use Rattle.std.proofs.Common.{refl, sym, ap, ◌∙◌}
use Rattle.std.proofs.lemmas.List.{length-map, map-append}
use Rattle.wide_check.specs.declared.token.WideReason.TheVariants.{Short, Over, Heavy, Wasteful, Ended}
use Rattle.wide_check.specs.declared.token.WideToken.{WideToken}
use Rattle.wide_check.specs.declared.token.WideToken.TheVariants.{Enter, Pass, Mark, Close}
use Rattle.wide_check.specs.WideTokens.{letter_of, token_of}
use Rattle.wide_check.specs.WideLetters.{letters_of, token_read, read}
use Rattle.pick_problem.proofs.Deciding.{by_test, eq_yes, if_false, if_true}

pub letters-append : (ks ls : List WideToken) → letters_of (ks ++ ls) ≡ letters_of ks ++ letters_of ls
letters-append ks ls = map-append letter_of ks ls

pub letters-length : (ks : List WideToken) → length (letters_of ks) ≡ length ks
letters-length ks = length-map ks letter_of

pub read-append : (xs ys : List ℕ) → read (xs ++ ys) ≡ read xs ++ read ys
read-append xs ys = map-append token_read xs ys

pub read-length : (xs : List ℕ) → length (read xs) ≡ length xs
read-length xs = length-map xs token_read

-- a token's letter is read as the token
pub token_of_letter : (k : WideToken) → token_of (letter_of k) ≡ Some k
token_of_letter Enter = refl
token_of_letter Pass = refl
token_of_letter (Close Short) = refl
token_of_letter (Close Over) = refl
token_of_letter (Close Heavy) = refl
token_of_letter (Close Wasteful) = refl
token_of_letter (Close Ended) = refl
token_of_letter Mark = refl

pub letter_read : (k : WideToken) → token_read (letter_of k) ≡ k
letter_read k = ap (λ (o : Option WideToken). unwrap_or o (Close Short)) (token_of_letter k)

pub read_letters : (ks : List WideToken) → read (letters_of ks) ≡ ks
read_letters [] = refl
read_letters (k ∷ ks) = ap (λ (m : WideToken). m ∷ read (letters_of ks)) (letter_read k) ∙ ap (λ (ls : List WideToken). k ∷ ls) (read_letters ks)

pub read_is : (b : ℕ) (k : WideToken) → token_of b ≡ Some k → token_read b ≡ k
read_is b k e = ap (λ (o : Option WideToken). unwrap_or o (Close Short)) e

-- one test of a letter
tested : (b n : ℕ) (t k : WideToken) (rest : Option WideToken) → n ≡ letter_of t → (if b == n then Some t else rest) ≡ Some k →
    (rest ≡ Some k → letter_of k ≡ b) → letter_of k ≡ b
tested b n t k rest is e other =
    by_test (letter_of k ≡ b) (b == n)
    (λ y.
    let same : t ≡ k = let both : Some t ≡ Some k = sym (if_true (b == n) (Some t) rest y) ∙ e in cc in
    ap letter_of (sym same) ∙ (sym is ∙ sym (eq_yes b n y)))
    (λ no_match. other (sym (if_false (b == n) (Some t) rest no_match) ∙ e))

-- a byte that is read as a token is its letter
pub letter_is : (b : ℕ) (k : WideToken) → token_of b ≡ Some k → letter_of k ≡ b
letter_is b k e =
    tested b 73 Enter k _ refl e
    (λ e1. tested b 84 Pass k _ refl e1
    (λ e2. tested b 66 Mark k _ refl e2
    (λ e3. tested b 83 (Close Short) k _ refl e3
    (λ e4. tested b 79 (Close Over) k _ refl e4
    (λ e5. tested b 72 (Close Heavy) k _ refl e5
    (λ e6. tested b 86 (Close Wasteful) k _ refl e6
    (λ e7. tested b 78 (Close Ended) k _ refl e7 (λ (e8 : None ≡ Some k). absurd (cc)))))))))
