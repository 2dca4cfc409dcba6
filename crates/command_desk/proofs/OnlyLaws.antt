-- A line says one command at most.
use Rattle.std.specs.Prelude.{ℕ, ◌≡◌, ◌≢◌, ◌≤◌, ◌<◌, ◌+◌, ◌%◌, ◌^◌, ◌⊎◌, ◌==◌, ◌&&◌, not, List, [], ◌∷◌, Bool, true, false, codes, length, nat_le, nat_lt, reverse}
use Rattle.std.specs.Fmt.{decimal}
use Rattle.std.specs.List.{AllPass, list_all}
use Rattle.std.proofs.Common.{refl, sym, ap, ◌∙◌, inl, inr, arith, eq-eqb}
use Rattle.std.proofs.lemmas.Bool.{and_from, and_parts, le-leb, lt-ltb}
use Rattle.std.proofs.lemmas.Fmt.{decimal_by_steps}
use Rattle.std.proofs.lemmas.List.{length-reverse, reverse-reverse}
use Rattle.std.proofs.lemmas.List.Elements.{All-cons, All-nil, All-push, All-weaker}
use Rattle.std.proofs.lemmas.Str.{is_utf8-from_IsUtf8}
use Rattle.fund_base.specs.Decimal.{number_of}
use Rattle.fund_base.proofs.Decimals.{only as number_only}
use Rattle.hex.proofs.HexLemmas.{decode_of-ok}
use Rattle.hex.specs.Hex.{decode_of, is_hex_digit}
use Rattle.command_desk.specs.Line.{IsFileWord, IsTxidWord, Line, Open, Turn, Commit, Close, Release, Blocks, Pending, Other, Says, by_hash, by_one, by_tries, by_two, by_words, is_file_word, line_of, where_fits}
use Rattle.command_desk.specs.Script.{three_words, two_words}
use Rattle.command_desk.proofs.WordLaws.{HasNoBlank, three_back, two_back}
use Rattle.fund_outside.proofs.NameLaws.{name_back}
use Rattle.fund_outside.specs.JobName.{IsJobName, is_job_byte, is_job_name}

-- ---- words without a blank

plain_word : (word : List ℕ) → list_all (λ b. not (b == 32)) word ≡ true → HasNoBlank word
plain_word [] e = All-nil _
plain_word (b ∷ rest) e =
    let parts = and_parts (not (b == 32)) (list_all (λ x. not (x == 32)) rest) e in
    All-cons (λ x. x ≢ 32) b rest (λ same. let blank : not (b == 32) ≡ false = ap (λ x. not (x == 32)) same in let other : not (b == 32) ≡ true = parts.0 in absurd cc) (plain_word rest parts.1)

plain_name : (name : List ℕ) → list_all is_job_byte name ≡ true → HasNoBlank name
plain_name [] e = All-nil _
plain_name (b ∷ rest) e =
    let parts = and_parts (is_job_byte b) (list_all is_job_byte rest) e in
    All-cons (λ x. x ≢ 32) b rest (λ same. let blank : is_job_byte b ≡ false = ap is_job_byte same in let other : is_job_byte b ≡ true = parts.0 in absurd cc) (plain_name rest parts.1)

plain_hex : (word : List ℕ) → AllPass is_hex_digit word → HasNoBlank word
plain_hex word digits = All-weaker (λ x. is_hex_digit x ≡ true) (λ x. x ≢ 32) (λ x digit same. let blank : is_hex_digit x ≡ false = ap is_hex_digit same in absurd cc) word digits

plain_decimal : (n : ℕ) → n < 2 ^ 64 → HasNoBlank (decimal n)
plain_decimal n small =
    decimal_by_steps (λ k ds. HasNoBlank ds) (λ k lt. All-cons (λ x. x ≢ 32) (48 + k) [] (λ same. omega (arith, same)) (All-nil _)) (λ k ds le plain. All-push (λ x. x ≢ 32) ds (48 + k % 10) plain (λ same. omega (arith, same))) n small

-- ---- the tests of words

file_back : (file : List ℕ) → IsFileWord file → is_file_word file ≡ true
file_back file h = and_from (nat_lt 0 (length file)) _ (lt-ltb 0 (length file) h.some) (is_utf8-from_IsUtf8 file h.text)

-- ---- lines

two_is : (line verb a : List ℕ) → line ≡ two_words verb a → HasNoBlank verb → HasNoBlank a → line_of line ≡ by_one verb a
two_is line verb a is plain_verb plain_a = ap line_of is ∙ ap by_words (two_back verb a plain_verb plain_a)

three_is : (line verb a b : List ℕ) → line ≡ three_words verb a b → HasNoBlank verb → HasNoBlank a → HasNoBlank b → line_of line ≡ by_two verb a b
three_is line verb a b is plain_verb plain_a plain_b = ap line_of is ∙ ap by_words (three_back verb a b plain_verb plain_a plain_b)

fits : (b : Bool) (said : Line) → b ≡ true → where_fits b said ≡ said
fits b said e = ap (λ (x : Bool). where_fits x said) e

hash_is : (word txid : List ℕ) → IsTxidWord word txid → by_hash (decode_of word) ≡ Release txid
hash_is word txid h =
    ap by_hash h.0
    ∙ fits (length (reverse txid) == 32) (Release (reverse (reverse txid))) (eq-eqb (length (reverse txid)) 32 (length-reverse txid ∙ h.1))
    ∙ ap (λ (t : List ℕ). Release t) (reverse-reverse txid)

tries_are : (name : List ℕ) (tries : ℕ) → IsJobName name → 1 ≤ tries → tries ≤ 10_000_000 → by_tries name (number_of 10_000_000 (decimal tries)) ≡ Turn name tries
tries_are name tries h some most =
    ap (by_tries name) (number_only 10_000_000 tries (decimal tries) (omega arith) most refl)
    ∙ fits (is_job_name name && nat_le 1 tries) (Turn name tries) (and_from (is_job_name name) (nat_le 1 tries) (name_back name h) (le-leb 1 tries some))

pub only_said : (line : List ℕ) (said : Line) → Says line said → (said ≡ line_of line) ⊎ (said ≡ Other)
only_said line Other h = inr refl
only_said line (Open name file) h =
    inl (sym (three_is line (codes "open") name file h.0 (plain_word (codes "open") refl) (plain_name name h.1.each) h.2.plain ∙ fits (is_job_name name && is_file_word file) (Open name file) (and_from (is_job_name name) (is_file_word file) (name_back name h.1) (file_back file h.2))))
only_said line (Turn name tries) h =
    inl (sym (three_is line (codes "turn") name (decimal tries) h.0 (plain_word (codes "turn") refl) (plain_name name h.1.each) (plain_decimal tries (let most = h.3 in omega (arith, most))) ∙ tries_are name tries h.1 h.2 h.3))
only_said line (Commit name) h = inl (sym (two_is line (codes "commit") name h.0 (plain_word (codes "commit") refl) (plain_name name h.1.each) ∙ fits (is_job_name name) (Commit name) (name_back name h.1)))
only_said line (Close name) h = inl (sym (two_is line (codes "close") name h.0 (plain_word (codes "close") refl) (plain_name name h.1.each) ∙ fits (is_job_name name) (Close name) (name_back name h.1)))
only_said line (Release txid) h =
    let digits = decode_of-ok h.0 (reverse txid) h.2.0 in
    inl (sym (two_is line (codes "release") h.0 h.1 (plain_word (codes "release") refl) (plain_hex h.0 digits.1) ∙ hash_is h.0 txid h.2))
only_said line (Blocks file) h = inl (sym (two_is line (codes "blocks") file h.0 (plain_word (codes "blocks") refl) h.1.plain ∙ fits (is_file_word file) (Blocks file) (file_back file h.1)))
only_said line (Pending hex) h = inl (sym (two_is line (codes "pending") hex h.0 (plain_word (codes "pending") refl) h.2 ∙ fits (nat_lt 0 (length hex)) (Pending hex) (lt-ltb 0 (length hex) h.1)))
