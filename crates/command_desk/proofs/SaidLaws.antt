-- What is worked out of a line is what it says.
use Rattle.std.specs.Prelude.{ℕ, ◌≡◌, ◌==◌, ◌&&◌, List, [], ◌∷◌, Bool, true, false, codes, length, bytes_eq, nat_le, nat_lt, reverse, Option, Some, None, Result, Ok, Err}
use Rattle.std.proofs.Common.{refl, sym, ap, ◌∙◌, cond}
use Rattle.std.proofs.lemmas.Bool.{and_parts, eqb-true, leb-true, ltb-true}
use Rattle.std.proofs.lemmas.List.{length-reverse, reverse-reverse}
use Rattle.std.proofs.lemmas.Slice.Eq.{bytes_eq-Decides}
use Rattle.fund_base.proofs.Decimals.{found as number_found}
use Rattle.fund_base.specs.Decimal.{number_of}
use Rattle.hex.specs.Hex.{decode_of}
use Rattle.hex.specs.declared.error.FromHexError.{FromHexError}
use Rattle.command_desk.specs.Line.{Line, Open, Turn, Commit, Close, Release, Blocks, Pending, Other, Says, by_hash, by_one, by_tries, by_two, by_words, is_file_word, line_of, where_fits}
use Rattle.command_desk.specs.Script.{three_words, two_words, words_of}
use Rattle.command_desk.proofs.WordLaws.{HasNoBlank, file_there, three_there, two_there}
use Rattle.fund_outside.proofs.NameLaws.{name_there}
use Rattle.fund_outside.specs.JobName.{is_job_name}

-- where a test decides, the line says so or it is any other
fits : (line : List ℕ) (b : Bool) (said : Line) → (b ≡ true → Says line said) → Says line (where_fits b said)
fits line true said h = h refl
fits line false said h = tt

verb_is : (v w : List ℕ) → bytes_eq v w ≡ true → v ≡ w
verb_is v w e = (bytes_eq-Decides v w).0 e

two_said : (line v a b : List ℕ) → line ≡ three_words v a b → HasNoBlank b → Says line (by_two v a b)
two_said line v a b is plain = by_open (bytes_eq v (codes "open")) refl
  where
    turns : (o : Option ℕ) → number_of 10_000_000 b ≡ o → v ≡ codes "turn" → Says line (by_tries a o)
    turns None e verb = tt
    turns (Some n) e verb = fits line (is_job_name a && nat_le 1 n) (Turn a n) (λ h.
        let x = and_parts (is_job_name a) (nat_le 1 n) h in
        let d = number_found 10_000_000 b n e in
        (is ∙ ap (λ (w : List ℕ). three_words w a b) verb ∙ ap (λ (w : List ℕ). three_words (codes "turn") a w) d.0, name_there a x.0, leb-true 1 n x.1, d.1))

    by_turn : (t : Bool) → bytes_eq v (codes "turn") ≡ t → Says line (cond t (by_tries a (number_of 10_000_000 b)) Other)
    by_turn true e = turns (number_of 10_000_000 b) refl (verb_is v (codes "turn") e)
    by_turn false e = tt

    by_open : (o : Bool) → bytes_eq v (codes "open") ≡ o → Says line (cond o (where_fits (is_job_name a && is_file_word b) (Open a b)) (cond (bytes_eq v (codes "turn")) (by_tries a (number_of 10_000_000 b)) Other))
    by_open true e = fits line (is_job_name a && is_file_word b) (Open a b) (λ h.
        let x = and_parts (is_job_name a) (is_file_word b) h in
        (is ∙ ap (λ (w : List ℕ). three_words w a b) (verb_is v (codes "open") e), name_there a x.0, file_there b x.1 plain))
    by_open false e = by_turn (bytes_eq v (codes "turn")) refl

one_said : (line v a : List ℕ) → line ≡ two_words v a → HasNoBlank a → Says line (by_one v a)
one_said line v a is plain = by_commit (bytes_eq v (codes "commit")) refl
  where
    said_by : (w : List ℕ) → bytes_eq v w ≡ true → line ≡ two_words w a
    said_by w e = is ∙ ap (λ (x : List ℕ). two_words x a) (verb_is v w e)

    hash : (r : Result (List ℕ) FromHexError) → decode_of a ≡ r → line ≡ two_words (codes "release") a → Says line (by_hash r)
    hash (Err error) e said = tt
    hash (Ok bytes) e said = fits line (length bytes == 32) (Release (reverse bytes)) (λ h.
        (a, said, (e ∙ ap (λ (bs : List ℕ). Ok bs) (sym (reverse-reverse bytes)), length-reverse bytes ∙ eqb-true (length bytes) 32 h)))

    by_pending : (b : Bool) → bytes_eq v (codes "pending") ≡ b → Says line (cond b (where_fits (nat_lt 0 (length a)) (Pending a)) Other)
    by_pending true e = fits line (nat_lt 0 (length a)) (Pending a) (λ h. (said_by (codes "pending") e, ltb-true 0 (length a) h, plain))
    by_pending false e = tt

    by_blocks : (b : Bool) → bytes_eq v (codes "blocks") ≡ b → Says line (cond b (where_fits (is_file_word a) (Blocks a)) (cond (bytes_eq v (codes "pending")) (where_fits (nat_lt 0 (length a)) (Pending a)) Other))
    by_blocks true e = fits line (is_file_word a) (Blocks a) (λ h. (said_by (codes "blocks") e, file_there a h plain))
    by_blocks false e = by_pending (bytes_eq v (codes "pending")) refl

    by_release : (b : Bool) → bytes_eq v (codes "release") ≡ b
        → Says line (cond b (by_hash (decode_of a)) (cond (bytes_eq v (codes "blocks")) (where_fits (is_file_word a) (Blocks a)) (cond (bytes_eq v (codes "pending")) (where_fits (nat_lt 0 (length a)) (Pending a)) Other)))
    by_release true e = hash (decode_of a) refl (said_by (codes "release") e)
    by_release false e = by_blocks (bytes_eq v (codes "blocks")) refl

    by_close : (b : Bool) → bytes_eq v (codes "close") ≡ b
        → Says line (cond b (where_fits (is_job_name a) (Close a)) (cond (bytes_eq v (codes "release")) (by_hash (decode_of a)) (cond (bytes_eq v (codes "blocks")) (where_fits (is_file_word a) (Blocks a)) (cond (bytes_eq v (codes "pending")) (where_fits (nat_lt 0 (length a)) (Pending a)) Other))))
    by_close true e = fits line (is_job_name a) (Close a) (λ h. (said_by (codes "close") e, name_there a h))
    by_close false e = by_release (bytes_eq v (codes "release")) refl

    by_commit : (b : Bool) → bytes_eq v (codes "commit") ≡ b
        → Says line (cond b (where_fits (is_job_name a) (Commit a)) (cond (bytes_eq v (codes "close")) (where_fits (is_job_name a) (Close a)) (cond (bytes_eq v (codes "release")) (by_hash (decode_of a)) (cond (bytes_eq v (codes "blocks")) (where_fits (is_file_word a) (Blocks a)) (cond (bytes_eq v (codes "pending")) (where_fits (nat_lt 0 (length a)) (Pending a)) Other)))))
    by_commit true e = fits line (is_job_name a) (Commit a) (λ h. (said_by (codes "commit") e, name_there a h))
    by_commit false e = by_close (bytes_eq v (codes "close")) refl

pub says_of : (line : List ℕ) → Says line (line_of line)
says_of line = by (words_of line) refl
  where
    by : (words : List (List ℕ)) → words_of line ≡ words → Says line (by_words words)
    by [] e = tt
    by (v ∷ []) e = tt
    by (v ∷ a ∷ []) e = let x = two_there line v a e in one_said line v a x.0 x.1
    by (v ∷ a ∷ b ∷ []) e = let x = three_there line v a b e in two_said line v a b x.0 x.1
    by (v ∷ a ∷ b ∷ c ∷ rest) e = tt
