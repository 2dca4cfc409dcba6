-- What is written of a saved position is a text of it.
use Rattle.std.proofs.Common.{◌≡◌, ℕ, List, refl, sym, subst}
use Rattle.std.specs.Prelude.{codes, Option, Some, None, IfSome}
use Rattle.std.specs.Fmt.{decimal}
use Rattle.hex.specs.Hex.{encode_lower}
use Rattle.closing_log.specs.LogText.{IsDigest, answer_text, stage_word}
use Rattle.closing_log.proofs.Feeding.{feeds_then}
use Rattle.closing_log.proofs.WrittenLaws.{digest_written}
use Rattle.fund_base.specs.Writer.{Feeds}
use Rattle.search_keep.specs.SavedText.{CanBeSaved, IsDigestOf, IsSavedText, IsSized, PlainSaved, chosen_text, line, log_digits, log_text, position_text, saved_text, text_of, version_of, version_word}

log_written : (log : Option (List ℕ)) → IfSome log IsDigestOf → IfSome log (IsDigest (log_digits log))
log_written None sized = tt
log_written (Some digest) sized = digest_written digest sized.0 sized.1

pub written_is_text : (s : PlainSaved) → CanBeSaved s → IsSized s → IsSavedText (text_of s) s
written_is_text s can sized = record { digits = encode_lower s.job; log_digits = log_digits s.log; lines = refl; job = digest_written s.job sized.job.0 sized.job.1; log = log_written s.log sized.log; can = can; numbers = sized.numbers }

pub text_is_of : (s : PlainSaved) (text : List ℕ) → text ≡ text_of s → CanBeSaved s → IsSized s → IsSavedText text s
text_is_of s text is can sized = subst (λ (t : List ℕ). IsSavedText t s) (sym is) (written_is_text s can sized)

-- ---- line by line

pub feeds_position : {W : Type 0} (holds : W → List ℕ → Type 0) (a b c d e : W) (s t : PlainSaved) → s ≡ t
    → Feeds holds a b (line (codes "chosen ") (chosen_text s.chosen)) → Feeds holds b c (line (codes "next ") (decimal s.next))
    → Feeds holds c d (line (codes "best ") (answer_text s.best)) → Feeds holds d e (line (codes "parts ") (decimal s.parts)) → Feeds holds a e (position_text t)
feeds_position holds a b c d e s t is one two three four =
    let rest = feeds_then holds b c e _ _ two (feeds_then holds c d e _ _ three four) in
    subst (λ (p : PlainSaved). Feeds holds a e (position_text p)) is (feeds_then holds a b e _ _ one rest)

pub feeds_saved : {W : Type 0} (holds : W → List ℕ → Type 0) (a b c d e f g k : W) (s t : PlainSaved) → s ≡ t
    → Feeds holds a b (line (codes "fund-saved ") (version_word (version_of s.log))) → Feeds holds b c (line (codes "job ") (encode_lower s.job)) → Feeds holds c d (line (codes "tries ") (decimal s.tries))
    → Feeds holds d e (line (codes "row ") (decimal s.row)) → Feeds holds e f (line (codes "stage ") (stage_word s.stage)) → Feeds holds f g (position_text s) → Feeds holds g k (log_text (log_digits s.log) s.log) → Feeds holds a k (text_of t)
unfolding saved_text
feeds_saved holds a b c d e f g k s t is one two three four five six seven =
    let rows = feeds_then holds d e k _ _ four (feeds_then holds e f k _ _ five (feeds_then holds f g k _ _ six seven)) in
    let jobs = feeds_then holds b c k _ _ two (feeds_then holds c d k _ _ three rows) in
    subst (λ (p : PlainSaved). Feeds holds a k (text_of p)) is (feeds_then holds a b k _ _ one jobs)
