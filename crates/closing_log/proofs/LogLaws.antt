-- A log's text is read exactly.
use Rattle.std.proofs.Common.{◌≡◌, ℕ, ◌+◌, ◌-◌, ◌≤◌, ◌<◌, true, false, List, [], ◌∷◌, ◌++◌, length, take, Result, Ok, Err, Some, None, refl, sym, ap, subst, ◌∙◌, append_assoc, arith}
use Rattle.std.specs.Prelude.{⊤, codes, IfOk, IfErr, MatchResult}
use Rattle.std.proofs.lemmas.List.{length-append, append_cancel_left, append_cancel_right, take_at}
use Rattle.fund_base.specs.Parsing.{◌>>=◌}
use Rattle.closing_log.specs.declared.fault.LogTextFault.{LogTextFault}
use Rattle.closing_log.specs.declared.fault.LogTextFault.TheVariants as faults
use Rattle.closing_log.specs.Exact.{StopsAt, IsFirstFault}
use Rattle.closing_log.specs.Gives.{Agrees, IsPlaceOf, IsLogTextFault}
use Rattle.closing_log.specs.declared.part.Part.TheVariants.{End, Open}
use Rattle.closing_log.specs.Log.{PlainSection, PlainOpen, PlainLog}
use Rattle.closing_log.specs.LogText.{IsEnding, AreSections, Anything, IsLogText, IsCount}
use Rattle.closing_log.specs.Reading.{word_at, part_at, body_at, log_rest, log_at}
use Rattle.closing_log.proofs.Exactness.{Law, Then, then_law, law_as, ok_is, not_both}
use Rattle.closing_log.proofs.FirstFaults.{fault_where, stop_within}
use Rattle.closing_log.proofs.WordLaws.{IsWord, word_piece, word_again}
use Rattle.closing_log.proofs.BodyLaws.{BodyOf, stop_of, body_law}
use Rattle.closing_log.proofs.Loops.{body_end, body_open, body_fail, body_out}
use Rattle.closing_log.proofs.CountLaws.{counted}

-- a law for each length is one for all
any_length : {Y : Type 0} (m : ℕ) (item : ℕ → List ℕ → Result Y (List ℕ)) (Means : List ℕ → Y → Type 0) → ((n : ℕ) → Law n (item n) Means) → Law m (λ bytes. item (length bytes) bytes) Means
any_length m item Means laws = record {
  takes = λ bytes y le e. (laws (length bytes)).takes bytes y (omega arith) e;
  again = λ bytes y le h. (laws (length bytes)).again bytes y (omega arith) h;
  stops = λ bytes stop le e. (laws (length bytes)).stops bytes stop (omega arith) e;
  some = (laws 0).some;
}

abbrev header : List ℕ
header = codes "fund-log 1\n"

abbrev body_of : List ℕ → Result PlainLog (List ℕ)
body_of bytes = stop_of (body_at (length bytes) [] bytes)

to_text : (bytes : List ℕ) (log : PlainLog) → Then (IsWord header) (λ u. BodyOf []) bytes log → IsLogText bytes log
to_text bytes log t =
    let b = t.others in
    record { back = t.back; parts = t.parts ∙ ap (λ x. x ++ t.back) t.first; sections = subst (λ (ss : List PlainSection). AreSections ss (λ text. IsEnding text log.tail log.ended) t.back) (sym b.whole) b.sections }

from_text : (bytes : List ℕ) (log : PlainLog) → IsLogText bytes log → Then (IsWord header) (λ u. BodyOf []) bytes log
from_text bytes log i = record { value = tt; front = header; back = i.back; parts = i.parts; first = refl; others = record { more = log.closed; whole = refl; sections = i.sections } }

log_stop_of : (r : Result (⊤ × List ℕ) (List ℕ)) → stop_of (log_rest r) ≡ (r >>= λ u. body_of u.1)
log_stop_of (Ok u) = refl
log_stop_of (Err s) = refl

log_stop : (bytes : List ℕ) → stop_of (log_at bytes) ≡ (word_at header bytes >>= λ u. body_of u.1)
unfolding log_at
log_stop bytes = log_stop_of (word_at header bytes)

text_law : (n : ℕ) → Law n (λ bytes. word_at header bytes >>= λ u. body_of u.1) IsLogText
text_law n =
    law_as n (λ bytes. word_at header bytes >>= λ u. body_of u.1) (Then (IsWord header) (λ u. BodyOf [])) IsLogText to_text from_text
    (then_law n n (word_at header) (IsWord header) (λ u. body_of) (λ u. BodyOf []) (λ text x m. omega arith) (word_piece header) (λ u. any_length n (λ k bytes. stop_of (body_at k [] bytes)) (BodyOf []) (λ k. body_law k [])))

pub log_takes : (bytes : List ℕ) (log : PlainLog) → log_at bytes ≡ Ok log → IsLogText bytes log
log_takes bytes log e = (text_law (length bytes)).takes bytes log (omega arith) (sym (log_stop bytes) ∙ ap stop_of e)

pub log_again : (bytes : List ℕ) (log : PlainLog) → IsLogText bytes log → stop_of (log_at bytes) ≡ Ok log
log_again bytes log i = log_stop bytes ∙ (text_law (length bytes)).again bytes log (omega arith) i

pub log_stops : (bytes stop : List ℕ) (k : ℕ) → log_at bytes ≡ Err (stop, k) → StopsAt IsLogText bytes stop
log_stops bytes stop k e = (text_law (length bytes)).stops bytes stop (omega arith) (sym (log_stop bytes) ∙ ap stop_of e)

-- a text has one log
pub one_log : (bytes : List ℕ) (a b : PlainLog) → IsLogText bytes a → IsLogText bytes b → a ≡ b
one_log bytes a b first second = ok_is a b (stop_of (log_at bytes)) (log_again bytes a first) (log_again bytes b second)

-- ---- the place of a fault

pub first_fault : (bytes stop : List ℕ) (k place : ℕ) → log_at bytes ≡ Err (stop, k) → place + length stop ≡ length bytes → IsFirstFault IsLogText bytes place
first_fault bytes stop k place e place-is =
    fault_where IsLogText bytes stop place (log_stops bytes stop k e) place-is (λ log i. not_both log stop (stop_of (log_at bytes)) (log_again bytes log i) (ap stop_of e))

-- ---- the count of sections

err_same : (a b : List ℕ × ℕ) (r : Result PlainLog (List ℕ × ℕ)) → r ≡ Err a → r ≡ Err b → a ≡ b
err_same a b r p q = cc

count_of : (bytes stop : List ℕ) (k place : ℕ) (r : Result (⊤ × List ℕ) (List ℕ)) → word_at header bytes ≡ r → log_rest r ≡ Err (stop, k) → place + length stop ≡ length bytes → (cut : List ℕ) → bytes ≡ cut ++ stop → length cut ≡ place → IsCount bytes place k
count_of bytes stop k place (Err left) is e place-is cut parts at =
    let pair = err_same (left, 0) (stop, k) (log_rest (Err left)) refl e in
    let front : take place bytes ≡ cut = ap (take place) parts ∙ take_at cut stop place at in
    record {
      most = λ ss s.
          let whole : bytes ≡ header ++ (s.back ++ stop) = parts ∙ ap (λ t. t ++ stop) (sym front ∙ s.parts) ∙ append_assoc header s.back stop in
          absurd (not_both (tt, s.back ++ stop) left (word_at header bytes) (ap (word_at header) whole ∙ word_again header (s.back ++ stop)) is);
      some = λ lt. absurd (omega (arith, lt, ap (λ (p : List ℕ × ℕ). p.1) pair));
    }
count_of bytes stop k place (Ok u) is e place-is cut parts at =
    let h = (word_piece header).takes bytes u is in
    let whole : bytes ≡ header ++ u.1 = h.parts ∙ ap (λ t. t ++ u.1) h.means in
    let c = counted (length u.1) [] u.1 stop k (omega arith) e in
    let same : cut ≡ header ++ c.front = append_cancel_right cut (header ++ c.front) stop (sym parts ∙ whole ∙ ap (λ t. header ++ t) c.parts ∙ sym (append_assoc header c.front stop)) in
    let front : take place bytes ≡ header ++ c.front = ap (take place) parts ∙ take_at cut stop place at ∙ same in
    record {
      most = λ ss s.
          let tail : c.front ≡ s.back = append_cancel_left header c.front s.back (sym front ∙ s.parts) in
          let few = c.most ss (subst (AreSections ss Anything) (sym tail) s.sections) in
          omega (arith, few);
      some = λ lt. (c.sections, omega (arith, c.count), record { back = c.front; parts = front; sections = c.stand });
    }

pub first_count : (bytes stop : List ℕ) (k place : ℕ) → log_at bytes ≡ Err (stop, k) → place + length stop ≡ length bytes → IsCount bytes place k
unfolding log_at
first_count bytes stop k place e place-is =
    let s = log_stops bytes stop k e in
    count_of bytes stop k place (word_at header bytes) refl e place-is s.front s.parts (omega (arith, place-is, ap length s.parts, length-append s.front stop))

-- ---- what the reader tells

form_place : (bytes stop : List ℕ) (k : ℕ) → log_at bytes ≡ Err (stop, k) → IsPlaceOf bytes (log_at bytes) (length bytes - length stop) k
form_place bytes stop k e = record { stop = stop; is = e; place_is = omega (arith, stop_within IsLogText bytes stop (log_stops bytes stop k e)) }

tell_fault : (bytes stop : List ℕ) (k : ℕ) (f : LogTextFault) → f ≡ faults.Form (length bytes - length stop) k → log_at bytes ≡ Err (stop, k) → Agrees bytes (Err f) (log_at bytes)
tell_fault bytes stop k f is e = subst (λ (g : LogTextFault). Agrees bytes (Err g) (log_at bytes)) (sym is) (form_place bytes stop k e)

-- bytes that don't name the format
pub tell_word : (bytes stop : List ℕ) (f : LogTextFault) → f ≡ faults.Form (length bytes - length stop) 0 → word_at (codes "fund-log 1\n") bytes ≡ Err stop → Agrees bytes (Err f) (log_at bytes)
unfolding log_at
tell_word bytes stop f is e = tell_fault bytes stop 0 f is (ap log_rest e)

pub log_begins : (bytes rest : List ℕ) → word_at (codes "fund-log 1\n") bytes ≡ Ok (tt, rest) → body_at (length rest - 0) [] rest ≡ log_at bytes
unfolding log_at
log_begins bytes rest e = let k : length rest - 0 ≡ length rest = omega arith in rw k (sym (ap log_rest e))

pub tell_part : (bytes : List ℕ) (count i : ℕ) (done : List PlainSection) (rest stop : List ℕ) (f : LogTextFault) → f ≡ faults.Form (length bytes - length stop) (length done) → i < count → part_at rest ≡ Err stop → body_at (count - i) done rest ≡ log_at bytes → Agrees bytes (Err f) (log_at bytes)
tell_part bytes count i done rest stop f is lt e so_far = tell_fault bytes stop (length done) f is (sym so_far ∙ body_fail count i done rest stop lt e)

pub tell_out : (bytes : List ℕ) (count i : ℕ) (done : List PlainSection) (rest : List ℕ) (f : LogTextFault) → f ≡ faults.Form (length bytes - length rest) (length done) → count ≤ i → body_at (count - i) done rest ≡ log_at bytes → Agrees bytes (Err f) (log_at bytes)
tell_out bytes count i done rest f is le so_far = tell_fault bytes rest (length done) f is (sym so_far ∙ body_out count i done rest le)

pub tell_end : (bytes : List ℕ) (count i : ℕ) (done : List PlainSection) (rest after : List ℕ) → i < count → part_at rest ≡ Ok (End, after) → body_at (count - i) done rest ≡ log_at bytes → log_at bytes ≡ Ok (record { closed = done; tail = None; ended = true })
tell_end bytes count i done rest after lt e so_far = sym so_far ∙ body_end count i done rest after lt e

pub tell_open : (bytes : List ℕ) (count i : ℕ) (done : List PlainSection) (rest : List ℕ) (o : PlainOpen) (after : List ℕ) → i < count → part_at rest ≡ Ok (Open o, after) → body_at (count - i) done rest ≡ log_at bytes → log_at bytes ≡ Ok (record { closed = done; tail = Some o; ended = false })
tell_open bytes count i done rest o after lt e so_far = sym so_far ∙ body_open count i done rest o after lt e

-- ---- the clauses

pub tells_found : (bytes : List ℕ) (r : Result PlainLog LogTextFault) → Agrees bytes r (log_at bytes) → IfOk r (λ log. IsLogText bytes log)
tells_found bytes (Ok log) e = log_takes bytes log e
tells_found bytes (Err f) e = tt

pub tells_only : (bytes : List ℕ) (r : Result PlainLog LogTextFault) → Agrees bytes r (log_at bytes) → (log : PlainLog) → IsLogText bytes log → MatchResult r (λ l. l ≡ log) (λ e. e ≡ faults.Memory)
tells_only bytes (Ok l) e log i = one_log bytes l log (log_takes bytes l e) i
tells_only bytes (Err faults.Memory) e log i = refl
tells_only bytes (Err (faults.Form place k)) e log i = absurd ((first_fault bytes e.stop k place e.is e.place_is).whole log i)

pub tells_fault : (bytes : List ℕ) (r : Result PlainLog LogTextFault) → Agrees bytes r (log_at bytes) → IfErr r (IsLogTextFault bytes)
tells_fault bytes (Ok l) e = tt
tells_fault bytes (Err faults.Memory) e = tt
tells_fault bytes (Err (faults.Form place k)) e = (first_fault bytes e.stop k place e.is e.place_is, first_count bytes e.stop k place e.is e.place_is)
