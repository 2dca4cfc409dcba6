-- Bytes that are no text of a log which comes to its end.
use Rattle.std.specs.Prelude.{ℕ, ◌≡◌, ◌+◌, Bool, true, false, List, [], ◌∷◌, ◌++◌, length, take, codes, Option, Some, None}
use Rattle.std.proofs.Common.{refl, sym, ap, subst, ◌∙◌, arith, append_assoc}
use Rattle.std.proofs.lemmas.Bool.{both_ways}
use Rattle.std.proofs.lemmas.List.{append-nil, length-append, take_all}
use Rattle.std.proofs.lemmas.List.Elements.{All-append, All-from_recursion}
use Rattle.closing_log.proofs.LogLaws.{one_log}
use Rattle.closing_log.specs.Exact.{Begins}
use Rattle.closing_log.specs.Gives.{IsLogTextFault}
use Rattle.closing_log.specs.Log.{PlainLog, PlainOpen, PlainSection}
use Rattle.closing_log.specs.LogText.{AreSections, AreJoined, IsClosed, IsEnding, IsLetter, IsLogText, IsOpen, closed_text, head_text}
use Rattle.closing_log.specs.declared.fault.LogTextFault.{LogTextFault}
use Rattle.closing_log.specs.declared.fault.LogTextFault.TheVariants as faults
use Rattle.report_check.specs.Proved.{IsEndedText}
use Rattle.report_check.specs.Refused.{IsFormRefusal}
use Rattle.report_check.specs.declared.fault.CheckFault.{CheckFault}
use Rattle.report_check.specs.declared.fault.CheckFault.TheVariants as check

-- ---- an open section can be closed

regroup : (h o s a e : List ℕ) → (h ++ o) ++ ((s ++ a) ++ e) ≡ (h ++ ((o ++ s) ++ a)) ++ e
regroup [] [] s a e = refl
regroup [] (x ∷ o) s a e = ap (λ (t : List ℕ). x ∷ t) (regroup [] o s a e)
regroup (x ∷ h) o s a e = ap (λ (t : List ℕ). x ∷ t) (regroup h o s a e)

-- an open section with the letter S more, and no answer
abbrev closed_of : PlainOpen → PlainSection
closed_of o = record { row = o.row; stage = o.stage; digest = o.digest; letters = o.letters ++ 83 ∷ []; answer = None }

abbrev closing : List ℕ
closing = codes "\nanswer " ++ (codes "none" ++ codes "\n")

abbrev closes : List ℕ
closes = (83 ∷ [] ++ closing) ++ codes "end\n"

section_closed : (text : List ℕ) (o : PlainOpen) → IsOpen text o → AreJoined (λ front. IsClosed front (closed_of o)) (λ back. IsEnding back None true) (text ++ closes)
section_closed text o h =
    record {
      front = closed_text h.digits (closed_of o);
      back = codes "end\n";
      parts = ap (λ (t : List ℕ). t ++ closes) h.lines ∙ regroup (head_text h.digits o.row o.stage) o.letters (83 ∷ []) closing (codes "end\n");
      first = record {
        digits = h.digits;
        lines = refl;
        digest = h.digest;
        row = h.row;
        can = record {
          stage = h.can.stage;
          letters = All-append IsLetter o.letters (83 ∷ []) h.can.letters (All-from_recursion IsLetter (83 ∷ []) ((omega arith, omega arith), tt));
          some = omega (arith, length-append o.letters (83 ∷ []));
          answer = tt;
        };
        places = tt;
      };
      others = refl;
    }

-- sections one behind the other, with one more in place of what ends them
one_behind : (ss : List PlainSection) (s : PlainSection) (Ending : List ℕ → Type 0) (more : List ℕ) → ((t : List ℕ) → Ending t → AreJoined (λ front. IsClosed front s) (λ back. IsEnding back None true) (t ++ more)) →
    (text : List ℕ) → AreSections ss Ending text → AreSections (ss ++ s ∷ []) (λ back. IsEnding back None true) (text ++ more)
one_behind [] s Ending more close text h = close text h
one_behind (t ∷ ts) s Ending more close text h =
    record {
      front = h.front;
      back = h.back ++ more;
      parts = ap (λ (u : List ℕ). u ++ more) h.parts ∙ append_assoc h.front h.back more;
      first = h.first;
      others = one_behind ts s Ending more close h.back h.others;
    }

-- what ends sections is there
ends_somewhere : (ss : List PlainSection) (Ending : List ℕ → Type 0) (text : List ℕ) → AreSections ss Ending text → (t : List ℕ) × Ending t
ends_somewhere [] Ending text h = (text, h)
ends_somewhere (s ∷ ss) Ending text h = ends_somewhere ss Ending h.back h.others

open_goes_on : (log : PlainLog) (o : PlainOpen) (bytes : List ℕ) (back : List ℕ) → bytes ≡ codes "fund-log 1\n" ++ back → AreSections log.closed (λ text. IsOpen text o) back → Begins IsEndedText bytes
open_goes_on log o bytes back parts h =
    record {
      more = closes;
      value = record { closed = log.closed ++ closed_of o ∷ []; tail = None; ended = true };
      means = (
        record {
          back = back ++ closes;
          parts = ap (λ (t : List ℕ). t ++ closes) parts ∙ append_assoc (codes "fund-log 1\n") back closes;
          sections = one_behind log.closed (closed_of o) (λ text. IsOpen text o) closes (λ t open_there. section_closed t o open_there) back h;
        },
        refl,
      );
    }

-- each text of a log goes on to one that comes to its end
goes_on : (bytes : List ℕ) (log : PlainLog) → IsLogText bytes log → Begins IsEndedText bytes
goes_on bytes log h = by log.tail log.ended refl h.sections
  where
    ended_already : log.ended ≡ true → Begins IsEndedText bytes
    ended_already e = record { more = []; value = log; means = (subst (λ (t : List ℕ). IsLogText t log) (sym (append-nil bytes)) h, e) }

    by : (tail : Option PlainOpen) (ended : Bool) → log.ended ≡ ended → AreSections log.closed (λ text. IsEnding text tail ended) h.back → Begins IsEndedText bytes
    by tail true e k = ended_already e
    by None false e k = absurd (ends_somewhere log.closed (λ text. IsEnding text None false) h.back k).1
    by (Some o) false e k = open_goes_on log o bytes h.back h.parts k

begins_on : (front : List ℕ) → Begins IsLogText front → Begins IsEndedText front
begins_on front b =
    let on = goes_on (front ++ b.more) b.value b.means in
    record { more = b.more ++ on.more; value = on.value; means = subst (λ (t : List ℕ). IsEndedText t on.value) (append_assoc front b.more on.more) on.means }

begins_so : (front : List ℕ) → Begins IsEndedText front → Begins IsLogText front
begins_so front b = record { more = b.more; value = b.value; means = b.means.0 }

-- ---- the place

pub form_refused : (bytes : List ℕ) (place sections : ℕ) → IsLogTextFault bytes (faults.Form place sections) → IsFormRefusal bytes (check.LogForm place)
form_refused bytes place sections h =
    let f = h.0 in
    record {
      within = f.within;
      begins = begins_on (take place bytes) f.begins;
      never = λ below b. f.never below (begins_so (take (place + 1) bytes) b);
      whole = λ log means. f.whole log means.0;
    }

pub open_refused : (bytes : List ℕ) (log : PlainLog) → IsLogText bytes log → log.ended ≡ false → IsFormRefusal bytes (check.LogForm (length bytes))
open_refused bytes log h e =
    record {
      within = omega arith;
      begins = subst (Begins IsEndedText) (sym (take_all (length bytes) bytes (omega arith))) (goes_on bytes log h);
      never = λ below b. absurd (omega (arith, below));
      whole = λ other means. both_ways log.ended e (ap (λ (l : PlainLog). l.ended) (one_log bytes log other h means.0) ∙ means.1);
    }

-- bytes are refused for their fault
pub refused_as : (bytes : List ℕ) (f : LogTextFault) (e : CheckFault) → IsLogTextFault bytes f → (f ≡ faults.Memory → e ≡ check.Memory) → ((place sections : ℕ) → f ≡ faults.Form place sections → e ≡ check.LogForm place) → IsFormRefusal bytes e
refused_as bytes faults.Memory e h memory form = subst (IsFormRefusal bytes) (sym (memory refl)) tt
refused_as bytes (faults.Form place sections) e h memory form = subst (IsFormRefusal bytes) (sym (form place sections refl)) (form_refused bytes place sections h)
