-- The lines of a saved text are read exactly.
use Rattle.std.proofs.Common.{◌≡◌, ℕ, List, [], ◌∷◌, ◌++◌, Ok, Err, Option, Some, None, refl, sym, ap, subst, ◌∙◌, append_assoc, arith}
use Rattle.std.specs.Prelude.{⊤, codes, IfSome}
use Rattle.std.specs.List.{AllByRecursion}
use Rattle.std.specs.Fmt.{decimal}
use Rattle.std.proofs.lemmas.List.{append-nil}
use Rattle.closing_log.specs.declared.log.Stage.{Stage}
use Rattle.closing_log.specs.LogText.{IsDigest, IsSearched, answer_text, stage_word}
use Rattle.closing_log.specs.Exact.{StopsAt, NoneGoesOn}
use Rattle.closing_log.specs.Lines.{behind_at, ended_at, number_line, positive_line}
use Rattle.closing_log.specs.Reading.{choice_at, digest_at, stage_at, word_at}
use Rattle.closing_log.proofs.Exactness.{Piece, Law, Then, Made, then_law, law_as}
use Rattle.closing_log.proofs.PartLaws.{Both, both_piece, made_piece}
use Rattle.closing_log.proofs.DigestLaws.{digest_piece}
use Rattle.closing_log.proofs.SectionLaws.{stage_piece}
use Rattle.closing_log.proofs.WordLaws.{IsOneOf, IsWord, choice_piece, word_piece}
use Rattle.search_keep.specs.declared.lines.Start.{Start}
use Rattle.search_keep.specs.declared.saved.Version.{Version}
use Rattle.search_keep.specs.declared.saved.Version.TheVariants.{First, Second}
use Rattle.search_keep.specs.Reading.{best_at, best_line, chosen_at, chosen_line, end_of, job_at, last_at, log_at, most_parts, next_at, parts_at, position_at, position_end, row_at, saved_at, saved_of, stage_line, start_at, start_of, tries_at, version_at, version_line, versions}
use Rattle.search_keep.specs.SavedText.{CanBeSaved, HasNumbers, IsSavedText, PlainSaved, chosen_text, line, log_text, position_text, saved_text, version_of, version_word}
use Rattle.closing_log.proofs.LineLaws.{Behind, Ended, IsNumberLine, IsPositiveLine, behind_piece, ended_piece, number_line_piece, positive_piece}
use Rattle.search_keep.proofs.MarkLaws.{IsBestLine, IsChosenLine, best_piece, chosen_piece}

abbrev IsJob : List ℕ → List ℕ → Type 0
IsJob = Behind (codes "job ") (Ended IsDigest)

abbrev IsStageLine : List ℕ → Stage → Type 0
IsStageLine = Behind (codes "stage ") (Ended (IsOneOf stage_word IsSearched))

abbrev most_tries : ℕ
most_tries = 18_446_744_073_709_551_615

abbrev IsTries : List ℕ → ℕ → Type 0
IsTries = Behind (codes "tries ") (IsNumberLine most_tries)

abbrev IsRow : List ℕ → ℕ → Type 0
IsRow = Behind (codes "row ") (IsNumberLine 255)

-- ---- the version

abbrev AnyVersion : Version → Type 0
AnyVersion v = Unit {0}

each_version : (P : Version → Type 0) → AllByRecursion P versions → (v : Version) → AnyVersion v → P v
each_version P all First is = all.0
each_version P all Second is = all.1.0

version_again : (v : Version) (rest : List ℕ) → AnyVersion v → choice_at version_word versions (version_word v ++ rest) (version_word v ++ rest) ≡ Ok (v, rest)
unfolding choice_at word_at
version_again First rest is = refl
version_again Second rest is = refl

version_piece : Piece version_at (IsOneOf version_word AnyVersion)
version_piece = choice_piece version_word AnyVersion versions (tt, (tt, tt)) each_version version_again (record { more = codes "1"; value = First; means = (tt, refl) })

abbrev IsVersionLine : List ℕ → Version → Type 0
IsVersionLine = Behind (codes "fund-saved ") (Ended (IsOneOf version_word AnyVersion))

-- ---- the lines up to the stage

abbrev IsFields : List ℕ → List ℕ × (ℕ × (ℕ × Stage)) → Type 0
IsFields = Both IsJob (λ j. Both IsTries (λ n. Both IsRow (λ r. IsStageLine)))

abbrev IsStart : List ℕ → Start → Type 0
IsStart = Made start_of (Both IsVersionLine (λ v. IsFields))

start_piece : Piece start_at IsStart
start_piece =
    made_piece start_of _ (Both IsVersionLine (λ v. IsFields))
    (both_piece version_line _ IsVersionLine (λ v. IsFields) (behind_piece (codes "fund-saved ") (ended_at version_at) (Ended (IsOneOf version_word AnyVersion)) (ended_piece version_at (IsOneOf version_word AnyVersion) version_piece))
    (λ v. both_piece job_at _ IsJob _ (behind_piece (codes "job ") (ended_at digest_at) (Ended IsDigest) (ended_piece digest_at IsDigest digest_piece))
    (λ j. both_piece tries_at _ IsTries _ (behind_piece (codes "tries ") (number_line most_tries) (IsNumberLine most_tries) (number_line_piece most_tries (omega arith)))
    (λ n. both_piece row_at (λ r. stage_line) IsRow (λ r. IsStageLine) (behind_piece (codes "row ") (number_line 255) (IsNumberLine 255) (number_line_piece 255 (omega arith)))
    (λ r. behind_piece (codes "stage ") (ended_at stage_at) (Ended (IsOneOf stage_word IsSearched)) (ended_piece stage_at (IsOneOf stage_word IsSearched) stage_piece))))))

abbrev IsChosen : List ℕ → List ℕ → Type 0
IsChosen = Behind (codes "chosen ") IsChosenLine

abbrev most_place : ℕ
most_place = 4_294_967_295

abbrev IsNext : List ℕ → ℕ → Type 0
IsNext = Behind (codes "next ") (IsNumberLine most_place)

abbrev IsBestOf : List ℕ → Option (List ℕ) → Type 0
IsBestOf = Behind (codes "best ") IsBestLine

abbrev IsParts : ℕ → List ℕ → ℕ → Type 0
IsParts tries = Behind (codes "parts ") (IsPositiveLine (most_parts tries))

-- ---- the line of the log's digest

abbrev to_none : ⊤ → Option (List ℕ)
to_none = λ u. None

abbrev to_some : List ℕ → Option (List ℕ)
to_some = λ digest. Some digest

abbrev IsLogLine : List ℕ → List ℕ → Type 0
IsLogLine = Behind (codes "log ") (Ended IsDigest)

abbrev IsLog : Version → List ℕ → Option (List ℕ) → Type 0
IsLog First = Made to_none (IsWord [])
IsLog Second = Made to_some IsLogLine

log_piece : (v : Version) → Piece (log_at v) (IsLog v)
log_piece First = made_piece to_none (word_at []) (IsWord []) (word_piece [])
log_piece Second = made_piece to_some (behind_at (codes "log ") (ended_at digest_at)) IsLogLine (behind_piece (codes "log ") (ended_at digest_at) (Ended IsDigest) (ended_piece digest_at IsDigest digest_piece))

-- the line of this digest, in a text of this version
record LogLine (v : Version) (text : List ℕ) (log : Option (List ℕ)) : Type 0 where
  pub digits : List ℕ
  pub lines : text ≡ log_text digits log
  pub version : version_of log ≡ v
  pub digest : IfSome log (IsDigest digits)

log_line_of : (v : Version) (text : List ℕ) (log : Option (List ℕ)) → IsLog v text log → LogLine v text log
log_line_of First text log m = subst (λ (o : Option (List ℕ)). LogLine First text o) (sym m.is) (record { digits = []; lines = m.means; version = refl; digest = tt })
log_line_of Second text log m =
    subst (λ (o : Option (List ℕ)). LogLine Second text o) (sym m.is) (record { digits = m.means.means.front; lines = m.means.parts ∙ ap (λ (x : List ℕ). codes "log " ++ x) m.means.means.parts; version = refl; digest = m.means.means.means })

log_from : (log : Option (List ℕ)) (digits : List ℕ) → IfSome log (IsDigest digits) → IsLog (version_of log) (log_text digits log) log
log_from None digits digest = record { value = tt; is = refl; means = refl }
log_from (Some d) digits digest = record { value = d; is = refl; means = record { back = digits ++ codes "\n"; parts = refl; means = record { front = digits; parts = refl; means = digest } } }

-- ---- the lines behind the stage

abbrev IsLast : Version → ℕ → List ℕ → ℕ × Option (List ℕ) → Type 0
IsLast version tries = Both (IsParts tries) (λ p. IsLog version)

abbrev Position : Start → List ℕ → PlainSaved → Type 0
Position h = Made (saved_of h) (Both IsChosen (λ c. Both IsNext (λ n. Both IsBestOf (λ b. IsLast h.version h.tries))))

position_piece : (h : Start) → Piece (position_at h) (Position h)
position_piece h =
    made_piece (saved_of h) _ (Both IsChosen (λ c. Both IsNext (λ n. Both IsBestOf (λ b. IsLast h.version h.tries))))
    (both_piece chosen_at _ IsChosen _ (behind_piece (codes "chosen ") chosen_line IsChosenLine chosen_piece)
    (λ c. both_piece next_at _ IsNext _ (behind_piece (codes "next ") (number_line most_place) (IsNumberLine most_place) (number_line_piece most_place (omega arith)))
    (λ n. both_piece best_at (λ b. last_at h.version h.tries) IsBestOf (λ b. IsLast h.version h.tries) (behind_piece (codes "best ") best_line IsBestLine best_piece)
    (λ b. both_piece (parts_at h.tries) (λ p. log_at h.version) (IsParts h.tries) (λ p. IsLog h.version) (behind_piece (codes "parts ") (positive_line (most_parts h.tries)) (IsPositiveLine (most_parts h.tries)) (positive_piece (most_parts h.tries) (omega arith) (omega arith)))
    (λ p. log_piece h.version)))))

-- ---- the end

record AtEnd (s : PlainSaved) (bytes : List ℕ) (y : PlainSaved) : Type 0 where
  pub nothing : bytes ≡ []
  pub is : y ≡ s

end_takes : (s : PlainSaved) (bytes : List ℕ) (y : PlainSaved) → end_of s bytes ≡ Ok y → AtEnd s bytes y
end_takes s [] y e = record { nothing = refl; is = (let same : s ≡ y = cc in sym same) }
end_takes s (b ∷ rest) y e = absurd cc

end_stops : (s : PlainSaved) (bytes stop : List ℕ) → end_of s bytes ≡ Err stop → StopsAt (AtEnd s) bytes stop
end_stops s [] stop e = absurd cc
end_stops s (b ∷ rest) stop e =
    let is : b ∷ rest ≡ stop = cc in
    record {
      front = [];
      parts = is;
      begins = record { more = []; value = s; means = record { nothing = refl; is = refl } };
      never = subst (λ (t : List ℕ). NoneGoesOn (AtEnd s) [] t) is (λ begins. let h : b ∷ begins.more ≡ [] = begins.means.nothing in absurd cc);
    }

end_law : (n : ℕ) (s : PlainSaved) → Law n (end_of s) (AtEnd s)
end_law n s = record {
  takes = λ bytes y le e. end_takes s bytes y e;
  again = λ bytes y le m. ap (end_of s) m.nothing ∙ ap (λ (z : PlainSaved). Ok z) (sym m.is);
  stops = λ bytes stop le e. end_stops s bytes stop e;
  some = record { more = []; value = s; means = record { nothing = refl; is = refl } };
}

-- ---- the lines of the relation

lined : (a b c d e : List ℕ) → a ≡ b ++ c → b ≡ d → c ≡ e → a ≡ d ++ e
lined a b c d e parts first second = parts ∙ ap (λ t. t ++ c) first ∙ ap (λ t. d ++ t) second

grouped : (a b c d e : List ℕ) → (a ++ (b ++ (c ++ d))) ++ e ≡ a ++ (b ++ (c ++ (d ++ e)))
grouped a b c d e = append_assoc a (b ++ (c ++ d)) e ∙ ap (λ t. a ++ t) (append_assoc b (c ++ d) e ∙ ap (λ t. b ++ t) (append_assoc c d e))

-- the same of one more
regrouped : (a b c d e f : List ℕ) → (a ++ (b ++ (c ++ (d ++ e)))) ++ f ≡ a ++ (b ++ (c ++ (d ++ (e ++ f))))
regrouped a b c d e f = append_assoc a (b ++ (c ++ (d ++ e))) f ∙ ap (λ t. a ++ t) (grouped b c d e f)

abbrev Whole : Start → List ℕ → PlainSaved → Type 0
Whole h = Then (Position h) AtEnd

abbrev tail_text : List ℕ → PlainSaved → List ℕ
tail_text digits s = position_text s ++ log_text digits s.log

tail_lines : (h : Start) (text : List ℕ) (s : PlainSaved) → (m : Position h text s) → (l : LogLine h.version m.means.second.second.second.back m.value.1.1.1.1) → text ≡ tail_text l.digits (saved_of h m.value)
tail_lines h text s m l =
    let a = m.means in
    let b = a.second in
    let c = b.second in
    let d = c.second in
    let v = m.value in
    let chosen : a.front ≡ line (codes "chosen ") (chosen_text v.0) = a.first.parts ∙ ap (λ t. codes "chosen " ++ t) a.first.means.is in
    let next : b.front ≡ line (codes "next ") (decimal v.1.0) = b.first.parts ∙ ap (λ t. codes "next " ++ t) b.first.means.is in
    let best : c.front ≡ line (codes "best ") (answer_text v.1.1.0) = c.first.parts ∙ ap (λ t. codes "best " ++ t) c.first.means.is in
    let parts : d.front ≡ line (codes "parts ") (decimal v.1.1.1.0) = d.first.parts ∙ ap (λ t. codes "parts " ++ t) d.first.means.number.is in
    lined text a.front a.back _ _ a.parts chosen (lined a.back b.front b.back _ _ b.parts next (lined b.back c.front c.back _ _ c.parts best (lined c.back d.front d.back _ _ d.parts parts l.lines)))
    ∙ sym (grouped (line (codes "chosen ") (chosen_text v.0)) (line (codes "next ") (decimal v.1.0)) (line (codes "best ") (answer_text v.1.1.0)) (line (codes "parts ") (decimal v.1.1.1.0)) (log_text l.digits v.1.1.1.1))

abbrev start_text : Version → List ℕ → List ℕ × (ℕ × (ℕ × Stage)) → List ℕ
start_text version digits v =
    line (codes "fund-saved ") (version_word version) ++ (line (codes "job ") digits ++ (line (codes "tries ") (decimal v.1.0) ++ (line (codes "row ") (decimal v.1.1.0) ++ line (codes "stage ") (stage_word v.1.1.1))))

-- the digits of the job
abbrev digits_in : (text : List ℕ) (h : Start) → IsStart text h → List ℕ
digits_in text h i = i.means.second.first.means.front

start_lines : (text : List ℕ) (h : Start) → (i : IsStart text h) → text ≡ start_text i.value.0 (digits_in text h i) i.value.1
start_lines text h i =
    let z = i.means in
    let a = z.second in
    let b = a.second in
    let c = b.second in
    let v = i.value.1 in
    let version_is : z.first.means.front ≡ version_word i.value.0 = z.first.means.means.1 in
    let version : z.front ≡ line (codes "fund-saved ") (version_word i.value.0) = z.first.parts ∙ ap (λ x. codes "fund-saved " ++ x) (z.first.means.parts ∙ ap (λ x. x ++ codes "\n") version_is) in
    let job : a.front ≡ line (codes "job ") a.first.means.front = a.first.parts ∙ ap (λ x. codes "job " ++ x) a.first.means.parts in
    let tries : b.front ≡ line (codes "tries ") (decimal v.1.0) = b.first.parts ∙ ap (λ x. codes "tries " ++ x) b.first.means.is in
    let row : c.front ≡ line (codes "row ") (decimal v.1.1.0) = c.first.parts ∙ ap (λ x. codes "row " ++ x) c.first.means.is in
    let word : c.second.means.front ≡ stage_word v.1.1.1 = c.second.means.means.1 in
    let stage : c.back ≡ line (codes "stage ") (stage_word v.1.1.1) = c.second.parts ∙ ap (λ x. codes "stage " ++ x) (c.second.means.parts ∙ ap (λ x. x ++ codes "\n") word) in
    lined text z.front z.back _ _ z.parts version (lined z.back a.front a.back _ _ a.parts job (lined a.back b.front b.back _ _ b.parts tries (lined b.back c.front c.back _ _ c.parts row stage)))

to_saved : (bytes : List ℕ) (s : PlainSaved) → Then IsStart Whole bytes s → IsSavedText bytes s
unfolding saved_text
to_saved bytes s t =
    let made = t.first in
    let v = made.value.1 in
    let h = start_of made.value in
    let a = made.means.second in
    let c = a.second.second in
    let w : Whole h t.back s = subst (λ (g : Start). Whole g t.back s) made.is t.others in
    let p = w.first in
    let u = p.value in
    let q = p.means in
    let last = q.second.second.second in
    let parts = last.first.means in
    let l = log_line_of made.value.0 last.back u.1.1.1.1 last.second in
    let r : PlainSaved = saved_of h u in
    let back : t.back ≡ tail_text l.digits r = w.parts ∙ ap (λ x. w.front ++ x) w.others.nothing ∙ append-nil w.front ∙ tail_lines h w.front w.value p l in
    let digits = a.first.means.front in
    let version : line (codes "fund-saved ") (version_word made.value.0) ≡ line (codes "fund-saved ") (version_word (version_of r.log)) = ap (λ (x : Version). line (codes "fund-saved ") (version_word x)) (sym l.version) in
    let fields : List ℕ → List ℕ = λ x. line (codes "job ") digits ++ (line (codes "tries ") (decimal v.1.0) ++ (line (codes "row ") (decimal v.1.1.0) ++ (line (codes "stage ") (stage_word v.1.1.1) ++ x))) in
    let lines : bytes ≡ saved_text digits l.digits r =
    t.parts ∙ ap (λ x. x ++ t.back) (start_lines t.front t.value t.first)
    ∙ regrouped (line (codes "fund-saved ") (version_word made.value.0)) (line (codes "job ") digits) (line (codes "tries ") (decimal v.1.0)) (line (codes "row ") (decimal v.1.1.0)) (line (codes "stage ") (stage_word v.1.1.1)) t.back
    ∙ ap (λ x. line (codes "fund-saved ") (version_word made.value.0) ++ fields x) back
    ∙ ap (λ x. x ++ fields (tail_text l.digits r)) version in
    subst (IsSavedText bytes) (sym (w.others.is ∙ p.is)) (record {
      digits = digits;
      log_digits = l.digits;
      lines = lines;
      job = a.first.means.means;
      log = l.digest;
      can = record { stage = c.second.means.means.0; best = q.second.second.first.means.some; some = parts.some; parts = omega (arith, parts.number.small) };
      numbers = record {
        tries = a.second.first.means.small;
        row = c.first.means.small;
        chosen = q.first.means.small;
        next = q.second.first.means.small;
        best = q.second.second.first.means.small;
        parts = omega (arith, parts.number.small);
      };
    })

abbrev fields_of : PlainSaved → List ℕ × (ℕ × (ℕ × Stage))
fields_of s = (s.job, (s.tries, (s.row, s.stage)))

abbrev fields_text : List ℕ → PlainSaved → List ℕ
fields_text digits s = line (codes "job ") digits ++ (line (codes "tries ") (decimal s.tries) ++ (line (codes "row ") (decimal s.row) ++ line (codes "stage ") (stage_word s.stage)))

fields_from : (digits : List ℕ) (s : PlainSaved) → IsDigest digits s.job → IsSearched s.stage → HasNumbers s → IsFields (fields_text digits s) (fields_of s)
fields_from digits s job stage fits = record {
  front = line (codes "job ") digits;
  back = line (codes "tries ") (decimal s.tries) ++ (line (codes "row ") (decimal s.row) ++ line (codes "stage ") (stage_word s.stage));
  parts = refl;
  first = record { back = digits ++ codes "\n"; parts = refl; means = record { front = digits; parts = refl; means = job } };
  second = record {
    front = line (codes "tries ") (decimal s.tries);
    back = line (codes "row ") (decimal s.row) ++ line (codes "stage ") (stage_word s.stage);
    parts = refl;
    first = record { back = decimal s.tries ++ codes "\n"; parts = refl; means = record { small = fits.tries; is = refl } };
    second = record {
      front = line (codes "row ") (decimal s.row);
      back = line (codes "stage ") (stage_word s.stage);
      parts = refl;
      first = record { back = decimal s.row ++ codes "\n"; parts = refl; means = record { small = fits.row; is = refl } };
      second = record { back = stage_word s.stage ++ codes "\n"; parts = refl; means = record { front = stage_word s.stage; parts = refl; means = (stage, refl) } };
    };
  };
}

start_from : (digits : List ℕ) (s : PlainSaved) → IsDigest digits s.job → IsSearched s.stage → HasNumbers s → IsStart (start_text (version_of s.log) digits (fields_of s)) (start_of (version_of s.log, fields_of s))
start_from digits s job stage fits =
    let word = version_word (version_of s.log) in
    record {
      value = (version_of s.log, fields_of s);
      is = refl;
      means = record {
        front = line (codes "fund-saved ") word;
        back = fields_text digits s;
        parts = refl;
        first = record { back = word ++ codes "\n"; parts = refl; means = record { front = word; parts = refl; means = (tt, refl) } };
        second = fields_from digits s job stage fits;
      };
    }

position_from : (digits : List ℕ) (s : PlainSaved) → IfSome s.log (IsDigest digits) → CanBeSaved s → HasNumbers s → Position (start_of (version_of s.log, fields_of s)) (tail_text digits s) s
position_from digits s log can fits =
    let parts = line (codes "parts ") (decimal s.parts) in
    let digest = log_text digits s.log in
    record {
      value = (s.chosen, (s.next, (s.best, (s.parts, s.log))));
      is = refl;
      means = record {
        front = line (codes "chosen ") (chosen_text s.chosen);
        back = line (codes "next ") (decimal s.next) ++ (line (codes "best ") (answer_text s.best) ++ (parts ++ digest));
        parts = grouped (line (codes "chosen ") (chosen_text s.chosen)) (line (codes "next ") (decimal s.next)) (line (codes "best ") (answer_text s.best)) parts digest;
        first = record { back = chosen_text s.chosen ++ codes "\n"; parts = refl; means = record { is = refl; small = fits.chosen } };
        second = record {
          front = line (codes "next ") (decimal s.next);
          back = line (codes "best ") (answer_text s.best) ++ (parts ++ digest);
          parts = refl;
          first = record { back = decimal s.next ++ codes "\n"; parts = refl; means = record { small = fits.next; is = refl } };
          second = record {
            front = line (codes "best ") (answer_text s.best);
            back = parts ++ digest;
            parts = refl;
            first = record { back = answer_text s.best ++ codes "\n"; parts = refl; means = record { is = refl; some = can.best; small = fits.best } };
            second = record {
              front = parts;
              back = digest;
              parts = refl;
              first = record { back = decimal s.parts ++ codes "\n"; parts = refl; means = record { some = can.some; number = record { small = omega (arith, can.parts, fits.parts); is = refl } } };
              second = log_from s.log digits log;
            };
          };
        };
      };
    }

from_saved : (bytes : List ℕ) (s : PlainSaved) → IsSavedText bytes s → Then IsStart Whole bytes s
unfolding saved_text
from_saved bytes s i =
    let tail = tail_text i.log_digits s in
    record {
      value = start_of (version_of s.log, fields_of s);
      front = start_text (version_of s.log) i.digits (fields_of s);
      back = tail;
      parts = i.lines ∙ sym (regrouped (line (codes "fund-saved ") (version_word (version_of s.log))) (line (codes "job ") i.digits) (line (codes "tries ") (decimal s.tries)) (line (codes "row ") (decimal s.row)) (line (codes "stage ") (stage_word s.stage)) tail);
      first = start_from i.digits s i.job i.can.stage i.numbers;
      others = record { value = s; front = tail; back = []; parts = sym (append-nil tail); first = position_from i.log_digits s i.log i.can i.numbers; others = record { nothing = refl; is = refl } };
    }

pub text_law : (n : ℕ) → Law n saved_at IsSavedText
unfolding saved_at
text_law n =
    law_as n saved_at (Then IsStart Whole) IsSavedText to_saved from_saved
    (then_law n n start_at IsStart position_end Whole (λ text x m. omega arith) start_piece
    (λ h. then_law n n (position_at h) (Position h) end_of AtEnd (λ text x m. omega arith) (position_piece h) (end_law n)))
