-- The sections of a log and what ends them are read exactly, and a fault counts the sections before it.
use Rattle.std.proofs.Common.{◌≡◌, ℕ, zero, suc, ◌≤◌, Bool, true, false, List, [], ◌∷◌, ◌++◌, length, Result, Ok, Err, Option, Some, None, inl, inr, refl, sym, ap, subst, ◌∙◌, append_assoc, arith}
use Rattle.std.specs.Prelude.{codes}
use Rattle.std.proofs.lemmas.List.{append-nil, length-append, nil_from_length}
use Rattle.closing_log.specs.declared.part.Part.{Part}
use Rattle.closing_log.specs.declared.part.Part.TheVariants.{End, Open, Closed}
use Rattle.closing_log.specs.Exact.{Begins, StopsAt, NoneGoesOn}
use Rattle.closing_log.specs.Log.{PlainSection, PlainOpen, PlainLog}
use Rattle.closing_log.specs.LogText.{IsClosed, IsEnding, AreSections}
use Rattle.closing_log.specs.Reading.{part_at, body_rest, body_at}
use Rattle.closing_log.proofs.Exactness.{Law, none_of, overlap, ok_is, not_both}
use Rattle.closing_log.proofs.TextLaws.{IsPart, part_law}

-- sections behind others, and what ends them
pub record BodyOf (done : List PlainSection) (bytes : List ℕ) (log : PlainLog) : Type 0 where
  pub more : List PlainSection
  pub whole : log.closed ≡ done ++ more
  pub sections : AreSections more (λ text. IsEnding text log.tail log.ended) bytes

pub part_takes : (bytes : List ℕ) (y : Part × List ℕ) → part_at bytes ≡ Ok y → IsPart bytes y
part_takes bytes y e = (part_law (length bytes)).takes bytes y (omega arith) e

pub part_again : (bytes : List ℕ) (y : Part × List ℕ) → IsPart bytes y → part_at bytes ≡ Ok y
part_again bytes y p = (part_law (length bytes)).again bytes y (omega arith) p

pub part_stops : (bytes stop : List ℕ) → part_at bytes ≡ Err stop → StopsAt IsPart bytes stop
part_stops bytes stop e = (part_law (length bytes)).stops bytes stop (omega arith) e

pub lines_long : (text : List ℕ) (s : PlainSection) → IsClosed text s → 1 ≤ length text
lines_long text s i = omega (arith, ap length i.lines)

part_long : (bytes : List ℕ) (y : Part × List ℕ) → IsPart bytes y → 1 ≤ length bytes
part_long bytes (End, rest) p = omega (arith, ap length p.0)
part_long bytes (Open o, rest) p = omega (arith, ap length p.0.lines)
part_long bytes (Closed s, rest) p = omega (arith, lines_long p.text s p.closed, ap length p.parts, length-append p.text rest)

-- a log that is ended behind some sections
ended_here : (done : List PlainSection) → BodyOf done (codes "end\n") (record { closed = done; tail = None; ended = true })
ended_here done = record { more = []; whole = sym (append-nil done); sections = refl }

body_begins : (done : List PlainSection) → Begins (BodyOf done) []
body_begins done = record { more = codes "end\n"; value = record { closed = done; tail = None; ended = true }; means = ended_here done }

-- ---- takes

body_took : (n : ℕ) (done : List PlainSection) (bytes : List ℕ) (log : PlainLog) → length bytes ≤ suc n
    → ((s : PlainSection) (rest : List ℕ) → length rest ≤ n → body_at n (done ++ s ∷ []) rest ≡ Ok log → BodyOf (done ++ s ∷ []) rest log)
    → (r : Result (Part × List ℕ) (List ℕ)) → part_at bytes ≡ r → body_rest done (λ s rest. body_at n (done ++ s ∷ []) rest) r ≡ Ok log → BodyOf done bytes log
body_took n done bytes log le others (Err stop) is e = absurd cc
body_took n done bytes log le others (Ok (End, rest)) is e =
    let same : record { closed = done; tail = None; ended = true } ≡ log = cc in
    let p = part_takes bytes (End, rest) is in
    subst (BodyOf done bytes) same (record { more = []; whole = sym (append-nil done); sections = p.0 })
body_took n done bytes log le others (Ok (Open o, rest)) is e =
    let same : record { closed = done; tail = Some o; ended = false } ≡ log = cc in
    let p = part_takes bytes (Open o, rest) is in
    subst (BodyOf done bytes) same (record { more = []; whole = sym (append-nil done); sections = p.0 })
body_took n done bytes log le others (Ok (Closed s, rest)) is e =
    let p = part_takes bytes (Closed s, rest) is in
    let b = others s rest (omega (arith, lines_long p.text s p.closed, ap length p.parts, length-append p.text rest)) e in
    record { more = s ∷ b.more; whole = b.whole ∙ append_assoc done (s ∷ []) b.more; sections = record { front = p.text; back = rest; parts = p.parts; first = p.closed; others = b.sections } }

body_takes : (n : ℕ) (done : List PlainSection) (bytes : List ℕ) (log : PlainLog) → length bytes ≤ n → body_at n done bytes ≡ Ok log → BodyOf done bytes log
unfolding body_at
body_takes zero done bytes log le e = absurd cc
body_takes (suc n) done bytes log le e = body_took n done bytes log le (λ s rest. body_takes n (done ++ s ∷ []) rest log) (part_at bytes) refl e

-- ---- again

-- the part with which a text begins
ending_part : (bytes : List ℕ) (tail : Option PlainOpen) (ended : Bool) → IsEnding bytes tail ended → (y : Part × List ℕ) × IsPart bytes y
ending_part bytes None true is = ((End, []), (is, refl))
ending_part bytes None false is = absurd is
ending_part bytes (Some o) true is = absurd is
ending_part bytes (Some o) false is = ((Open o, []), (is, refl))

body_part_of : (more : List PlainSection) (tail : Option PlainOpen) (ended : Bool) (bytes : List ℕ) → AreSections more (λ text. IsEnding text tail ended) bytes → (y : Part × List ℕ) × IsPart bytes y
body_part_of [] tail ended bytes is = ending_part bytes tail ended is
body_part_of (s ∷ more) tail ended bytes is = ((Closed s, is.back), record { text = is.front; parts = is.parts; closed = is.first })

ending_read : (n : ℕ) (done : List PlainSection) (bytes : List ℕ) (tail : Option PlainOpen) (ended : Bool) → length bytes ≤ n → IsEnding bytes tail ended → body_at n done bytes ≡ Ok (record { closed = done; tail = tail; ended = ended })
unfolding body_at
ending_read zero done bytes tail ended le is = let y = ending_part bytes tail ended is in absurd (omega (arith, le, part_long bytes y.0 y.1))
ending_read (suc n) done bytes None true le is = ap (body_rest done (λ s rest. body_at n (done ++ s ∷ []) rest)) (part_again bytes (End, []) (is, refl))
ending_read (suc n) done bytes None false le is = absurd is
ending_read (suc n) done bytes (Some o) true le is = absurd is
ending_read (suc n) done bytes (Some o) false le is = ap (body_rest done (λ s rest. body_at n (done ++ s ∷ []) rest)) (part_again bytes (Open o, []) (is, refl))

body_read : (n : ℕ) (done more : List PlainSection) (tail : Option PlainOpen) (ended : Bool) (bytes : List ℕ) → length bytes ≤ n → AreSections more (λ text. IsEnding text tail ended) bytes
    → body_at n done bytes ≡ Ok (record { closed = done ++ more; tail = tail; ended = ended })
unfolding body_at
body_read n done [] tail ended bytes le is = ending_read n done bytes tail ended le is ∙ ap (λ (ss : List PlainSection). Ok (record { closed = ss; tail = tail; ended = ended })) (sym (append-nil done))
body_read zero done (s ∷ more) tail ended bytes le is = absurd (omega (arith, le, lines_long is.front s is.first, ap length is.parts, length-append is.front is.back))
body_read (suc n) done (s ∷ more) tail ended bytes le is =
    let first : part_at bytes ≡ Ok (Closed s, is.back) = part_again bytes (Closed s, is.back) (record { text = is.front; parts = is.parts; closed = is.first }) in
    let others = body_read n (done ++ s ∷ []) more tail ended is.back (omega (arith, le, lines_long is.front s is.first, ap length is.parts, length-append is.front is.back)) is.others in
    ap (body_rest done (λ s rest. body_at n (done ++ s ∷ []) rest)) first ∙ others ∙ ap (λ (ss : List PlainSection). Ok (record { closed = ss; tail = tail; ended = ended })) (append_assoc done (s ∷ []) more)

body_again : (n : ℕ) (done : List PlainSection) (bytes : List ℕ) (log : PlainLog) → length bytes ≤ n → BodyOf done bytes log → body_at n done bytes ≡ Ok log
body_again n done bytes log le b =
    body_read n done b.more log.tail log.ended bytes le b.sections ∙ ap (λ (ss : List PlainSection). Ok (record { closed = ss; tail = log.tail; ended = log.ended })) (sym b.whole)

-- ---- stops

closed_same : (s t : PlainSection) → Closed s ≡ Closed t → s ≡ t
closed_same s t e = cc

ending_not_closed : (bytes : List ℕ) (tail : Option PlainOpen) (ended : Bool) → IsEnding bytes tail ended → (s : PlainSection) (rest : List ℕ) → part_at bytes ≡ Ok (Closed s, rest) → ⊥
ending_not_closed bytes None true is s rest e =
    let same : (End, []) ≡ (Closed s, rest) = ok_is (End, []) (Closed s, rest) (part_at bytes) (part_again bytes (End, []) (is, refl)) e in
    let parts : End ≡ Closed s = ap (λ (p : Part × List ℕ). p.0) same in
    cc
ending_not_closed bytes None false is s rest e = is
ending_not_closed bytes (Some o) true is s rest e = is
ending_not_closed bytes (Some o) false is s rest e =
    let same : (Open o, []) ≡ (Closed s, rest) = ok_is (Open o, []) (Closed s, rest) (part_at bytes) (part_again bytes (Open o, []) (is, refl)) e in
    let parts : Open o ≡ Closed s = ap (λ (p : Part × List ℕ). p.0) same in
    cc

-- what goes on behind a section
behind_of : (done more : List PlainSection) (s : PlainSection) (text rest : List ℕ) (log : PlainLog) → IsClosed text s → log.closed ≡ done ++ more → AreSections more (λ t. IsEnding t log.tail log.ended) (text ++ rest) → BodyOf (done ++ s ∷ []) rest log
behind_of done [] s text rest log closed whole is =
    let one = part_again (text ++ rest) (Closed s, rest) (record { text = text; parts = refl; closed = closed }) in
    absurd (ending_not_closed (text ++ rest) log.tail log.ended is s rest one)
behind_of done (t ∷ more) s text rest log closed whole is =
    let one = part_again (text ++ rest) (Closed s, rest) (record { text = text; parts = refl; closed = closed }) in
    let two = part_again (text ++ rest) (Closed t, is.back) (record { text = is.front; parts = is.parts; closed = is.first }) in
    let same : (Closed s, rest) ≡ (Closed t, is.back) = ok_is (Closed s, rest) (Closed t, is.back) (part_at (text ++ rest)) one two in
    let section : s ≡ t = closed_same s t (ap (λ (p : Part × List ℕ). p.0) same) in
    let left : rest ≡ is.back = ap (λ (p : Part × List ℕ). p.1) same in
    record {
      more = more;
      whole = whole ∙ ap (λ (x : PlainSection). done ++ x ∷ more) (sym section) ∙ sym (append_assoc done (s ∷ []) more);
      sections = subst (AreSections more (λ t. IsEnding t log.tail log.ended)) (sym left) is.others;
    }

-- a part that stops can be made a body
part_begins : (done : List PlainSection) (bytes front stop more : List ℕ) (y : Part × List ℕ) → bytes ≡ front ++ stop → part_at bytes ≡ Err stop → IsPart (front ++ more) y → Begins (BodyOf done) front
part_begins done bytes front stop more (End, rest) parts e p = record { more = more; value = record { closed = done; tail = None; ended = true }; means = record { more = []; whole = sym (append-nil done); sections = p.0 } }
part_begins done bytes front stop more (Open o, rest) parts e p = record { more = more; value = record { closed = done; tail = Some o; ended = false }; means = record { more = []; whole = sym (append-nil done); sections = p.0 } }
part_begins done bytes front stop more (Closed s, rest) parts e p =
    elim (overlap p.text front rest more (sym p.parts)) [
      | inl l ↦ record {
        more = l.more ++ codes "end\n";
        value = record { closed = done ++ s ∷ []; tail = None; ended = true };
        means = record { more = s ∷ []; whole = refl; sections = record { front = p.text; back = codes "end\n"; parts = sym (append_assoc front l.more (codes "end\n")) ∙ ap (λ t. t ++ codes "end\n") (sym l.is); first = p.closed; others = refl } };
      }
      | inr l ↦
          let whole : bytes ≡ p.text ++ (l.more ++ stop) = parts ∙ ap (λ t. t ++ stop) l.is ∙ append_assoc p.text l.more stop in
          absurd (not_both (Closed s, l.more ++ stop) stop (part_at bytes) (part_again bytes (Closed s, l.more ++ stop) (record { text = p.text; parts = whole; closed = p.closed })) e)
    ]

body_stopped : (n : ℕ) (done : List PlainSection) (bytes stop : List ℕ) (k : ℕ) → length bytes ≤ suc n
    → ((s : PlainSection) (rest : List ℕ) → length rest ≤ n → body_at n (done ++ s ∷ []) rest ≡ Err (stop, k) → StopsAt (BodyOf (done ++ s ∷ [])) rest stop)
    → (r : Result (Part × List ℕ) (List ℕ)) → part_at bytes ≡ r → body_rest done (λ s rest. body_at n (done ++ s ∷ []) rest) r ≡ Err (stop, k) → StopsAt (BodyOf done) bytes stop
body_stopped n done bytes stop k le others (Ok (End, rest)) is e = absurd cc
body_stopped n done bytes stop k le others (Ok (Open o, rest)) is e = absurd cc
body_stopped n done bytes stop k le others (Err left) is e =
    let pair : (left, length done) ≡ (stop, k) = cc in
    let same : left ≡ stop = ap (λ (p : List ℕ × ℕ). p.0) pair in
    let failed : part_at bytes ≡ Err stop = is ∙ ap (λ (t : List ℕ). Err t) same in
    let s = part_stops bytes stop failed in
    record {
      front = s.front;
      parts = s.parts;
      begins = part_begins done bytes s.front stop s.begins.more s.begins.value s.parts failed s.begins.means;
      never = none_of (BodyOf done) IsPart s.front s.front stop
          (λ b r at begins. let y = body_part_of begins.means.more begins.value.tail begins.value.ended ((s.front ++ b ∷ []) ++ begins.more) begins.means.sections in record { more = begins.more; value = y.0; means = y.1 })
          s.never;
    }
body_stopped n done bytes stop k le others (Ok (Closed s, rest)) is e =
    let p = part_takes bytes (Closed s, rest) is in
    let t = others s rest (omega (arith, lines_long p.text s p.closed, ap length p.parts, length-append p.text rest)) e in
    let b = t.begins.means in
    record {
      front = p.text ++ t.front;
      parts = p.parts ∙ ap (λ x. p.text ++ x) t.parts ∙ sym (append_assoc p.text t.front stop);
      begins = record {
        more = t.begins.more;
        value = t.begins.value;
        means = record {
          more = s ∷ b.more;
          whole = b.whole ∙ append_assoc done (s ∷ []) b.more;
          sections = record { front = p.text; back = t.front ++ t.begins.more; parts = append_assoc p.text t.front t.begins.more; first = p.closed; others = b.sections };
        };
      };
      never = none_of (BodyOf done) (BodyOf (done ++ s ∷ [])) (p.text ++ t.front) t.front stop
          (λ d r at begins.
          let regroup : ((p.text ++ t.front) ++ d ∷ []) ++ begins.more ≡ p.text ++ ((t.front ++ d ∷ []) ++ begins.more) = simp append_assoc in
          record { more = begins.more; value = begins.value; means = behind_of done begins.means.more s p.text ((t.front ++ d ∷ []) ++ begins.more) begins.value p.closed begins.means.whole (subst (AreSections begins.means.more (λ x. IsEnding x begins.value.tail begins.value.ended)) regroup begins.means.sections) })
          t.never;
    }

body_stops : (n : ℕ) (done : List PlainSection) (bytes stop : List ℕ) (k : ℕ) → length bytes ≤ n → body_at n done bytes ≡ Err (stop, k) → StopsAt (BodyOf done) bytes stop
unfolding body_at
body_stops zero done bytes stop k le e =
    let pair : (bytes, length done) ≡ (stop, k) = cc in
    let same : bytes ≡ stop = ap (λ (p : List ℕ × ℕ). p.0) pair in
    let nothing : [] ≡ stop = sym (nil_from_length bytes (omega arith)) ∙ same in
    record { front = []; parts = same; begins = body_begins done; never = subst (λ (s : List ℕ). NoneGoesOn (BodyOf done) [] s) nothing tt }
body_stops (suc n) done bytes stop k le e = body_stopped n done bytes stop k le (λ s rest. body_stops n (done ++ s ∷ []) rest stop k) (part_at bytes) refl e

-- ---- the law, without the count

abbrev pub stop_of : Result PlainLog (List ℕ × ℕ) → Result PlainLog (List ℕ)
stop_of (Ok log) = Ok log
stop_of (Err f) = Err f.0

stop_ok : (r : Result PlainLog (List ℕ × ℕ)) (log : PlainLog) → stop_of r ≡ Ok log → r ≡ Ok log
stop_ok (Ok x) log e = let same : x ≡ log = cc in ap (λ (y : PlainLog). Ok y) same
stop_ok (Err f) log e = absurd cc

stop_err : (r : Result PlainLog (List ℕ × ℕ)) (stop : List ℕ) → stop_of r ≡ Err stop → (k : ℕ) × (r ≡ Err (stop, k))
stop_err (Ok x) stop e = absurd cc
stop_err (Err f) stop e = (f.1, (let same : f.0 ≡ stop = cc in ap (λ (s : List ℕ). Err (s, f.1)) same))

pub body_law : (n : ℕ) (done : List PlainSection) → Law n (λ bytes. stop_of (body_at n done bytes)) (BodyOf done)
body_law n done = record {
  takes = λ bytes log le e. body_takes n done bytes log le (stop_ok (body_at n done bytes) log e);
  again = λ bytes log le b. ap stop_of (body_again n done bytes log le b);
  stops = λ bytes stop le e. let k = stop_err (body_at n done bytes) stop e in body_stops n done bytes stop k.0 le k.1;
  some = body_begins done;
}
