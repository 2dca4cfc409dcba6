-- The log of a run that goes on grows: its text goes on with what was there.
use Rattle.std.proofs.Common.{◌≡◌, ◌∙◌, ℕ, zero, suc, ◌-◌, ◌≤◌, Bool, false, List, [], ◌∷◌, ◌++◌, length, take, drop, refl, sym, ap, subst, arith, append_assoc}
use Rattle.std.specs.Prelude.{codes, if◌then◌else◌}
use Rattle.std.specs.List.{flat_map}
use Rattle.std.proofs.lemmas.List.{append-nil}
use Rattle.std.proofs.lemmas.List.Concat.{flat_map-append}
use Rattle.hex.specs.Hex.{encode_lower}
use Rattle.closing_log.specs.Log.{PlainOpen, PlainSection}
use Rattle.closing_log.specs.LogText.{answer_text, ending_text, head_text, section_text, tail_text, text_of}
use Rattle.pick_problem.proofs.LetterLaws.{letters-append}
use Rattle.pick_problem.proofs.TryStepLaws.{appended}
use Rattle.pick_problem.specs.Digest.{digest_of}
use Rattle.pick_problem.specs.Letters.{letters_of}
use Rattle.pick_problem.specs.Walk.{Walk, after_tries}
use Rattle.search_run.proofs.RunLaws.{onward_by, stays_at}
use Rattle.search_run.specs.Kept.{is_over, log_of, tail_of}
use Rattle.search_run.specs.Run.{Past, Stand, all_letters, begun_first, go_on, made, onward, over, passed, section_at, sections_of, tried}
use Rattle.search_run.specs.Step.{PlainStep, is_drawn}
use Rattle.kept_job.specs.Jobs.{joined}

-- ---- parts

pub drop_front : (xs ys : List ℕ) → drop (length xs) (xs ++ ys) ≡ ys
drop_front [] ys = refl
drop_front (x ∷ xs) ys = drop_front xs ys

pub add_part : (c : ℕ) (ps : List (List ℕ)) (part : List ℕ) → c ≤ length ps → joined (take (suc c) (take c ps ++ part ∷ [])) ≡ joined (take c ps) ++ part
add_part zero ps part le = append-nil part
add_part (suc c) [] part le = absurd (omega (arith, le))
add_part (suc c) (p ∷ ps) part le = ap (λ (xs : List ℕ). p ++ xs) (add_part c ps part (omega (arith, le))) ∙ sym (append_assoc p (joined (take c ps)) part)

-- ---- texts that go on

-- the one text begins with the other
record GoesOn (a b : List ℕ) : Type 0 where
  more : List ℕ
  is : b ≡ a ++ more

same_text : (a : List ℕ) → GoesOn a a
same_text a = record { more = []; is = sym (append-nil a) }

then_on : (a b c : List ℕ) → GoesOn a b → GoesOn b c → GoesOn a c
then_on a b c h k = record { more = h.more ++ k.more; is = k.is ∙ (ap (λ (xs : List ℕ). xs ++ k.more) h.is ∙ append_assoc a h.more k.more) }

behind_same : (front a b : List ℕ) → GoesOn a b → GoesOn (front ++ a) (front ++ b)
behind_same front a b h = record { more = h.more; is = ap (λ (xs : List ℕ). front ++ xs) h.is ∙ sym (append_assoc front a h.more) }

-- ---- the closed sections

abbrev closed_text_of : List PlainSection → List ℕ
closed_text_of ss = flat_map section_text ss

abbrev body : Stand → List ℕ
body s = closed_text_of s.past.closed ++ ending_text (tail_of s s.left) (is_over s.left)

closed_first : (s : Stand) → GoesOn (closed_text_of s.past.closed) (body s)
closed_first s = record { more = ending_text (tail_of s s.left) (is_over s.left); is = refl }

closed_more : (ss ts : List PlainSection) → GoesOn (closed_text_of ss) (closed_text_of (ss ++ ts))
closed_more ss ts = record { more = closed_text_of ts; is = flat_map-append section_text ss ts }

-- what is behind a run stays in front
behind_first : (seed : List ℕ) (left : List PlainStep) (w : Walk) (before : List ℕ) (past : Past) (m : ℕ) → GoesOn (closed_text_of past.closed) (body (onward seed left w before past m))
behind_first seed [] w before past m = closed_first (over past)
behind_first seed (x ∷ rest) w before past m =
    onward_by (λ (s : Stand). GoesOn (closed_text_of past.closed) (body s)) seed x rest w before past m
    (λ d. closed_first (stays_at x rest (after_tries x.problem w m) before (tried past (made w (after_tries x.problem w m)))))
    (λ d e. then_on _ _ _ (closed_more past.closed (sections_of x before (after_tries x.problem w m))) (closed_first (over (passed x before w (after_tries x.problem w m) past))))
    (λ d e.
    then_on _ _ _ (closed_more past.closed (sections_of x before (after_tries x.problem w m)))
    (behind_first seed rest (begun_first seed rest) [] (passed x before w (after_tries x.problem w m) past) (m - made w (after_tries x.problem w m))))

-- ---- the open section

abbrev open_at : PlainStep → List ℕ → PlainOpen
open_at x letters = record { row = x.row; stage = x.stage; digest = digest_of x.problem; letters = letters }

letters_more : (x : PlainStep) (w : Walk) (before : List ℕ) (m : ℕ) → GoesOn (all_letters before w) (all_letters before (after_tries x.problem w m))
letters_more x w before m =
    let k = appended x.problem w m in
    record {
      more = letters_of k.0;
      is = ap (λ ts. before ++ letters_of ts) k.1 ∙ (ap (λ (xs : List ℕ). before ++ xs) (letters-append w.tokens k.0) ∙ sym (append_assoc before (letters_of w.tokens) (letters_of k.0)));
    }

open_more : (x : PlainStep) (a b : List ℕ) → GoesOn a b → GoesOn (tail_text (open_at x a)) (tail_text (open_at x b))
open_more x a b h = behind_same (head_text (encode_lower (digest_of x.problem)) x.row x.stage) a b h

-- a section that is closed begins as it stood when it was open
closes : (x : PlainStep) (before : List ℕ) (w v : Walk) → GoesOn (all_letters before w) (all_letters before v) → GoesOn (tail_text (open_at x (all_letters before w))) (section_text (section_at x before v))
closes x before w v h =
    behind_same (head_text (encode_lower (digest_of x.problem)) x.row x.stage) _ _
    (then_on (all_letters before w) (all_letters before v) _ h (record { more = codes "\nanswer " ++ (answer_text v.best ++ codes "\n"); is = refl }))

-- ---- the whole

body_grows : (seed : List ℕ) (x : PlainStep) (rest : List PlainStep) (w : Walk) (before : List ℕ) (past : Past) (m : ℕ) → is_drawn x.stage ≡ false
    → GoesOn (body (stays_at x rest w before past)) (body (onward seed (x ∷ rest) w before past m))
body_grows seed x rest w before past m searched =
    onward_by (λ (s : Stand). GoesOn (body (stays_at x rest w before past)) (body s)) seed x rest w before past m
    (λ d. behind_same (closed_text_of past.closed) _ _ (open_more x (all_letters before w) (all_letters before (after_tries x.problem w m)) (letters_more x w before m)))
    (λ d e. then_on _ _ _ closed (closed_first (over (passed x before w (after_tries x.problem w m) past))))
    (λ d e. then_on _ _ _ closed (behind_first seed rest (begun_first seed rest) [] (passed x before w (after_tries x.problem w m) past) (m - made w (after_tries x.problem w m))))
  where
    own : sections_of x before (after_tries x.problem w m) ≡ section_at x before (after_tries x.problem w m) ∷ []
    own = ap (λ (b : Bool). if b then [] else section_at x before (after_tries x.problem w m) ∷ []) searched

    one : GoesOn (tail_text (open_at x (all_letters before w))) (closed_text_of (sections_of x before (after_tries x.problem w m)))
    one =
        subst (λ (ss : List PlainSection). GoesOn (tail_text (open_at x (all_letters before w))) (closed_text_of ss)) (sym own)
        (then_on _ _ _ (closes x before w (after_tries x.problem w m) (letters_more x w before m)) (record { more = []; is = refl }))

    closed : GoesOn (body (stays_at x rest w before past)) (closed_text_of (past.closed ++ sections_of x before (after_tries x.problem w m)))
    closed =
        subst (λ (xs : List ℕ). GoesOn (body (stays_at x rest w before past)) xs) (sym (flat_map-append section_text past.closed (sections_of x before (after_tries x.problem w m))))
        (behind_same (closed_text_of past.closed) _ _ one)

-- the text of a log goes on with that of a log before it
pub log_grows : (seed : List ℕ) (s : Stand) (m : ℕ) (x : PlainStep) (rest : List PlainStep) → s.left ≡ x ∷ rest → is_drawn x.stage ≡ false
    → (more : List ℕ) × (text_of (log_of false (go_on seed s m)) ≡ text_of (log_of false s) ++ more)
unfolding text_of
log_grows seed s m x rest left searched =
    let here : GoesOn (body (stays_at x rest s.walk s.before s.past)) (body (onward seed (x ∷ rest) s.walk s.before s.past m)) = body_grows seed x rest s.walk s.before s.past m searched in
    let there : GoesOn (body s) (body (go_on seed s m)) =
    subst (λ (xs : List PlainStep). GoesOn (body (record { left = xs; walk = s.walk; before = s.before; past = s.past })) (body (onward seed xs s.walk s.before s.past m))) (sym left) here in
    let whole = behind_same (codes "fund-log 1\n") _ _ there in
    (whole.more, whole.is)
