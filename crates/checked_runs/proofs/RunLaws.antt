-- What a run from the start has behind it: a section for each search, and as many letters I as tries.
use Rattle.std.specs.Prelude.{ℕ, ◌≡◌, ◌≤◌, ◌+◌, ◌-◌, ◌==◌, not, Bool, true, false, List, [], ◌∷◌, ◌++◌, filter, length, if◌then◌else◌}
use Rattle.std.specs.List.{AllZip}
use Rattle.std.proofs.Common.{arith, refl, sym, ap, subst, ◌∙◌, append_assoc}
use Rattle.std.proofs.lemmas.Bool.{both_ways}
use Rattle.std.proofs.lemmas.List.{append-nil}
use Rattle.std.proofs.lemmas.List.Elements.{filter-append}
use Rattle.std.proofs.lemmas.List.Sums.{sum_by-append, sum_by-cons}
use Rattle.closing_log.specs.Log.{PlainSection}
use Rattle.pick_problem.specs.ClosingTree.{IsAccepted}
use Rattle.pick_problem.specs.Letters.{letters_of}
use Rattle.pick_problem.specs.Tokens.{letter_of}
use Rattle.pick_problem.specs.declared.token.Reason.TheVariants.{Short, Over, Heavy, NoRoom, Worse, Heavier, Far, Hit}
use Rattle.pick_problem.specs.declared.token.Token.{Token}
use Rattle.pick_problem.specs.declared.token.Token.TheVariants.{Enter, Pass, Close}
use Rattle.pick_problem.specs.Walk.{Walk, after_tries, entered, enters, start, walk}
use Rattle.pick_problem.proofs.AcceptLaws.{walk_accepted, walk_position}
use Rattle.pick_problem.proofs.Deciding.{if_cases}
use Rattle.pick_problem.proofs.GraftLaws.{tries_within}
use Rattle.pick_problem.proofs.SoundLaws.{accepted_best}
use Rattle.pick_problem.proofs.TryStepLaws.{after_done, walk_pieces}
use Rattle.search_run.specs.Run.{Past, Stand, beginning, begun, begun_first, drawn, made, onward, over, passed, run, section_at, sections_of}
use Rattle.search_run.specs.Searched.{AreSectionsOf, IsSectionOf, searches}
use Rattle.search_run.specs.Stands.{IsFromStart, IsMadeWalk, IsWalkAt, IsWalkBy}
use Rattle.search_run.specs.Step.{AreSteps, IsStep, PlainStep, is_drawn}
use Rattle.search_run.proofs.MadeLaws.{run_stands}
use Rattle.search_run.proofs.RunLaws.{all_tries, onward_by}
use Rattle.report_check.specs.Proved.{tries_in}

-- ---- letters

abbrev is_try : ℕ → Bool
is_try b = b == 73

letter_tries : (k : Token) (bs : List ℕ) → length (filter is_try (letter_of k ∷ bs)) ≡ entered k + length (filter is_try bs)
letter_tries Enter bs = omega arith
letter_tries Pass bs = omega arith
letter_tries (Close Short) bs = omega arith
letter_tries (Close Over) bs = omega arith
letter_tries (Close Heavy) bs = omega arith
letter_tries (Close NoRoom) bs = omega arith
letter_tries (Close Worse) bs = omega arith
letter_tries (Close Heavier) bs = omega arith
letter_tries (Close Far) bs = omega arith
letter_tries (Close Hit) bs = omega arith

-- the letters of tokens tell of as many tries as there are places chosen
letters_tries : (ks : List Token) → length (filter is_try (letters_of ks)) ≡ enters ks
letters_tries [] = refl
letters_tries (k ∷ ks) = let here = letter_tries k (letters_of ks) in let later = letters_tries ks in omega (arith, here, later)

-- one section more
section_more : (ss : List PlainSection) (s : PlainSection) → tries_in (ss ++ s ∷ []) ≡ tries_in ss + length (filter is_try s.letters)
section_more ss s =
    let f : PlainSection → ℕ = λ t. length (filter (λ (b : ℕ). b == 73) t.letters) in
    let all = sum_by-append f ss (s ∷ []) in
    let one = sum_by-cons f s [] in
    omega (arith, all, one)

-- ---- one step

-- the section that a search leaves which came to its end
section_of : (x : PlainStep) (before : List ℕ) (w : Walk) (m : ℕ) → IsStep x → IsMadeWalk x before w → (after_tries x.problem w m).done ≡ true → IsSectionOf x (section_at x before (after_tries x.problem w m))
section_of x before w m is (e, (n, f)) done =
    let v : Walk = after_tries x.problem w m in
    let at : v ≡ walk x.problem (n + m) = ap (λ (u : Walk). after_tries x.problem u m) f ∙ walk_pieces x.problem n m in
    let over : (walk x.problem (n + m)).done ≡ true = ap (λ (u : Walk). u.done) (sym at) ∙ done in
    let accepted : IsAccepted x.problem v.best v.tokens = subst (λ (u : Walk). IsAccepted x.problem u.best u.tokens) (sym at) (walk_accepted x.problem is.problem (n + m) over) in
    record {
      names = record { row = refl; stage = refl; digest = refl };
      best = accepted_best x.problem v.best v.tokens is.problem accepted;
      accepted = (v.tokens, ap (λ (ls : List ℕ). ls ++ letters_of v.tokens) e, accepted);
    }

-- a draw leaves none
passed_sections : (b : Bool) (seed : List ℕ) (x : PlainStep) (before : List ℕ) (w : Walk) (m : ℕ) → IsStep x → IsWalkBy b IsMadeWalk seed x before w → (after_tries x.problem w m).done ≡ true
    → AllZip IsSectionOf (if not b then (x ∷ []) else []) (if b then [] else (section_at x before (after_tries x.problem w m) ∷ []))
passed_sections true seed x before w m is h done = tt
passed_sections false seed x before w m is h done = (section_of x before w m is h done, tt)

-- and the tries of a step are those of its letters
passed_tries : (b : Bool) (seed : List ℕ) (x : PlainStep) (before : List ℕ) (w : Walk) (m : ℕ) (past : Past) → IsStep x → IsWalkBy b IsMadeWalk seed x before w → past.tries ≡ tries_in past.closed + w.tries
    → past.tries + made w (after_tries x.problem w m) ≡ tries_in (past.closed ++ (if b then [] else (section_at x before (after_tries x.problem w m) ∷ [])))
passed_tries true seed x before w m past is h t =
    let v : Walk = after_tries x.problem w m in
    let same : v.tries ≡ w.tries = ap (λ (u : Walk). u.tries) (after_done x.problem w m (ap (λ (u : Walk). u.done) h)) in
    let none : w.tries ≡ 0 = ap (λ (u : Walk). u.tries) h in
    let all : tries_in (past.closed ++ []) ≡ tries_in past.closed = ap (λ (ss : List PlainSection). tries_in ss) (append-nil past.closed) in
    omega (arith, same, none, all, t)
passed_tries false seed x before w m past is (e, (n, f)) t =
    let v : Walk = after_tries x.problem w m in
    let at : v ≡ walk x.problem (n + m) = ap (λ (u : Walk). after_tries x.problem u m) f ∙ walk_pieces x.problem n m in
    let low : w.tries ≤ v.tries = (tries_within x.problem w m).0 in
    let counted : v.tries ≡ enters v.tokens = subst (λ (u : Walk). u.tries ≡ enters u.tokens) (sym at) (walk_position x.problem is.problem (n + m)).counted in
    let letters : length (filter is_try (before ++ letters_of v.tokens)) ≡ enters v.tokens = ap (λ (ls : List ℕ). length (filter is_try (ls ++ letters_of v.tokens))) e ∙ letters_tries v.tokens in
    let more = section_more past.closed (section_at x before v) in
    omega (arith, low, counted, letters, more, t)

-- ---- where a step begins

begun_walk : (seed : List ℕ) (left : List PlainStep) → IsWalkAt IsMadeWalk seed left [] (begun_first seed left)
begun_walk seed [] = tt
begun_walk seed (y ∷ ys) = by (is_drawn y.stage)
  where
    by : (b : Bool) → IsWalkBy b IsMadeWalk seed y [] (if b then drawn y.problem seed else start y.problem)
    by true = refl
    by false = (refl, (0, refl))

no_tries : (seed : List ℕ) (y : PlainStep) → (begun seed y).tries ≡ 0
no_tries seed y =
    if_cases (λ (w : Walk). w.tries ≡ 0) (is_drawn y.stage) (drawn y.problem seed) (start y.problem) (λ _. refl)
    (λ _. if_cases (λ (w : Walk). w.tries ≡ 0) _ _ _ (λ _. refl) (λ _. refl))

-- the tries that are made, those of the walk at hand among them
abbrev AreTries : List PlainStep → Walk → Past → Type 0
AreTries [] w past = past.tries ≡ tries_in past.closed
AreTries (x ∷ rest) w past = past.tries ≡ tries_in past.closed + w.tries

begun_tries : (seed : List ℕ) (left : List PlainStep) (past : Past) → past.tries ≡ tries_in past.closed → AreTries left (begun_first seed left) past
begun_tries seed [] past t = t
begun_tries seed (y ∷ ys) past t = let none = no_tries seed y in omega (arith, none, t)

-- ---- sections

sections_on : (xs ys : List PlainStep) (ss ts : List PlainSection) → AllZip IsSectionOf xs ss → AllZip IsSectionOf ys ts → AllZip IsSectionOf (xs ++ ys) (ss ++ ts)
sections_on [] ys [] ts h k = k
sections_on [] ys (s ∷ ss) ts h k = absurd h
sections_on (x ∷ xs) ys [] ts h k = absurd h
sections_on (x ∷ xs) ys (s ∷ ss) ts h k = (h.0, sections_on xs ys ss ts h.1 k)

sections_behind : (front : List PlainStep) (x : PlainStep) (ss ts : List PlainSection) → AreSectionsOf front ss → AllZip IsSectionOf (searches (x ∷ [])) ts → AreSectionsOf (front ++ x ∷ []) (ss ++ ts)
sections_behind front x ss ts h k =
    subst (λ (xs : List PlainStep). AllZip IsSectionOf xs (ss ++ ts)) (sym (filter-append (λ (y : PlainStep). not (is_drawn y.stage)) front (x ∷ [])))
    (sections_on (searches front) (searches (x ∷ [])) ss ts h k)

-- ---- a run

-- at its end a run has made the tries of its letters; before it there is a section for each search of the steps behind it
abbrev IsSo : List PlainStep → Stand → List PlainStep → Type 0
IsSo steps s [] = s.past.tries ≡ tries_in s.past.closed
IsSo steps s (x ∷ rest) = (front : List PlainStep) × (steps ≡ front ++ x ∷ rest) × AreSectionsOf front s.past.closed

so_onward : (seed : List ℕ) (steps front left : List PlainStep) (w : Walk) (before : List ℕ) (past : Past) (m : ℕ) → AreSteps left → steps ≡ front ++ left → IsWalkAt IsMadeWalk seed left before w → AreSectionsOf front past.closed → AreTries left w past
    → IsSo steps (onward seed left w before past m) (onward seed left w before past m).left
so_onward seed steps front [] w before past m are e h ss t = t
so_onward seed steps front (x ∷ rest) w before past m are e h ss t =
    let v : Walk = after_tries x.problem w m in
    let count = passed_tries (is_drawn x.stage) seed x before w m past are.0 h t in
    onward_by (λ (s : Stand). IsSo steps s s.left) seed x rest w before past m
    (λ going. (front, e, ss))
    (λ done end. count)
    (λ done end.
    so_onward seed steps (front ++ x ∷ []) rest (begun_first seed rest) [] (passed x before w v past) (m - made w v) are.1 (e ∙ sym (append_assoc front (x ∷ []) rest)) (begun_walk seed rest)
    (sections_behind front x past.closed (sections_of x before v) ss (passed_sections (is_drawn x.stage) seed x before w m are.0 h done))
    (begun_tries seed rest (passed x before w v past) count))

run_so : (seed : List ℕ) (steps : List PlainStep) (n : ℕ) → AreSteps steps → IsSo steps (run seed steps n) (run seed steps n).left
run_so seed steps n are = so_onward seed steps [] steps (begun_first seed steps) [] (record { found = []; closed = []; tries = 0 }) n are refl (begun_walk seed steps) tt (begun_tries seed steps (record { found = []; closed = []; tries = 0 }) refl)

-- a run that came to its end has made as many tries as its letters tell of
pub run_tries : (seed : List ℕ) (steps : List PlainStep) (n : ℕ) → AreSteps steps → (run seed steps n).left ≡ [] → (run seed steps n).past.tries ≡ tries_in (run seed steps n).past.closed
run_tries seed steps n are over = subst (λ (left : List PlainStep). IsSo steps (run seed steps n) left) over (run_so seed steps n are)

-- The steps behind a run that goes on; it is at a search, and each search of those has its section.
pub record IsFront (seed : List ℕ) (steps : List PlainStep) (x : PlainStep) (rest : List PlainStep) (sections : List PlainSection) : Type 0 where
  pub front : List PlainStep
  pub parts : steps ≡ front ++ x ∷ rest
  pub each : AreSectionsOf front sections
  pub searched : is_drawn x.stage ≡ false

walk_goes : (b : Bool) (seed : List ℕ) (x : PlainStep) (before : List ℕ) (w : Walk) → IsWalkBy b IsMadeWalk seed x before w → w.done ≡ false → b ≡ false
walk_goes true seed x before w h going = absurd (let e : w.done ≡ true = ap (λ (u : Walk). u.done) h in both_ways w.done going e)
walk_goes false seed x before w h going = refl

pub run_front : (seed : List ℕ) (steps : List PlainStep) (n : ℕ) (x : PlainStep) (rest : List PlainStep) → AreSteps steps → (run seed steps n).left ≡ x ∷ rest → IsFront seed steps x rest (run seed steps n).past.closed
run_front seed steps n x rest are left =
    let s : Stand = run seed steps n in
    let so = subst (λ (l : List PlainStep). IsSo steps s l) left (run_so seed steps n are) in
    let stands : IsFromStart seed steps s = run_stands seed steps are n in
    let walks : IsWalkBy (is_drawn x.stage) IsMadeWalk seed x s.before s.walk = subst (λ (l : List PlainStep). IsWalkAt IsMadeWalk seed l s.before s.walk) left stands.walk in
    let tried = all_tries seed (beginning seed steps) n x rest left in
    record { front = so.0; parts = so.1; each = so.2; searched = walk_goes (is_drawn x.stage) seed x s.before s.walk walks tried.going }
