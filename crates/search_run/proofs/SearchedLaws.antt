-- The sections of a run that comes to its end are those of the searches up to and with the column of its answer.
use Rattle.std.specs.Prelude.{ℕ, ◌≡◌, ◌⊎◌, not, Bool, true, false, List, [], ◌∷◌, ◌++◌, Option, Some, None, if◌then◌else◌}
use Rattle.std.specs.List.{AllByRecursion, AllZip}
use Rattle.std.proofs.Common.{refl, sym, ap, subst, inl, inr, ◌∙◌, append_assoc}
use Rattle.std.proofs.lemmas.Bool.{and_left, and_right, both_ways}
use Rattle.std.proofs.lemmas.List.{append-nil}
use Rattle.closing_log.specs.Log.{PlainSection}
use Rattle.pick_problem.proofs.Deciding.{by_test, if_true, if_false}
use Rattle.random_draw.specs.Draw.{draw_of}
use Rattle.search_run.specs.Answer.{AreResults, HasNone, IsColumn, IsFirstTaken, IsResult}
use Rattle.search_run.specs.Found.{PlainFound, found_of, taken}
use Rattle.search_run.specs.Kept.{Along, At, answered, at_end, comes_to, first_search, to_search}
use Rattle.search_run.specs.Run.{ends, is_some_found, run}
use Rattle.search_run.specs.Searched.{AreSectionsOf, IsSectionOf, searches}
use Rattle.search_run.specs.Stands.{IsMadeAt}
use Rattle.search_run.specs.Step.{AreSteps, PlainStep, is_drawn}
use Rattle.search_run.proofs.AnswerLaws.{both_true, one_result, some_since_taken}
use Rattle.search_run.proofs.ChoiceLaws.{taken_only}
use Rattle.search_run.proofs.ComeLaws.{IsSearchFirst, at_step, behind_search, behind_step, comes_to_search, draw_first, result_is, search_first}
use Rattle.search_run.proofs.MadeLaws.{run_stands}

-- ---- choosing step by step, with what each step leaves in the log

abbrev Logs : List ℕ → List PlainStep → List PlainFound → List PlainSection → Type 0
Logs seed [] found ss = ss ≡ []
Logs seed (x ∷ xs) found ss =
    (r : Option (List ℕ)) × IsResult seed x r
    × ((mine : List PlainSection) × (rest : List PlainSection) × (ss ≡ mine ++ rest) × AreSectionsOf (x ∷ []) mine
    × (((ends x (found ++ found_of x r) ≡ true) × (rest ≡ [])) ⊎ ((ends x (found ++ found_of x r) ≡ false) × Logs seed xs (found ++ found_of x r) rest)))

sections_more : (x : PlainStep) (xs : List PlainStep) (mine rest : List PlainSection) → AreSectionsOf (x ∷ []) mine → AreSectionsOf xs rest → AreSectionsOf (x ∷ xs) (mine ++ rest)
sections_more x xs mine rest h k = by (is_drawn x.stage) mine h
  where
    by : (b : Bool) (ms : List PlainSection) → AllZip IsSectionOf (if not b then (x ∷ []) else []) ms → AllZip IsSectionOf (if not b then (x ∷ searches xs) else searches xs) (ms ++ rest)
    by true [] h = k
    by true (s ∷ ss) h = absurd h
    by false [] h = absurd h
    by false (s ∷ []) h = (h.0, k)
    by false (s ∷ t ∷ ss) h = absurd h.1

-- a draw leaves nothing, a search its section
none_of_draw : (x : PlainStep) → is_drawn x.stage ≡ true → AreSectionsOf (x ∷ []) []
none_of_draw x d = subst (λ (b : Bool). AllZip IsSectionOf (if not b then (x ∷ []) else []) []) (sym d) tt

one_of_search : (x : PlainStep) (s : PlainSection) → is_drawn x.stage ≡ false → IsSectionOf x s → AreSectionsOf (x ∷ []) (s ∷ [])
one_of_search x s d h = subst (λ (b : Bool). AllZip IsSectionOf (if not b then (x ∷ []) else []) (s ∷ [])) (sym d) (h, tt)

-- ---- a run's sections

logs_behind : (seed : List ℕ) (x : PlainStep) (rest : List PlainStep) (found : List PlainFound) (r : Option (List ℕ)) (mine more : List PlainSection) →
    IsResult seed x r → AreSectionsOf (x ∷ []) mine →
    Logs seed (behind_step seed x rest (found ++ found_of x r)).left (behind_step seed x rest (found ++ found_of x r)).found more →
    ((now : List PlainFound) → Logs seed (to_search seed rest now).left (to_search seed rest now).found more → Logs seed rest now more) →
    Logs seed (x ∷ rest) found (mine ++ more)
logs_behind seed x rest found r mine more rr own h k =
    by_test (Logs seed (x ∷ rest) found (mine ++ more)) (ends x (found ++ found_of x r))
    (λ e.
    let at_is : behind_step seed x rest (found ++ found_of x r) ≡ at_end (found ++ found_of x r) = if_true (ends x (found ++ found_of x r)) _ _ e in
    (r, rr, (mine, more, refl, own, inl (e, subst (λ (at : At). Logs seed at.left at.found more) at_is h))))
    (λ e.
    let at_is : behind_step seed x rest (found ++ found_of x r) ≡ to_search seed rest (found ++ found_of x r) = if_false (ends x (found ++ found_of x r)) _ _ e in
    (r, rr, (mine, more, refl, own, inr (e, k (found ++ found_of x r) (subst (λ (at : At). Logs seed at.left at.found more) at_is h)))))

logs_from_search : (seed : List ℕ) (left : List PlainStep) (found : List PlainFound) (ss : List PlainSection) → Logs seed (to_search seed left found).left (to_search seed left found).found ss → Logs seed left found ss
logs_from_search seed [] found ss h = h
logs_from_search seed (x ∷ rest) found ss h =
    by_test (Logs seed (x ∷ rest) found ss) (is_drawn x.stage)
    (λ d.
    logs_behind seed x rest found (draw_of x.problem seed) [] ss (result_is true seed x (draw_of x.problem seed) d refl) (none_of_draw x d)
    (subst (λ (at : At). Logs seed at.left at.found ss) (draw_first seed x rest found d) h)
    (λ now k. logs_from_search seed rest now ss k))
    (λ d. subst (λ (at : At). Logs seed at.left at.found ss) (search_first seed x rest found d) h)

made_logs : (seed : List ℕ) (ss : List PlainSection) (left : List PlainStep) (found end : List PlainFound) → IsSearchFirst left →
    Along IsMadeAt seed (record { left = left; found = found }) ss → comes_to seed (record { left = left; found = found }) ss ≡ at_end end → Logs seed left found ss
made_logs seed [] left found end first h e = subst (λ (at : At). Logs seed at.left at.found []) (sym e) refl
made_logs seed (s ∷ ss) [] found end first h e = absurd h.0.0
made_logs seed (s ∷ ss) (x ∷ rest) found end first h e =
    let next : At = answered seed (at_step x rest found) s.answer in
    logs_behind seed x rest found s.answer (s ∷ []) ss (result_is false seed x s.answer first h.0.2) (one_of_search x s first (record { names = h.0.0; best = h.0.2; accepted = h.0.1 }))
    (made_logs seed ss next.left next.found end (behind_search seed x rest (found ++ found_of x s.answer)) h.1 e)
    (λ now k. logs_from_search seed rest now ss k)

-- the sections of a run that is over, each the best of the search to which the run came
over_logs : (seed : List ℕ) (steps : List PlainStep) (ss : List PlainSection) (found : List PlainFound) → Along IsMadeAt seed (first_search seed steps) ss → comes_to seed (first_search seed steps) ss ≡ at_end found → Logs seed steps [] ss
over_logs seed steps ss found made end =
    logs_from_search seed steps [] ss (made_logs seed ss (first_search seed steps).left (first_search seed steps).found found (comes_to_search seed steps []) made end)

-- ---- which searches these are

record Split (seed : List ℕ) (front rest : List PlainStep) (ss : List PlainSection) : Type 0 where
  mine : List PlainSection
  more : List PlainSection
  parts : ss ≡ mine ++ more
  sections : AreSectionsOf front mine
  logs : Logs seed rest [] more

-- past steps without results
past_none : (seed : List ℕ) (front rest : List PlainStep) (ss : List PlainSection) → AllByRecursion (HasNone seed) front → Logs seed (front ++ rest) [] ss → Split seed front rest ss
past_none seed [] rest ss none h = record { mine = []; more = ss; parts = refl; sections = tt; logs = h }
past_none seed (x ∷ xs) rest ss none (r, rr, (mine, more, parts, own, next)) = by (subst Next (one_result seed x r None rr none.0) next) (λ h. past_none seed xs rest more none.1 h)
  where
    Next : Option (List ℕ) → Type 0
    Next q = ((ends x ([] ++ found_of x q) ≡ true) × (more ≡ [])) ⊎ ((ends x ([] ++ found_of x q) ≡ false) × Logs seed (xs ++ rest) ([] ++ found_of x q) more)

    by : Next None → (Logs seed (xs ++ rest) [] more → Split seed xs rest more) → Split seed (x ∷ xs) rest ss
    by (inl m) on = absurd (both_ways (ends x []) (and_right x.last false refl) m.0)
    by (inr m) on =
        let k = on m.1 in
        record {
          mine = mine ++ k.mine;
          more = k.more;
          parts = parts ∙ (ap (λ (ts : List PlainSection). mine ++ ts) k.parts ∙ sym (append_assoc mine k.mine k.more));
          sections = sections_more x xs mine k.mine own k.sections;
          logs = k.logs;
        }

-- up to and with the last step of the column that is answered from
in_column : (seed : List ℕ) (column rest : List PlainStep) (found fs : List PlainFound) (f : PlainFound) (ss : List PlainSection) →
    IsColumn column → AreResults seed column fs → taken (found ++ fs) ≡ Some f → Logs seed (column ++ rest) found ss → AreSectionsOf column ss
in_column seed [] rest found fs f ss one results t h = absurd one
in_column seed (x ∷ []) rest found fs f ss one (r, rr, (gs, parts, none)) t (q, qq, (mine, more, whole, own, next)) = by (subst Next (one_result seed x q r qq rr) next)
  where
    Next : Option (List ℕ) → Type 0
    Next o = ((ends x (found ++ found_of x o) ≡ true) × (more ≡ [])) ⊎ ((ends x (found ++ found_of x o) ≡ false) × Logs seed rest (found ++ found_of x o) more)

    same : found ++ fs ≡ found ++ found_of x r
    same = ap (λ (hs : List PlainFound). found ++ hs) (parts ∙ (ap (λ (hs : List PlainFound). found_of x r ++ hs) none ∙ append-nil (found_of x r)))

    ended : ends x (found ++ found_of x r) ≡ true
    ended = both_true x.last (is_some_found (found ++ found_of x r)) one (some_since_taken (found ++ found_of x r) f (sym (ap taken same) ∙ t))

    by : Next r → AreSectionsOf (x ∷ []) ss
    by (inl m) = subst (λ (ts : List PlainSection). AreSectionsOf (x ∷ []) ts) (sym (whole ∙ (ap (λ (ts : List PlainSection). mine ++ ts) m.1 ∙ append-nil mine))) own
    by (inr m) = absurd (both_ways (ends x (found ++ found_of x r)) m.0 ended)
in_column seed (x ∷ y ∷ ys) rest found fs f ss one (r, rr, (gs, parts, results)) t (q, qq, (mine, more, whole, own, next)) =
    by (subst Next (one_result seed x q r qq rr) next) (λ k. in_column seed (y ∷ ys) rest (found ++ found_of x r) gs f more one.1 results (sym (ap taken same) ∙ t) k)
  where
    Next : Option (List ℕ) → Type 0
    Next o = ((ends x (found ++ found_of x o) ≡ true) × (more ≡ [])) ⊎ ((ends x (found ++ found_of x o) ≡ false) × Logs seed ((y ∷ ys) ++ rest) (found ++ found_of x o) more)

    same : found ++ fs ≡ (found ++ found_of x r) ++ gs
    same = ap (λ (hs : List PlainFound). found ++ hs) parts ∙ sym (append_assoc found (found_of x r) gs)

    by : Next r → (Logs seed ((y ∷ ys) ++ rest) (found ++ found_of x r) more → AreSectionsOf (y ∷ ys) more) → AreSectionsOf (x ∷ y ∷ ys) ss
    by (inl m) k = absurd (both_ways (ends x (found ++ found_of x r)) (and_left x.last (is_some_found (found ++ found_of x r)) one.0) m.0)
    by (inr m) k = subst (λ (ts : List PlainSection). AreSectionsOf (x ∷ y ∷ ys) ts) (sym whole) (sections_more x (y ∷ ys) mine more own (k m.1))

sections_join : (front column : List PlainStep) (mine more : List PlainSection) → AreSectionsOf front mine → AreSectionsOf column more → AreSectionsOf (front ++ column) (mine ++ more)
sections_join [] column [] more h k = k
sections_join [] column (s ∷ ss) more h k = absurd h
sections_join (x ∷ xs) column mine more h k = by (is_drawn x.stage) mine h (λ ms g. sections_join xs column ms more g k)
  where
    by : (b : Bool) (ms : List PlainSection) → AllZip IsSectionOf (if not b then (x ∷ searches xs) else searches xs) ms → ((ns : List PlainSection) → AreSectionsOf xs ns → AreSectionsOf (xs ++ column) (ns ++ more)) → AllZip IsSectionOf (if not b then (x ∷ searches (xs ++ column)) else searches (xs ++ column)) (ms ++ more)
    by true ms h g = g ms h
    by false [] h g = absurd h
    by false (s ∷ ss) h g = (h.0, g ss h.1)

-- ---- a run that is over, wherever it had gone on from

pub over_answered : (seed : List ℕ) (steps : List PlainStep) (ss : List PlainSection) (found : List PlainFound) (f : PlainFound) → Along IsMadeAt seed (first_search seed steps) ss → comes_to seed (first_search seed steps) ss ≡ at_end found → (h : IsFirstTaken seed steps f) → AreSectionsOf (h.front ++ h.column) ss
over_answered seed steps ss found f made end h =
    let logs = subst (λ (xs : List PlainStep). Logs seed xs [] ss) h.parts (over_logs seed steps ss found made end) in
    let k = past_none seed h.front (h.column ++ h.rest) ss h.none logs in
    subst (λ (xs : List PlainSection). AreSectionsOf (h.front ++ h.column) xs) (sym k.parts)
    (sections_join h.front h.column k.mine k.more k.sections (in_column seed h.column h.rest [] h.found f k.more h.one h.results (taken_only h.found f h.taken) k.logs))

pub over_all : (seed : List ℕ) (steps : List PlainStep) (ss : List PlainSection) (found : List PlainFound) → Along IsMadeAt seed (first_search seed steps) ss → comes_to seed (first_search seed steps) ss ≡ at_end found → AllByRecursion (HasNone seed) steps → AreSectionsOf steps ss
over_all seed steps ss found made end none =
    let logs = subst (λ (xs : List PlainStep). Logs seed xs [] ss) (sym (append-nil steps)) (over_logs seed steps ss found made end) in
    let k = past_none seed steps [] ss none logs in
    subst (λ (xs : List PlainSection). AreSectionsOf steps xs) (sym (k.parts ∙ (ap (λ (xs : List PlainSection). k.mine ++ xs) k.logs ∙ append-nil k.mine))) k.sections

-- ---- a run from the start

-- what it came to, where no step is left
start_ends : (seed : List ℕ) (steps : List PlainStep) (n : ℕ) → AreSteps steps → (run seed steps n).left ≡ [] → comes_to seed (first_search seed steps) (run seed steps n).past.closed ≡ at_end (run seed steps n).past.found
start_ends seed steps n are over = (run_stands seed steps are n).here ∙ ap (λ (left : List PlainStep). to_search seed left (run seed steps n).past.found) over

pub answered_sections : (seed : List ℕ) (steps : List PlainStep) (n : ℕ) (f : PlainFound) → AreSteps steps → (run seed steps n).left ≡ [] → (h : IsFirstTaken seed steps f) → AreSectionsOf (h.front ++ h.column) (run seed steps n).past.closed
answered_sections seed steps n f are over h = over_answered seed steps (run seed steps n).past.closed (run seed steps n).past.found f (run_stands seed steps are n).closed (start_ends seed steps n are over) h

pub all_sections : (seed : List ℕ) (steps : List PlainStep) (n : ℕ) → AreSteps steps → (run seed steps n).left ≡ [] → AllByRecursion (HasNone seed) steps → AreSectionsOf steps (run seed steps n).past.closed
all_sections seed steps n are over none = over_all seed steps (run seed steps n).past.closed (run seed steps n).past.found (run_stands seed steps are n).closed (start_ends seed steps n are over) none
