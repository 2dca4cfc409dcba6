-- To which search a run comes, and what follows where each answer on the way is the best.
use Rattle.std.specs.Prelude.{ℕ, ◌≡◌, Bool, true, false, List, [], ◌∷◌, ◌++◌, Option, if◌then◌else◌}
use Rattle.std.proofs.Common.{refl, sym, subst, inl, inr}
use Rattle.closing_log.specs.Log.{PlainSection}
use Rattle.pick_problem.proofs.Deciding.{by_test, if_cases, if_true, if_false}
use Rattle.random_draw.specs.Draw.{draw_of}
use Rattle.search_run.specs.Answer.{IsResult, IsResultBy}
use Rattle.search_run.specs.Found.{PlainFound, found_of, taken}
use Rattle.search_run.specs.Kept.{Along, At, IsBestAt, answered, answered_by, at_end, comes_to, to_search}
use Rattle.search_run.specs.Run.{ends}
use Rattle.search_run.specs.Step.{PlainStep, is_drawn}
use Rattle.search_run.proofs.AnswerLaws.{Chooses}

-- ---- the ways of a step

abbrev pub at_step : PlainStep → List PlainStep → List PlainFound → At
at_step x rest found = record { left = x ∷ rest; found = found }

-- behind a step, by what is found then
abbrev pub behind_step : List ℕ → PlainStep → List PlainStep → List PlainFound → At
behind_step seed x rest found = if ends x found then at_end found else to_search seed rest found

pub draw_first : (seed : List ℕ) (x : PlainStep) (rest : List PlainStep) (found : List PlainFound) → is_drawn x.stage ≡ true →
    to_search seed (x ∷ rest) found ≡ behind_step seed x rest (found ++ found_of x (draw_of x.problem seed))
draw_first seed x rest found e = if_true (is_drawn x.stage) _ _ e

pub search_first : (seed : List ℕ) (x : PlainStep) (rest : List PlainStep) (found : List PlainFound) → is_drawn x.stage ≡ false → to_search seed (x ∷ rest) found ≡ at_step x rest found
search_first seed x rest found e = if_false (is_drawn x.stage) _ _ e

-- nothing is left, or the first step is a search
abbrev pub IsSearchFirst : List PlainStep → Type 0
IsSearchFirst [] = Unit {0}
IsSearchFirst (x ∷ rest) = is_drawn x.stage ≡ false

pub comes_to_search : (seed : List ℕ) (left : List PlainStep) (found : List PlainFound) → IsSearchFirst (to_search seed left found).left
comes_to_search seed [] found = tt
comes_to_search seed (x ∷ rest) found =
    if_cases (λ (at : At). IsSearchFirst at.left) (is_drawn x.stage) _ _
    (λ d. if_cases (λ (at : At). IsSearchFirst at.left) (ends x (found ++ found_of x (draw_of x.problem seed))) _ _ (λ e. tt) (λ e. comes_to_search seed rest (found ++ found_of x (draw_of x.problem seed))))
    (λ d. d)

pub behind_search : (seed : List ℕ) (x : PlainStep) (rest : List PlainStep) (found : List PlainFound) → IsSearchFirst (behind_step seed x rest found).left
behind_search seed x rest found = if_cases (λ (at : At). IsSearchFirst at.left) (ends x found) _ _ (λ e. tt) (λ e. comes_to_search seed rest found)

pub answered_search : (seed : List ℕ) (left : List PlainStep) (found : List PlainFound) (a : Option (List ℕ)) → IsSearchFirst (answered_by seed left found a).left
answered_search seed [] found a = tt
answered_search seed (x ∷ rest) found a = behind_search seed x rest (found ++ found_of x a)

-- ---- pieces

pub comes-append : (seed : List ℕ) (at : At) (xs ys : List PlainSection) → comes_to seed at (xs ++ ys) ≡ comes_to seed (comes_to seed at xs) ys
comes-append seed at [] ys = refl
comes-append seed at (s ∷ ss) ys = comes-append seed (answered seed at s.answer) ss ys

pub along-append : (P : At → PlainSection → Type 0) (seed : List ℕ) (at : At) (xs ys : List PlainSection) → Along P seed at xs → Along P seed (comes_to seed at xs) ys → Along P seed at (xs ++ ys)
along-append P seed at [] ys h k = k
along-append P seed at (s ∷ ss) ys h k = (h.0, along-append P seed (answered seed at s.answer) ss ys h.1 k)

pub along_weaker : (P Q : At → PlainSection → Type 0) (seed : List ℕ) (at : At) (xs : List PlainSection) → ((a : At) (s : PlainSection) → P a s → Q a s) → Along P seed at xs → Along Q seed at xs
along_weaker P Q seed at [] f h = tt
along_weaker P Q seed at (s ∷ ss) f h = (f at s h.0, along_weaker P Q seed (answered seed at s.answer) ss f h.1)

-- ---- where each answer is the best

pub result_is : (b : Bool) (seed : List ℕ) (x : PlainStep) (r : Option (List ℕ)) → is_drawn x.stage ≡ b → IsResultBy b seed x r → IsResult seed x r
result_is b seed x r e h = subst (λ (c : Bool). IsResultBy c seed x r) (sym e) h

-- choosing goes on behind a step with this result
chosen_behind : (seed : List ℕ) (x : PlainStep) (rest : List PlainStep) (found : List PlainFound) (r : Option (List ℕ)) (o : Option PlainFound) →
    IsResult seed x r →
    Chooses seed (behind_step seed x rest (found ++ found_of x r)).left (behind_step seed x rest (found ++ found_of x r)).found o →
    ((now : List PlainFound) → Chooses seed (to_search seed rest now).left (to_search seed rest now).found o → Chooses seed rest now o) →
    Chooses seed (x ∷ rest) found o
chosen_behind seed x rest found r o rr h k =
    let now : List PlainFound = found ++ found_of x r in
    by_test (Chooses seed (x ∷ rest) found o) (ends x (found ++ found_of x r))
    (λ e.
    let at_is : behind_step seed x rest (found ++ found_of x r) ≡ at_end (found ++ found_of x r) = if_true (ends x (found ++ found_of x r)) _ _ e in
    (r, rr, inl (e, subst (λ (at : At). Chooses seed at.left at.found o) at_is h)))
    (λ e.
    let at_is : behind_step seed x rest (found ++ found_of x r) ≡ to_search seed rest (found ++ found_of x r) = if_false (ends x (found ++ found_of x r)) _ _ e in
    (r, rr, inr (e, k (found ++ found_of x r) (subst (λ (at : At). Chooses seed at.left at.found o) at_is h))))

pub chosen_from_search : (seed : List ℕ) (left : List PlainStep) (o : Option PlainFound) (found : List PlainFound) → Chooses seed (to_search seed left found).left (to_search seed left found).found o → Chooses seed left found o
chosen_from_search seed [] o found h = h
chosen_from_search seed (x ∷ rest) o found h =
    by_test (Chooses seed (x ∷ rest) found o) (is_drawn x.stage)
    (λ d.
    chosen_behind seed x rest found (draw_of x.problem seed) o (result_is true seed x (draw_of x.problem seed) d refl)
    (subst (λ (at : At). Chooses seed at.left at.found o) (draw_first seed x rest found d) h)
    (λ now k. chosen_from_search seed rest o now k))
    (λ d. subst (λ (at : At). Chooses seed at.left at.found o) (search_first seed x rest found d) h)

pub best_chosen : (seed : List ℕ) (ss : List PlainSection) (left : List PlainStep) (found end : List PlainFound) → IsSearchFirst left →
    Along IsBestAt seed (record { left = left; found = found }) ss → comes_to seed (record { left = left; found = found }) ss ≡ at_end end → Chooses seed left found (taken end)
best_chosen seed [] left found end first h e = subst (λ (at : At). Chooses seed at.left at.found (taken end)) (sym e) refl
best_chosen seed (s ∷ ss) [] found end first h e = absurd h.0
best_chosen seed (s ∷ ss) (x ∷ rest) found end first h e =
    let next : At = answered seed (at_step x rest found) s.answer in
    chosen_behind seed x rest found s.answer (taken end) (result_is false seed x s.answer first h.0)
    (best_chosen seed ss next.left next.found end (behind_search seed x rest (found ++ found_of x s.answer)) h.1 e)
    (λ now k. chosen_from_search seed rest (taken end) now k)
