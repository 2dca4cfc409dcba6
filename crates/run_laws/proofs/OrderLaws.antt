-- The sections of a kept log stand in the order of the searches.
use Rattle.std.specs.Prelude.{ℕ, ◌≡◌, not, Bool, true, false, List, [], ◌∷◌, ◌++◌, Option, if◌then◌else◌}
use Rattle.std.specs.List.{AllZip}
use Rattle.std.proofs.Common.{refl, sym, ap, subst, ◌∙◌}
use Rattle.closing_log.specs.Log.{PlainSection}
use Rattle.pick_problem.proofs.Deciding.{if_cases}
use Rattle.random_draw.specs.Draw.{draw_of}
use Rattle.search_run.specs.Found.{PlainFound, found_of}
use Rattle.search_run.specs.Kept.{Along, At, IsDueAt, NamesFirst, answered, answered_by, at_end, comes_to, first_search, to_search}
use Rattle.search_run.specs.Run.{ends}
use Rattle.search_run.specs.Searched.{searches}
use Rattle.search_run.specs.Step.{PlainStep, is_drawn}
use Rattle.run_laws.specs.Sections.{IsNamed}

-- where a search is left to come, these are that one and the searches behind it
abbrev Heads : At → List PlainStep → Type 0
Heads at xs = (x : PlainStep) (rest : List PlainStep) → at.left ≡ x ∷ rest → xs ≡ x ∷ searches rest

ended_heads : (found : List PlainFound) (xs : List PlainStep) → Heads (at_end found) xs
ended_heads found xs x rest e = absurd (never x rest e)
  where
    never : (y : PlainStep) (ys : List PlainStep) → ◌≡◌ {A = List PlainStep} [] (y ∷ ys) → ⊥
    never y ys e = cc e

past_draw : (x : PlainStep) (xs : List PlainStep) → is_drawn x.stage ≡ true → searches (x ∷ xs) ≡ searches xs
past_draw x xs d = ap (λ (b : Bool). if not b then (x ∷ searches xs) else searches xs) d

at_search : (x : PlainStep) (xs : List PlainStep) → is_drawn x.stage ≡ false → searches (x ∷ xs) ≡ x ∷ searches xs
at_search x xs d = ap (λ (b : Bool). if not b then (x ∷ searches xs) else searches xs) d

-- the first step, and the searches behind it
abbrev headed : List PlainStep → List PlainStep
headed [] = []
headed (x ∷ xs) = x ∷ searches xs

first_heads : (seed : List ℕ) (left : List PlainStep) (found : List PlainFound) → Heads (to_search seed left found) (searches left)
first_heads seed [] found = ended_heads found []
first_heads seed (y ∷ ys) found =
    let now = found ++ found_of y (draw_of y.problem seed) in
    let on = first_heads seed ys now in
    if_cases (λ (at : At). Heads at (searches (y ∷ ys))) (is_drawn y.stage) _ _
    (λ d. if_cases (λ (at : At). Heads at (searches (y ∷ ys))) (ends y now) _ _
    (λ e. ended_heads now (searches (y ∷ ys)))
    (λ e. subst (λ (xs : List PlainStep). Heads (to_search seed ys now) xs) (sym (past_draw y ys d)) on))
    (λ d x rest e. at_search y ys d ∙ ap headed e)

behind_heads : (seed : List ℕ) (at : At) (a : Option (List ℕ)) (x : PlainStep) (rest : List PlainStep) → at.left ≡ x ∷ rest → Heads (answered seed at a) (searches rest)
behind_heads seed at a x rest e =
    let now = at.found ++ found_of x a in
    subst (λ (left : List PlainStep). Heads (answered_by seed left at.found a) (searches rest)) (sym e)
    (if_cases (λ (to : At). Heads to (searches rest)) (ends x now) _ _ (λ d. ended_heads now (searches rest)) (λ d. first_heads seed rest now))

-- they name the first of the searches, and what is left then heads the others
abbrev InOrder : List ℕ → At → List PlainStep → List PlainSection → Type 0
InOrder seed at xs ss = (front : List PlainStep) × (rest : List PlainStep) × (xs ≡ front ++ rest) × AllZip IsNamed front ss × Heads (comes_to seed at ss) rest

in_order : (seed : List ℕ) (at : At) (xs : List PlainStep) (ss : List PlainSection) → Heads at xs → Along IsDueAt seed at ss → InOrder seed at xs ss
in_order seed at xs [] heads along = ([], xs, refl, tt, heads)
in_order seed at xs (s ∷ ss) heads along = by (λ rest h. in_order seed (answered seed at s.answer) (searches rest) ss h along.1) at.left refl along.0
  where
    by : ((rest : List PlainStep) → Heads (answered seed at s.answer) (searches rest) → InOrder seed (answered seed at s.answer) (searches rest) ss)
        → (left : List PlainStep) → at.left ≡ left → NamesFirst left s.row s.stage s.digest → InOrder seed at xs (s ∷ ss)
    by on [] e n = absurd n
    by on (x ∷ rest) e n =
        let r = on rest (behind_heads seed at s.answer x rest e) in
        (x ∷ r.0, r.1, heads x rest e ∙ ap (λ (l : List PlainStep). x ∷ l) r.2, (n, r.3), r.4)

pub kept_in_order : (seed : List ℕ) (steps : List PlainStep) (ss : List PlainSection) → Along IsDueAt seed (first_search seed steps) ss → (front : List PlainStep) × (rest : List PlainStep) × (searches steps ≡ front ++ rest) × AllZip IsNamed front ss
kept_in_order seed steps ss along = let r = in_order seed (first_search seed steps) (searches steps) ss (first_heads seed steps []) along in (r.0, r.1, r.2, r.3)

pub next_in_order : (seed : List ℕ) (steps : List PlainStep) (ss : List PlainSection) (x : PlainStep) (left : List PlainStep) → Along IsDueAt seed (first_search seed steps) ss → (comes_to seed (first_search seed steps) ss).left ≡ x ∷ left
    → (front : List PlainStep) × (rest : List PlainStep) × (searches steps ≡ front ++ x ∷ rest) × AllZip IsNamed front ss
next_in_order seed steps ss x left along e =
    let r = in_order seed (first_search seed steps) (searches steps) ss (first_heads seed steps []) along in
    (r.0, searches left, r.2 ∙ ap (λ (l : List PlainStep). r.0 ++ l) (r.4 x left e), r.3)
