-- Steps come to what their sections tell, one after another.
use Rattle.std.specs.Prelude.{ℕ, ◌≡◌, ◌&&◌, ◌<◌, ◌≤◌, ◌+◌, not, Bool, true, false, List, [], ◌∷◌, ◌++◌, length, Option, Result, Ok, Err, IfOk}
use Rattle.std.specs.List.{AllZip}
use Rattle.std.proofs.Common.{refl, sym, ap, subst, inl, inr, ◌∙◌, arith, drop, get_or}
use Rattle.std.proofs.lemmas.List.{drop_all}
use Rattle.closing_log.specs.Log.{PlainSection}
use Rattle.pick_problem.specs.Admissible.{IsFit}
use Rattle.search_run.specs.Found.{PlainFound, found_of, taken}
use Rattle.search_run.specs.Run.{ends}
use Rattle.search_run.specs.Step.{PlainStep, is_drawn}
use Rattle.report_check.specs.LogAnswer.{Adds, AreFit, Comes, ComesBy, HasAnswer}
use Rattle.report_check.proofs.FittingLaws.{searches_draw, searches_search}
use Rattle.report_check.proofs.SliceLaws.{drop_step}

-- ---- sections that fit

abbrev Fits : PlainStep → PlainSection → Type 0
Fits x s = IsFit x.problem s.answer

pub fit_here : (x : PlainStep) (xs : List PlainStep) (s : PlainSection) (rest : List PlainSection) → is_drawn x.stage ≡ false → AreFit (x ∷ xs) (s ∷ rest) → IsFit x.problem s.answer
fit_here x xs s rest d h = (subst (λ (ys : List PlainStep). AllZip Fits ys (s ∷ rest)) (searches_search x xs d) h).0

pub some_here : (x : PlainStep) (xs : List PlainStep) → is_drawn x.stage ≡ false → AreFit (x ∷ xs) [] → ⊥
some_here x xs d h = subst (λ (ys : List PlainStep). AllZip Fits ys []) (searches_search x xs d) h

pub fit_later : (seed : List ℕ) (x : PlainStep) (xs : List PlainStep) (sections : List PlainSection) (r : Option (List ℕ)) (rest : List PlainSection) → Comes seed x sections r rest → AreFit (x ∷ xs) sections → AreFit xs rest
fit_later seed x xs sections r rest h k = by (is_drawn x.stage) refl h
  where
    by : (b : Bool) → is_drawn x.stage ≡ b → ComesBy b seed x sections r rest → AreFit xs rest
    by true d c = subst (λ (ss : List PlainSection). AreFit xs ss) (sym c.1) (subst (λ (ys : List PlainStep). AllZip Fits ys sections) (searches_draw x xs d) k)
    by false d (s, is, told) =
        (subst (λ (ys : List PlainStep). AllZip Fits ys (s ∷ rest)) (searches_search x xs d) (subst (λ (ss : List PlainSection). AreFit (x ∷ xs) ss) is k)).1

-- ---- one step more

-- the results with those of a step
same_found : (x : PlainStep) (old new more : List PlainFound) (r : Option (List ℕ)) → new ≡ old ++ more → more ≡ found_of x r → new ≡ old ++ found_of x r
same_found x old new more r is told = is ∙ ap (λ (fs : List PlainFound). old ++ fs) told

pub tells_on : (seed : List ℕ) (x : PlainStep) (xs : List PlainStep) (sections rest : List PlainSection) (old new more : List PlainFound) (o : Option PlainFound) → Adds seed x sections more rest → new ≡ old ++ more → ends x new ≡ false → HasAnswer seed xs rest new o → HasAnswer seed (x ∷ xs) sections old o
tells_on seed x xs sections rest old new more o (r, comes, told) is going h =
    let same = same_found x old new more r is told in
    (r, rest, comes, inr (sym (ap (ends x) same) ∙ going, subst (λ (fs : List PlainFound). HasAnswer seed xs rest fs o) same h))

pub tells_here : (seed : List ℕ) (x : PlainStep) (xs : List PlainStep) (sections rest : List PlainSection) (old new more : List PlainFound) (o : Option PlainFound) → Adds seed x sections more rest → new ≡ old ++ more → ends x new ≡ true → o ≡ taken new → HasAnswer seed (x ∷ xs) sections old o
tells_here seed x xs sections rest old new more o (r, comes, told) is ended h =
    let same = same_found x old new more r is told in
    (r, rest, comes, inl (sym (ap (ends x) same) ∙ ended, h ∙ ap taken same))

-- whether a column ends with a result, as the code tells it
pub ends_by : (x : PlainStep) (found : List PlainFound) (last none : Bool) → last ≡ x.last → (none ≡ true → found ≡ []) → (none ≡ false → 0 < length found) → ends x found ≡ (last && not none)
ends_by x [] last true is held un = ap (λ (b : Bool). b && false) (sym is)
ends_by x [] last false is held un = absurd (let e = un refl in omega (arith, e))
ends_by x (f ∷ fs) last true is held un = absurd (let e = held refl in cc)
ends_by x (f ∷ fs) last false is held un = ap (λ (b : Bool). b && true) (sym is)

-- ---- along the steps

-- what the steps from a place on come to by the sections that are left is what all come to
abbrev pub IsTold : List ℕ → List PlainStep → List PlainSection → List PlainStep → List PlainSection → List PlainFound → Type 0
IsTold seed steps sections left rest found = (o : Option PlainFound) → HasAnswer seed left rest found o → HasAnswer seed steps sections [] o

pub fit_drop : (steps : List PlainStep) (i : ℕ) (x : PlainStep) (rest : List PlainSection) → i < length steps → x ≡ get_or steps i x → AreFit (drop i steps) rest → (xs : List PlainStep) × AreFit (x ∷ xs) rest
fit_drop steps i x rest below is h = (drop (i + 1) steps, subst (λ (xs : List PlainStep). AreFit xs rest) (drop_step steps i x below is) h)

pub fit_next : (seed : List ℕ) (steps : List PlainStep) (i : ℕ) (x : PlainStep) (rest next : List PlainSection) (more : List PlainFound) → i < length steps → x ≡ get_or steps i x → AreFit (drop i steps) rest → Adds seed x rest more next → AreFit (drop (i + 1) steps) next
fit_next seed steps i x rest next more below is h a =
    fit_later seed x (drop (i + 1) steps) rest a.0 next a.1 (subst (λ (xs : List PlainStep). AreFit xs rest) (drop_step steps i x below is) h)

pub told_next : (seed : List ℕ) (steps : List PlainStep) (sections : List PlainSection) (i : ℕ) (x : PlainStep) (rest next : List PlainSection) (old new more : List PlainFound) → i < length steps → x ≡ get_or steps i x → IsTold seed steps sections (drop i steps) rest old → Adds seed x rest more next → new ≡ old ++ more → ends x new ≡ false → IsTold seed steps sections (drop (i + 1) steps) next new
told_next seed steps sections i x rest next old new more below is h a add going o k =
    h o (subst (λ (xs : List PlainStep). HasAnswer seed xs rest old o) (sym (drop_step steps i x below is)) (tells_on seed x (drop (i + 1) steps) rest next old new more o a add going k))

pub told_here : (seed : List ℕ) (steps : List PlainStep) (sections : List PlainSection) (i : ℕ) (x : PlainStep) (rest next : List PlainSection) (old new more : List PlainFound) (o : Option PlainFound) → i < length steps → x ≡ get_or steps i x → IsTold seed steps sections (drop i steps) rest old → Adds seed x rest more next → new ≡ old ++ more → ends x new ≡ true → o ≡ taken new → HasAnswer seed steps sections [] o
told_here seed steps sections i x rest next old new more o below is h a add ended k =
    h o (subst (λ (xs : List PlainStep). HasAnswer seed xs rest old o) (sym (drop_step steps i x below is)) (tells_here seed x (drop (i + 1) steps) rest next old new more o a add ended k))

pub told_over : (seed : List ℕ) (steps : List PlainStep) (sections : List PlainSection) (i : ℕ) (rest : List PlainSection) (found : List PlainFound) (o : Option PlainFound) → length steps ≤ i → IsTold seed steps sections (drop i steps) rest found → o ≡ taken found → HasAnswer seed steps sections [] o
told_over seed steps sections i rest found o end h k = h o (subst (λ (xs : List PlainStep). HasAnswer seed xs rest found o) (sym (drop_all i steps end)) k)

-- what is so of what is taken is so of what a call answers
pub taken_ok : {E : Type 0} (r : Result (Option PlainFound) E) (found : List PlainFound) (P : Option PlainFound → Type 0) → IfOk r (λ o. o ≡ taken found) → ((o : Option PlainFound) → o ≡ taken found → P o) → IfOk r P
taken_ok (Ok o) found P h k = k o h
taken_ok (Err e) found P h k = tt
