-- The answer that steps come to by their sections is the one that a report is to name.
use Rattle.std.specs.Prelude.{ℕ, ◌≡◌, ◌↔◌, not, Bool, true, false, List, [], ◌∷◌, ◌++◌, Contains, Option, Some, None}
use Rattle.std.specs.List.{AllByRecursion, AllZip}
use Rattle.std.proofs.Common.{refl, sym, ap, subst, inl, inr, ◌∙◌, append_assoc}
use Rattle.std.proofs.lemmas.List.Elements.{All-contains, All-from_recursion, Contains-append_left, Contains-append_right, filter-append}
use Rattle.closing_log.specs.Log.{PlainSection}
use Rattle.closing_log.specs.declared.log.Stage.{Stage}
use Rattle.closing_log.specs.declared.mark.Mark.TheVariants as mark
use Rattle.fund_base.proofs.Lists.{cons_cases, in_tail}
use Rattle.fund_plan.proofs.GivenLaws.{ended_none, given_mark}
use Rattle.fund_plan.proofs.SourceLaws.{own_problem, own_result}
use Rattle.fund_plan.specs.Chosen.{funded_at, mark_of, row_of}
use Rattle.fund_plan.specs.Outcome.{by_end}
use Rattle.fund_plan.specs.Steps.{problem_at, steps_of}
use Rattle.fund_plan.specs.declared.outcome.Outcome.{Outcome}
use Rattle.fund_plan.specs.declared.outcome.Outcome.TheVariants as outcomes
use Rattle.fund_report.specs.PlainFunded.{PlainFunded}
use Rattle.fund_report.specs.declared.report.Report.TheVariants.{Funded}
use Rattle.fund_steps.specs.Plan.{PlainPlan}
use Rattle.output_groups.proofs.Members.{head_in, in_filter, none_in}
use Rattle.pick_problem.proofs.BestLaws.{one_best_is}
use Rattle.pick_problem.proofs.SoundLaws.{accepted_best}
use Rattle.pick_problem.specs.Best.{IsBest}
use Rattle.pick_problem.specs.Problem.{PlainProblem}
use Rattle.random_draw.specs.Draw.{draw_of}
use Rattle.search_run.proofs.AnswerLaws.{Chooses, chosen_answers, one_answer_is, one_result}
use Rattle.search_run.specs.Answer.{AreResults, AreWhole, HasNone, IsAnswer, IsFirstTaken, IsResult, IsResultBy}
use Rattle.search_run.specs.Found.{PlainFound, found_of}
use Rattle.search_run.specs.Searched.{searches}
use Rattle.search_run.specs.Step.{AreSteps, IsStep, PlainStep, is_drawn}
use Rattle.search_run.specs.declared.ending.End.TheVariants as endings
use Rattle.report_check.specs.Answer.{AreTold, IsFirstTold, IsNamedAnswer, IsTold, IsToldBy, IsToldNone, NamesOutcome, NamesPayment}
use Rattle.report_check.specs.DueSections.{AreFor, HasStepAt, IsNamedAs}
use Rattle.report_check.specs.Proved.{AreProved, IsProvedFor}
use Rattle.report_check.specs.LogAnswer.{Comes, ComesBy, HasAnswer}
use Rattle.report_check.proofs.BackedLaws.{AreSearched, told_answer}
use Rattle.report_check.proofs.FittingLaws.{searches_draw, searches_search}

-- ---- sections of the searches that are due

-- of two lists that begin the same one, what is so of the second by the sections is so of the first
zip_due : (due front more rest : List PlainStep) (ss : List PlainSection) → due ++ more ≡ front ++ rest → AreFor due ss → AllZip IsProvedFor front ss → AllZip IsProvedFor due ss
zip_due [] [] more rest [] e h k = tt
zip_due [] front more rest (s ∷ ss) e h k = absurd h
zip_due [] (y ∷ ys) more rest [] e h k = absurd k
zip_due (x ∷ xs) front more rest [] e h k = absurd h
zip_due (x ∷ xs) [] more rest (s ∷ ss) e h k = absurd k
zip_due (x ∷ xs) (y ∷ ys) more rest (s ∷ ss) e h k =
    let same : y ≡ x = cc in
    (subst (λ (z : PlainStep). IsProvedFor z s) same k.0, zip_due xs ys more rest ss (cc) h.1 k.1)

-- the searches of the first steps are the first searches
searches_front : (steps upto rest : List PlainStep) → steps ≡ upto ++ rest → searches steps ≡ searches upto ++ searches rest
searches_front steps upto rest e = ap searches e ∙ filter-append (λ (x : PlainStep). not (is_drawn x.stage)) upto rest

pub proved_front : (steps upto rest : List PlainStep) (sections : List PlainSection) → steps ≡ upto ++ rest → AreFor (searches upto) sections → AreProved steps sections → AllZip IsProvedFor (searches upto) sections
proved_front steps upto rest sections e h k = zip_due (searches upto) k.front (searches rest) k.rest sections (sym (searches_front steps upto rest e) ∙ k.parts) h k.each

abbrev pub IsBestFor : PlainStep → PlainSection → Type 0
IsBestFor x s = IsBest x.problem s.answer

best_by : (x : PlainStep) (s : PlainSection) → IsStep x → IsProvedFor x s → IsBestFor x s
best_by x s fine h = accepted_best x.problem s.answer h.0 fine.problem h.2

best_zip : (xs : List PlainStep) (ss : List PlainSection) → ((x : PlainStep) → Contains xs x → IsStep x) → AllZip IsProvedFor xs ss → AllZip IsBestFor xs ss
best_zip [] [] fine h = tt
best_zip [] (s ∷ ss) fine h = absurd h
best_zip (x ∷ xs) [] fine h = absurd h
best_zip (x ∷ xs) (s ∷ ss) fine h = (best_by x s (fine x (head_in x xs)) h.0, best_zip xs ss (λ y there. fine y (in_tail x xs y there)) h.1)

-- ---- what is told is chosen

best_later : (x : PlainStep) (xs : List PlainStep) (s : PlainSection) (rest : List PlainSection) → is_drawn x.stage ≡ false → AllZip IsBestFor (searches (x ∷ xs)) (s ∷ rest) → IsBestFor x s × AllZip IsBestFor (searches xs) rest
best_later x xs s rest d h = subst (λ (ys : List PlainStep). AllZip IsBestFor ys (s ∷ rest)) (searches_search x xs d) h

record Next (seed : List ℕ) (x : PlainStep) (xs : List PlainStep) (r : Option (List ℕ)) (rest : List PlainSection) : Type 0 where
  result : IsResult seed x r
  later : AllZip IsBestFor (searches xs) rest

next_of : (seed : List ℕ) (x : PlainStep) (xs : List PlainStep) (ss : List PlainSection) (r : Option (List ℕ)) (rest : List PlainSection) → Comes seed x ss r rest → AllZip IsBestFor (searches (x ∷ xs)) ss → Next seed x xs r rest
next_of seed x xs ss r rest c h = by (is_drawn x.stage) refl c
  where
    by : (b : Bool) → is_drawn x.stage ≡ b → ComesBy b seed x ss r rest → Next seed x xs r rest
    by true d k = record {
      result = subst (λ (b : Bool). IsResultBy b seed x r) (sym d) k.0;
      later = subst (λ (ts : List PlainSection). AllZip IsBestFor (searches xs) ts) (sym k.1) (subst (λ (ys : List PlainStep). AllZip IsBestFor ys ss) (searches_draw x xs d) h);
    }
    by false d (s, is, told) =
        let b = best_later x xs s rest d (subst (λ (ts : List PlainSection). AllZip IsBestFor (searches (x ∷ xs)) ts) is h) in
        record { result = subst (λ (c : Bool). IsResultBy c seed x r) (sym d) (subst (IsBest x.problem) (sym told) b.0); later = b.1 }

tells_chooses : (seed : List ℕ) (xs : List PlainStep) (ss : List PlainSection) (found : List PlainFound) (o : Option PlainFound) → AllZip IsBestFor (searches xs) ss → HasAnswer seed xs ss found o → Chooses seed xs found o
tells_chooses seed [] ss found o h k = k
tells_chooses seed (x ∷ xs) ss found o h (r, rest, comes, way) =
    let n = next_of seed x xs ss r rest comes h in (
      r,
      n.result,
      elim way [
        | inl here ↦ inl here
        | inr on ↦ inr (on.0, tells_chooses seed xs rest (found ++ found_of x r) o n.later on.1)
      ],
    )

step_in : (steps : List PlainStep) (x : PlainStep) → AreSteps steps → Contains steps x → IsStep x
step_in steps x are there = All-contains IsStep steps x (All-from_recursion IsStep steps are) there

front_in : (steps upto rest : List PlainStep) (x : PlainStep) → steps ≡ upto ++ rest → Contains upto x → Contains steps x
front_in steps upto rest x e there = subst (λ (xs : List PlainStep). Contains xs x) (sym e) (Contains-append_left upto rest x there)

searches_in : (xs : List PlainStep) (x : PlainStep) → Contains (searches xs) x → Contains xs x
searches_in [] x h = absurd (none_in x h)
searches_in (y ∷ ys) x h = by (is_drawn y.stage) (λ later. searches_in ys x later) refl
  where
    by : (b : Bool) → (Contains (searches ys) x → Contains ys x) → is_drawn y.stage ≡ b → Contains (y ∷ ys) x
    by true deeper d = in_tail y ys x (deeper (subst (λ (zs : List PlainStep). Contains zs x) (searches_draw y ys d) h))
    by false deeper d =
        elim (cons_cases y (searches ys) x (subst (λ (zs : List PlainStep). Contains zs x) (searches_search y ys d) h)) [
          | inl is ↦ subst (Contains (y ∷ ys)) is (head_in y ys)
          | inr later ↦ in_tail y ys x (deeper later)
        ]

-- the sections of the searches of first steps have the best of their problems
pub best_of_front : (p : PlainPlan) (upto rest : List PlainStep) (sections : List PlainSection) → AreSteps (steps_of p) → steps_of p ≡ upto ++ rest → AreFor (searches upto) sections → AreProved (steps_of p) sections → AllZip IsBestFor (searches upto) sections
best_of_front p upto rest sections steps e h k =
    let proved = proved_front (steps_of p) upto rest sections e h k in
    best_zip (searches upto) sections (λ x there. step_in (steps_of p) x steps (front_in (steps_of p) upto rest x e (searches_in upto x there))) proved

-- what the first steps come to by their sections is their answer
pub tells_answer : (p : PlainPlan) (upto rest : List PlainStep) (sections : List PlainSection) (o : Option PlainFound) → AreSteps (steps_of p) → steps_of p ≡ upto ++ rest → AreWhole upto → AreFor (searches upto) sections → AreProved (steps_of p) sections →
    HasAnswer p.request.seed upto sections [] o → IsAnswer p.request.seed upto o
tells_answer p upto rest sections o steps e whole h k told =
    let proved = proved_front (steps_of p) upto rest sections e h k in
    let best = best_zip (searches upto) sections (λ x there. step_in (steps_of p) x steps (front_in (steps_of p) upto rest x e (searches_in upto x there))) proved in
    chosen_answers p.request.seed upto o whole (tells_chooses p.request.seed upto sections [] o best told)

-- ---- the answer of the first steps is told

record HasSection (x : PlainStep) (ss : List PlainSection) : Type 0 where
  section : PlainSection
  there : Contains ss section
  named : IsNamedAs x section
  best : IsBestFor x section

section_of : (xs : List PlainStep) (ss : List PlainSection) (x : PlainStep) → AreFor xs ss → AllZip IsBestFor xs ss → Contains xs x → HasSection x ss
section_of [] ss x h k there = absurd (none_in x there)
section_of (y ∷ ys) [] x h k there = absurd h
section_of (y ∷ ys) (s ∷ ss) x h k there =
    elim (cons_cases y ys x there) [
      | inl is ↦ record {
        section = s;
        there = head_in s ss;
        named = subst (λ (z : PlainStep). IsNamedAs z s) is h.0;
        best = subst (λ (z : PlainStep). IsBestFor z s) is k.0;
      }
      | inr later ↦ (let r = section_of ys ss x h.1 k.1 later in record { section = r.section; there = in_tail s ss r.section r.there; named = r.named; best = r.best })
    ]

-- each of the first steps comes to what is told of it
told_of : (seed : List ℕ) (upto : List PlainStep) (sections : List PlainSection) (x : PlainStep) (r : Option (List ℕ)) → AreFor (searches upto) sections → AllZip IsBestFor (searches upto) sections → Contains upto x → IsResult seed x r → IsTold seed sections x r
told_of seed upto sections x r h k there result = by (is_drawn x.stage) refl result
  where
    by : (b : Bool) → is_drawn x.stage ≡ b → IsResultBy b seed x r → IsToldBy b seed sections x r
    by true d e = e
    by false d best =
        let s = section_of (searches upto) sections x h k (in_filter (λ (y : PlainStep). not (is_drawn y.stage)) upto x there (ap not d)) in
        (s.section, s.there, s.named, one_best_is x.problem s.section.answer r s.best best)

pub told_none_of : (seed : List ℕ) (upto : List PlainStep) (sections : List PlainSection) (xs : List PlainStep) → AreFor (searches upto) sections → AllZip IsBestFor (searches upto) sections → ((x : PlainStep) → Contains xs x → Contains upto x) → AllByRecursion (HasNone seed) xs → AllByRecursion (IsToldNone seed sections) xs
told_none_of seed upto sections [] h k within none = tt
told_none_of seed upto sections (x ∷ xs) h k within none =
    (told_of seed upto sections x None h k (within x (head_in x xs)) none.0, told_none_of seed upto sections xs h k (λ y there. within y (in_tail x xs y there)) none.1)

told_all_of : (seed : List ℕ) (upto : List PlainStep) (sections : List PlainSection) (xs : List PlainStep) (fs : List PlainFound) → AreFor (searches upto) sections → AllZip IsBestFor (searches upto) sections → ((x : PlainStep) → Contains xs x → Contains upto x) → AreResults seed xs fs → AreTold seed sections xs fs
told_all_of seed upto sections [] fs h k within results = results
told_all_of seed upto sections (x ∷ xs) fs h k within (r, rr, (gs, parts, more)) =
    (r, told_of seed upto sections x r h k (within x (head_in x xs)) rr, (gs, parts, told_all_of seed upto sections xs gs h k (λ y there. within y (in_tail x xs y there)) more))

-- the result of the first steps is that of all, and told
pub told_first : (seed : List ℕ) (steps upto rest : List PlainStep) (sections : List PlainSection) (f : PlainFound) → steps ≡ upto ++ rest → AreFor (searches upto) sections → AllZip IsBestFor (searches upto) sections → IsFirstTaken seed upto f → IsFirstTold seed sections steps f
told_first seed steps upto rest sections f e h k first =
    let column_in : (x : PlainStep) → Contains first.column x → Contains upto x =
    λ x there. subst (λ (ys : List PlainStep). Contains ys x) (sym first.parts) (Contains-append_right first.front (first.column ++ first.rest) x (Contains-append_left first.column first.rest x there)) in
    let front_there : (x : PlainStep) → Contains first.front x → Contains upto x =
    λ x there. subst (λ (ys : List PlainStep). Contains ys x) (sym first.parts) (Contains-append_left first.front (first.column ++ first.rest) x there) in
    record {
      front = first.front;
      column = first.column;
      rest = first.rest ++ rest;
      parts = e ∙ (ap (λ (ys : List PlainStep). ys ++ rest) first.parts ∙ (append_assoc first.front (first.column ++ first.rest) rest ∙ ap (λ (ys : List PlainStep). first.front ++ ys) (append_assoc first.column first.rest rest)));
      whole = first.whole;
      none = told_none_of seed upto sections first.front h k front_there first.none;
      one = first.one;
      found = first.found;
      results = told_all_of seed upto sections first.column first.found h k column_in first.results;
      taken = first.taken;
    }

-- the answer of the first steps, where there is one, is that of all
pub answer_of_all : (seed : List ℕ) (steps upto rest : List PlainStep) (f : PlainFound) → steps ≡ upto ++ rest → IsFirstTaken seed upto f → IsFirstTaken seed steps f
answer_of_all seed steps upto rest f e first =
    record {
      front = first.front;
      column = first.column;
      rest = first.rest ++ rest;
      parts = e ∙ (ap (λ (ys : List PlainStep). ys ++ rest) first.parts ∙ (append_assoc first.front (first.column ++ first.rest) rest ∙ ap (λ (ys : List PlainStep). first.front ++ ys) (append_assoc first.column first.rest rest)));
      whole = first.whole;
      none = first.none;
      one = first.one;
      found = first.found;
      results = first.results;
      taken = first.taken;
    }

-- ---- what a report is to name

-- the answer is this result
pub named_here : (p : PlainPlan) (f : PlainFunded) (upto rest : List PlainStep) (sections : List PlainSection) (g : PlainFound) → AreSteps (steps_of p) → steps_of p ≡ upto ++ rest → AreFor (searches upto) sections → AreProved (steps_of p) sections → AreSearched (steps_of p) sections →
    IsAnswer p.request.seed upto (Some g) → (NamesPayment f (funded_at p (mark_of g.stage) g) ↔ IsNamedAnswer p (Funded f) sections)
named_here p f upto rest sections g steps e h k searched first =
    let proved = proved_front (steps_of p) upto rest sections e h k in
    let best = best_zip (searches upto) sections (λ x there. step_in (steps_of p) x steps (front_in (steps_of p) upto rest x e (searches_in upto x there))) proved in (
      λ names. (Some g, told_first p.request.seed (steps_of p) upto rest sections g e h best first, names),
      λ named. same named,
    )
  where
    same : IsNamedAnswer p (Funded f) sections → NamesPayment f (funded_at p (mark_of g.stage) g)
    same (o, told, names) =
        let one : o ≡ Some g = one_answer_is p.request.seed (steps_of p) o (Some g) (told_answer p sections o steps searched told) (answer_of_all p.request.seed (steps_of p) upto rest g e first) in
        subst (λ (q : Option PlainFound). NamesOutcome (Funded f) (by_end p (endings.Ended q))) one names

-- the presets alone are marked so
pub given_named : (p : PlainPlan) (f : PlainFunded) (o : Outcome) → by_end p (endings.Ended None) ≡ o → NamesOutcome (Funded f) o → f.mark ≡ mark.Given
given_named p f (outcomes.Funded g) e names = names.mark ∙ given_mark p g (sym (ended_none p) ∙ e)
given_named p f outcomes.NoSelection e names = absurd names
given_named p f outcomes.Unfinished e names = absurd names

-- no step of the named row and stage is among the plan's
pub never_without : (p : PlainPlan) (f : PlainFunded) (sections : List PlainSection) → AreSteps (steps_of p) → AreSearched (steps_of p) sections → (f.mark ≡ mark.Given → ⊥) → (HasStepAt (steps_of p) f.row f.stage → ⊥) → IsNamedAnswer p (Funded f) sections → ⊥
never_without p f sections steps searched apart none (None, told, names) = apart (given_named p f (by_end p (endings.Ended None)) refl names)
never_without p f sections steps searched apart none (Some g, told, names) =
    let source = taken_step p.request.seed sections told.column told.found told.taken.front told.taken.rest g told.results told.taken.parts in
    let there : Contains (steps_of p) source.0 = subst (λ (ys : List PlainStep). Contains ys source.0) (sym told.parts) (Contains-append_right told.front (told.column ++ told.rest) source.0 (Contains-append_left told.column told.rest source.0 source.1)) in
    none (source.0, there, sym source.2 ∙ sym names.row, sym source.3 ∙ sym names.stage)
  where
    taken_step : (seed : List ℕ) (sections : List PlainSection) (xs : List PlainStep) (fs front rest : List PlainFound) (g : PlainFound) → AreTold seed sections xs fs → fs ≡ front ++ g ∷ rest → (x : PlainStep) × Contains xs x × (g.row ≡ x.row) × (g.stage ≡ x.stage)
    taken_step seed sections [] fs [] rest g h e = absurd (let x = sym h ∙ e in cc)
    taken_step seed sections [] fs (q ∷ front) rest g h e = absurd (let x = sym h ∙ e in cc)
    taken_step seed sections (x ∷ xs) fs front rest g (None, told, (gs, parts, more)) e =
        let r = taken_step seed sections xs gs front rest g more (sym parts ∙ e) in (r.0, in_tail x xs r.0 r.1, r.2, r.3)
    taken_step seed sections (x ∷ xs) fs [] rest g (Some q, told, (gs, parts, more)) e =
        (x, head_in x xs, (let y = sym parts ∙ e in cc), (let y = sym parts ∙ e in cc))
    taken_step seed sections (x ∷ xs) fs (t ∷ front) rest g (Some q, told, (gs, parts, more)) e =
        let r = taken_step seed sections xs gs front rest g more (let y = sym parts ∙ e in cc) in (r.0, in_tail x xs r.0 r.1, r.2, r.3)

-- the first steps have no result, and one of them is of the named row and stage
pub never_none : (p : PlainPlan) (f : PlainFunded) (upto rest : List PlainStep) (sections : List PlainSection) → AreSteps (steps_of p) → AreSearched (steps_of p) sections → steps_of p ≡ upto ++ rest → (f.mark ≡ mark.Given → ⊥) → HasStepAt upto f.row f.stage → AllByRecursion (HasNone p.request.seed) upto → IsNamedAnswer p (Funded f) sections → ⊥
never_none p f upto rest sections steps searched e apart at none (None, told, names) = apart (given_named p f (by_end p (endings.Ended None)) refl names)
never_none p f upto rest sections steps searched e apart (x, there, at_row, at_stage) none (Some g, told, names) =
    let own = own_result p g (told_answer p sections (Some g) steps searched told) in
    let mine : IsResult p.request.seed x None = All-contains (HasNone p.request.seed) upto x (All-from_recursion (HasNone p.request.seed) upto none) there in
    let row : x.row ≡ g.row = at_row ∙ names.row in
    let stage : x.stage ≡ g.stage = at_stage ∙ names.stage in
    let problem : x.problem ≡ own.step.problem =
    own_problem p x (front_in (steps_of p) upto rest x e there)
    ∙ (ap (λ (n : ℕ). problem_at p (row_of p n) x.stage) row ∙ (ap (λ (s : Stage). problem_at p (row_of p g.row) s) stage ∙ sym own.problem)) in
    let drawn : is_drawn own.step.stage ≡ is_drawn x.stage = sym own.drawn ∙ ap is_drawn (sym stage) in
    let theirs : IsResult p.request.seed x (Some g.places) = moved (is_drawn own.step.stage) (is_drawn x.stage) own.step x (Some g.places) drawn problem own.result in
    let both : ◌≡◌ {A = Option (List ℕ)} None (Some g.places) = one_result p.request.seed x None (Some g.places) mine theirs in
    cc
  where
    moved : (a b : Bool) (y x : PlainStep) (r : Option (List ℕ)) → a ≡ b → x.problem ≡ y.problem → IsResultBy a p.request.seed y r → IsResultBy b p.request.seed x r
    moved true true y x r same problem h = h ∙ ap (λ (q : PlainProblem). draw_of q p.request.seed) (sym problem)
    moved false false y x r same problem h = subst (λ (q : PlainProblem). IsBest q r) (sym problem) h
    moved true false y x r same problem h = absurd (cc)
    moved false true y x r same problem h = absurd (cc)
