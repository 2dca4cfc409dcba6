-- What accepted sections tell of steps is so.
use Rattle.std.specs.Prelude.{ℕ, ◌≡◌, not, Bool, true, false, List, [], ◌∷◌, ◌++◌, Contains, Option, Some, None}
use Rattle.std.specs.List.{AllByRecursion, AllZip}
use Rattle.std.proofs.Common.{refl, sym, ap, subst, inl, inr, ◌∙◌, append_assoc}
use Rattle.std.proofs.lemmas.List.{append-nil}
use Rattle.std.proofs.lemmas.List.Elements.{All-contains, All-from_recursion, Contains-append_left, Contains-append_right, filter-append}
use Rattle.closing_log.specs.Log.{PlainSection}
use Rattle.closing_log.specs.declared.log.Stage.{Stage}
use Rattle.closing_log.specs.declared.mark.Mark.{Mark}
use Rattle.closing_log.specs.declared.mark.Mark.TheVariants.{Exhausted, Partial, Drawn, Given}
use Rattle.fund_base.proofs.Lists.{cons_cases, in_tail}
use Rattle.fund_plan.proofs.SourceLaws.{own_problem}
use Rattle.fund_plan.specs.Chosen.{row_of}
use Rattle.fund_plan.specs.Steps.{problem_at, steps_of}
use Rattle.fund_steps.specs.Plan.{PlainPlan}
use Rattle.output_groups.proofs.Members.{from_filter, head_in, none_in}
use Rattle.pick_problem.proofs.SoundLaws.{accepted_best}
use Rattle.pick_problem.specs.Best.{IsBest}
use Rattle.pick_problem.specs.Problem.{PlainProblem}
use Rattle.search_run.specs.Answer.{AreResults, HasNone, IsAnswer, IsResult, IsResultBy}
use Rattle.search_run.specs.Found.{PlainFound}
use Rattle.search_run.specs.Searched.{searches}
use Rattle.search_run.specs.Step.{AreSteps, IsStep, PlainStep, is_drawn}
use Rattle.report_check.specs.Answer.{AreTold, IsTold, IsToldAnswer, IsToldBy, IsToldNone}
use Rattle.fund_report.specs.declared.report.Report.{Report}
use Rattle.fund_report.specs.declared.report.Report.TheVariants.{Funded, NoSelection, Unfinished}
use Rattle.report_check.specs.DueSections.{AreFor, AreForFirst, AreRight, AreRightBy, AreUpTo, IsNamedAs}
use Rattle.report_check.specs.Verdict.{HasLog}
use Rattle.report_check.specs.Proved.{AreProved, IsProvedFor}

-- ---- each section is that of a search

-- a search among these has the names of the section, and the letters of the section are accepted for it
record HasSearch (steps : List PlainStep) (s : PlainSection) : Type 0 where
  search : PlainStep
  there : Contains steps search
  named : IsNamedAs search s
  proved : IsProvedFor search s

search_later : (x : PlainStep) (xs : List PlainStep) (s : PlainSection) → HasSearch xs s → HasSearch (x ∷ xs) s
search_later x xs s h = record { search = h.search; there = in_tail x xs h.search h.there; named = h.named; proved = h.proved }

-- both lists begin the same list, and each stands over against the sections
search_at : (due front more rest : List PlainStep) (ss : List PlainSection) (s : PlainSection) → due ++ more ≡ front ++ rest →
    AllZip IsNamedAs due ss → AllZip IsProvedFor front ss → Contains ss s → HasSearch due s
search_at due front more rest [] s e h k there = absurd (none_in s there)
search_at [] front more rest (t ∷ ts) s e h k there = absurd h
search_at (x ∷ xs) [] more rest (t ∷ ts) s e h k there = absurd k
search_at (x ∷ xs) (y ∷ ys) more rest (t ∷ ts) s e h k there =
    let same : y ≡ x = cc in
    let tails : xs ++ more ≡ ys ++ rest = cc in
    elim (cons_cases t ts s there) [
      | inl is ↦ record {
        search = x;
        there = head_in x xs;
        named = subst (IsNamedAs x) is h.0;
        proved = subst (IsProvedFor x) is (subst (λ (z : PlainStep). IsProvedFor z t) same k.0);
      }
      | inr later ↦ search_later x xs s (search_at xs ys more rest ts s tails h.1 k.1 later)
    ]

-- ---- the sections that are due are those of the first searches

record IsFront (steps : List PlainStep) (sections : List PlainSection) : Type 0 where
  due : List PlainStep
  more : List PlainStep
  parts : searches steps ≡ due ++ more
  each : AreFor due sections

none_due : (steps : List PlainStep) (sections : List PlainSection) → sections ≡ [] → IsFront steps sections
none_due steps sections none = record { due = []; more = searches steps; parts = refl; each = subst (AreFor []) (sym none) tt }

front_up_to : (steps : List PlainStep) (row : ℕ) (stage : Stage) (due : List PlainStep) (sections : List PlainSection) → AreUpTo steps row stage due → AreFor due sections → IsFront steps sections
front_up_to steps row stage due sections h k =
    elim h [
      | inl at ↦
          let x = at.1 in
          let whole : steps ≡ at.0 ++ x.rest = x.parts ∙ (sym (append_assoc x.front x.column x.rest) ∙ ap (λ (xs : List PlainStep). xs ++ x.rest) (sym x.upto_is)) in
          record {
            due = due;
            more = searches x.rest;
            parts = ap searches whole ∙ (filter-append (λ (y : PlainStep). not (is_drawn y.stage)) at.0 x.rest ∙ ap (λ (xs : List PlainStep). xs ++ searches x.rest) (sym at.2));
            each = k;
          }
      | inr none ↦ record { due = []; more = searches steps; parts = refl; each = subst (λ (xs : List PlainStep). AreFor xs sections) none.1 k }
    ]

front_by : (m : Mark) (steps : List PlainStep) (row : ℕ) (stage : Stage) (sections : List PlainSection) → AreRightBy m steps row stage sections → IsFront steps sections
front_by Exhausted steps row stage sections h = front_up_to steps row stage h.0 sections h.1 h.2
front_by Drawn steps row stage sections h = front_up_to steps row stage h.0 sections h.1 h.2
front_by Given steps row stage sections h = none_due steps sections h
front_by Partial steps row stage sections (due, last, first) =
    record {
      due = first.front;
      more = first.rest ++ last.0 ∷ [];
      parts = last.1 ∙ (ap (λ (xs : List PlainStep). xs ++ last.0 ∷ []) first.parts ∙ append_assoc first.front first.rest (last.0 ∷ []));
      each = first.each;
    }

-- ---- what is told is so

-- each section is that of one of the steps
pub AreSearched : List PlainStep → List PlainSection → Type 0
AreSearched steps sections = (s : PlainSection) → Contains sections s → HasSearch steps s

searched_from : (steps : List PlainStep) (sections : List PlainSection) → IsFront steps sections → AreProved steps sections → AreSearched steps sections
unfolding AreSearched
searched_from steps sections h k s there =
    let at = search_at h.due k.front h.more k.rest sections s (sym h.parts ∙ k.parts) h.each k.each there in
    let in_searches : Contains (searches steps) at.search = subst (λ (xs : List PlainStep). Contains xs at.search) (sym h.parts) (Contains-append_left h.due h.more at.search at.there) in
    record {
      search = at.search;
      there = (from_filter (λ (y : PlainStep). not (is_drawn y.stage)) steps at.search in_searches).0;
      named = at.named;
      proved = at.proved;
    }

pub funded_searched : (m : Mark) (steps : List PlainStep) (row : ℕ) (stage : Stage) (sections : List PlainSection) → AreRightBy m steps row stage sections → AreProved steps sections → AreSearched steps sections
funded_searched m steps row stage sections h k = searched_from steps sections (front_by m steps row stage sections h) k

pub none_searched : (steps : List PlainStep) (sections : List PlainSection) → AreFor (searches steps) sections → AreProved steps sections → AreSearched steps sections
none_searched steps sections h k = searched_from steps sections (record { due = searches steps; more = []; parts = sym (append-nil (searches steps)); each = h }) k

-- the sections are those of the searches of first steps
pub front_searched : (steps upto rest : List PlainStep) (sections : List PlainSection) → steps ≡ upto ++ rest → AreFor (searches upto) sections → AreProved steps sections → AreSearched steps sections
front_searched steps upto rest sections e h k =
    searched_from steps sections
    (record {
      due = searches upto;
      more = searches rest;
      parts = ap searches e ∙ filter-append (λ (y : PlainStep). not (is_drawn y.stage)) upto rest;
      each = h;
    }) k

pub up_to_searched : (steps : List PlainStep) (row : ℕ) (stage : Stage) (due : List PlainStep) (sections : List PlainSection) → AreUpTo steps row stage due → AreFor due sections → AreProved steps sections → AreSearched steps sections
up_to_searched steps row stage due sections h k proved = searched_from steps sections (front_up_to steps row stage due sections h k) proved

-- two steps of a plan with one row and one stage have one problem
one_problem : (p : PlainPlan) (x y : PlainStep) (s : PlainSection) → Contains (steps_of p) x → Contains (steps_of p) y → IsNamedAs x s → IsNamedAs y s → y.problem ≡ x.problem
one_problem p x y s in_x in_y h k =
    let row : y.row ≡ x.row = sym k.row ∙ h.row in
    let stage : y.stage ≡ x.stage = sym k.stage ∙ h.stage in
    own_problem p y in_y
    ∙ (ap (λ (n : ℕ). problem_at p (row_of p n) y.stage) row
    ∙ (ap (λ (t : Stage). problem_at p (row_of p x.row) t) stage ∙ sym (own_problem p x in_x)))

told_by : (b : Bool) (p : PlainPlan) (sections : List PlainSection) (x : PlainStep) (r : Option (List ℕ)) → AreSteps (steps_of p) → AreSearched (steps_of p) sections → Contains (steps_of p) x →
    IsToldBy b p.request.seed sections x r → IsResultBy b p.request.seed x r
unfolding AreSearched
told_by true p sections x r steps searched there h = h
told_by false p sections x r steps searched there (s, in_log, named, answer) =
    let at = searched s in_log in
    let fine : IsStep at.search = All-contains IsStep (steps_of p) at.search (All-from_recursion IsStep (steps_of p) steps) at.there in
    let best : IsBest at.search.problem s.answer = accepted_best at.search.problem s.answer at.proved.0 fine.problem at.proved.2 in
    subst (IsBest x.problem) answer (subst (λ (q : PlainProblem). IsBest q s.answer) (one_problem p x at.search s there at.there named at.named) best)

told_is : (p : PlainPlan) (sections : List PlainSection) (x : PlainStep) (r : Option (List ℕ)) → AreSteps (steps_of p) → AreSearched (steps_of p) sections → Contains (steps_of p) x →
    IsTold p.request.seed sections x r → IsResult p.request.seed x r
told_is p sections x r steps searched there h = told_by (is_drawn x.stage) p sections x r steps searched there h

told_none : (p : PlainPlan) (sections : List PlainSection) (xs : List PlainStep) → AreSteps (steps_of p) → AreSearched (steps_of p) sections → ((x : PlainStep) → Contains xs x → Contains (steps_of p) x) →
    AllByRecursion (IsToldNone p.request.seed sections) xs → AllByRecursion (HasNone p.request.seed) xs
told_none p sections [] steps searched within h = tt
told_none p sections (x ∷ xs) steps searched within h =
    (told_is p sections x None steps searched (within x (head_in x xs)) h.0, told_none p sections xs steps searched (λ y there. within y (in_tail x xs y there)) h.1)

told_results : (p : PlainPlan) (sections : List PlainSection) (xs : List PlainStep) (fs : List PlainFound) → AreSteps (steps_of p) → AreSearched (steps_of p) sections → ((x : PlainStep) → Contains xs x → Contains (steps_of p) x) →
    AreTold p.request.seed sections xs fs → AreResults p.request.seed xs fs
told_results p sections [] fs steps searched within h = h
told_results p sections (x ∷ xs) fs steps searched within (r, told, (gs, parts, more)) =
    (r, told_is p sections x r steps searched (within x (head_in x xs)) told, (gs, parts, told_results p sections xs gs steps searched (λ y there. within y (in_tail x xs y there)) more))

-- the answer that sections tell is the answer
pub told_answer : (p : PlainPlan) (sections : List PlainSection) (o : Option PlainFound) → AreSteps (steps_of p) → AreSearched (steps_of p) sections →
    IsToldAnswer p.request.seed sections (steps_of p) o → IsAnswer p.request.seed (steps_of p) o
told_answer p sections None steps searched h = told_none p sections (steps_of p) steps searched (λ x there. there) h
told_answer p sections (Some f) steps searched h =
    let within : (xs : List PlainStep) → h.front ++ (h.column ++ h.rest) ≡ xs → xs ≡ steps_of p → (x : PlainStep) → Contains (h.front ++ (h.column ++ h.rest)) x → Contains (steps_of p) x =
    λ xs e d x there. subst (λ (ys : List PlainStep). Contains ys x) (e ∙ d) there in
    record {
      front = h.front;
      column = h.column;
      rest = h.rest;
      parts = h.parts;
      whole = h.whole;
      none = told_none p sections h.front steps searched (λ x there. within (steps_of p) (sym h.parts) refl x (Contains-append_left h.front (h.column ++ h.rest) x there)) h.none;
      one = h.one;
      found = h.found;
      results = told_results p sections h.column h.found steps searched
          (λ x there. within (steps_of p) (sym h.parts) refl x (Contains-append_right h.front (h.column ++ h.rest) x (Contains-append_left h.column h.rest x there))) h.results;
      taken = h.taken;
    }

-- the sections that are due beside a report are those of the first searches
first_of : (steps : List PlainStep) (sections : List PlainSection) → IsFront steps sections → AreForFirst (searches steps) sections
first_of steps sections h = record { front = h.due; rest = h.more; parts = h.parts; each = h.each }

pub right_first : (steps : List PlainStep) (r : Report) (sections : List PlainSection) → HasLog r → AreRight steps r sections → AreForFirst (searches steps) sections
right_first steps (Funded f) sections log h = first_of steps sections (front_by f.mark steps f.row f.stage sections h)
right_first steps (NoSelection tries) sections log h = first_of steps sections (record { due = searches steps; more = []; parts = sym (append-nil (searches steps)); each = h })
right_first steps (Unfinished tries row stage) sections log h = absurd log
