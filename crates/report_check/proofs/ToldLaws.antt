-- What first steps come to by their sections decides what a report is to name.
use Rattle.std.specs.Prelude.{ℕ, ◌≡◌, ◌≢◌, ◌↔◌, ◌<◌, Result, Ok, Err, Bool, true, false, cond, List, [], ◌∷◌, ◌++◌, Contains, IsTrue, IfOk, length, take, Option, Some, None}
use Rattle.std.specs.List.{AllZip}
use Rattle.std.proofs.Common.{refl, sym, ap, subst, inl, inr, ◌∙◌, drop, arith}
use Rattle.std.proofs.lemmas.List.{append-nil, nil_from_length, take-append-drop}
use Rattle.std.proofs.lemmas.List.Elements.{Contains-append_right}
use Rattle.closing_log.specs.Log.{PlainSection}
use Rattle.closing_log.specs.declared.log.Stage.{Stage}
use Rattle.closing_log.specs.declared.mark.Mark.{Mark}
use Rattle.closing_log.specs.declared.mark.Mark.TheVariants as mark
use Rattle.fund_plan.specs.Outcome.{by_end, given_of}
use Rattle.fund_plan.specs.Steps.{is_given, steps_of}
use Rattle.fund_plan.specs.declared.outcome.Outcome.TheVariants as outcomes
use Rattle.fund_report.specs.PlainFunded.{PlainFunded}
use Rattle.fund_report.specs.declared.report.Report.{Report}
use Rattle.fund_report.specs.declared.report.Report.TheVariants.{Funded, NoSelection}
use Rattle.fund_steps.proofs.WholeLaws.{given_none, steps_whole}
use Rattle.fund_steps.specs.Basis.{basis_of}
use Rattle.fund_steps.specs.Plan.{PlainPlan}
use Rattle.pick_problem.specs.Admissible.{IsFit}
use Rattle.search_run.proofs.AnswerLaws.{one_answer_is}
use Rattle.search_run.specs.Answer.{AreWhole, IsAnswer}
use Rattle.search_run.specs.Found.{PlainFound}
use Rattle.search_run.specs.Searched.{searches}
use Rattle.search_run.specs.Stands.{IsEndOf}
use Rattle.search_run.specs.Step.{AreSteps, PlainStep, is_drawn}
use Rattle.search_run.specs.declared.ending.End.TheVariants as ends
use Rattle.report_check.specs.Answer.{IsAnswered, IsAnsweredBy, IsNamedAnswer, IsToldAnswer, NamesOutcome}
use Rattle.report_check.specs.Backing.{AreBacked, IsNamedBy}
use Rattle.report_check.specs.DueSections.{AreFor, AreRight, AreRightBy, AreUpTo, HasStepAt, IsUpTo}
use Rattle.report_check.specs.Proved.{AreProved}
use Rattle.report_check.specs.LogAnswer.{AreFit, HasAnswer}
use Rattle.report_check.proofs.AnsweredLaws.{IsBestFor, answer_of_all, best_of_front, given_named, named_here, never_none, never_without, tells_answer, told_first, told_none_of}
use Rattle.report_check.proofs.BackedLaws.{AreSearched, front_searched, told_answer, up_to_searched}
use Rattle.report_check.proofs.OneLaws.{one_up_to, up_to_has}
use Rattle.report_check.proofs.ResultLaws.{answer_ends, best_fits}
use Rattle.report_check.proofs.UpToLaws.{column_whole, whole_both}

-- ---- what is backed

searched : (p : PlainPlan) (upto : List PlainStep) (sections : List PlainSection) → AreBacked p upto sections → AreSearched (steps_of p) sections
searched p upto sections h = front_searched (steps_of p) upto h.rest sections h.parts h.due h.proved

bests : (p : PlainPlan) (upto : List PlainStep) (sections : List PlainSection) → AreBacked p upto sections → AllZip IsBestFor (searches upto) sections
bests p upto sections h = best_of_front p upto h.rest sections h.fine h.parts h.due h.proved

fits : (xs : List PlainStep) (ss : List PlainSection) → AllZip IsBestFor xs ss → AllZip (λ (x : PlainStep) (s : PlainSection). IsFit x.problem s.answer) xs ss
fits [] [] h = tt
fits [] (s ∷ ss) h = absurd h
fits (x ∷ xs) [] h = absurd h
fits (x ∷ xs) (s ∷ ss) h = (best_fits x s.answer h.0, fits xs ss h.1)

pub backed_fit : (p : PlainPlan) (upto : List PlainStep) (sections : List PlainSection) → AreBacked p upto sections → AreFit upto sections
backed_fit p upto sections h = fits (searches upto) sections (bests p upto sections h)

pub backed_answer : (p : PlainPlan) (upto : List PlainStep) (sections : List PlainSection) (o : Option PlainFound) → AreBacked p upto sections → HasAnswer p.request.seed upto sections [] o → IsAnswer p.request.seed upto o
backed_answer p upto sections o h told = tells_answer p upto h.rest sections o h.fine h.parts h.whole h.due h.proved told

ends_by : (p : PlainPlan) (upto rest : List PlainStep) (o : Option PlainFound) → AreSteps (steps_of p) → steps_of p ≡ upto ++ rest → IsAnswer p.request.seed upto o → IsEndOf (steps_of p) (ends.Ended o)
ends_by p upto rest None fine e h = tt
ends_by p upto rest (Some f) fine e h = answer_ends p.request.seed (steps_of p) (Some f) fine (answer_of_all p.request.seed (steps_of p) upto rest f e h)

pub backed_ends : (p : PlainPlan) (upto : List PlainStep) (sections : List PlainSection) (o : Option PlainFound) → AreBacked p upto sections → HasAnswer p.request.seed upto sections [] o → IsEndOf (steps_of p) (ends.Ended o)
backed_ends p upto sections o h told = ends_by p upto h.rest o h.fine h.parts (backed_answer p upto sections o h told)

-- ---- all steps

pub whole_backed : (p : PlainPlan) (sections : List PlainSection) → AreSteps (steps_of p) → AreFor (searches (steps_of p)) sections → AreProved (steps_of p) sections → AreBacked p (steps_of p) sections
whole_backed p sections fine due proved = record { fine = fine; rest = []; parts = sym (append-nil (steps_of p)); whole = steps_whole (basis_of p); due = due; proved = proved }

told_whole : (p : PlainPlan) (sections : List PlainSection) (o : Option PlainFound) → AreBacked p (steps_of p) sections → IsAnswer p.request.seed (steps_of p) o → IsToldAnswer p.request.seed sections (steps_of p) o
told_whole p sections None h answer = told_none_of p.request.seed (steps_of p) sections (steps_of p) h.due (bests p (steps_of p) sections h) (λ x there. there) answer
told_whole p sections (Some f) h answer = told_first p.request.seed (steps_of p) (steps_of p) h.rest sections f h.parts h.due (bests p (steps_of p) sections h) answer

pub whole_named : (p : PlainPlan) (r : Report) (sections : List PlainSection) (b : Bool) → AreBacked p (steps_of p) sections → IsNamedBy p (steps_of p) r b → (IsTrue b ↔ IsNamedAnswer p r sections)
whole_named p r sections b h (o, answer, names) =
    (λ t. (o, told_whole p sections o h answer, names.0 t), λ named. names.1 (same named))
  where
    same : IsNamedAnswer p r sections → NamesOutcome r (by_end p (ends.Ended o))
    same (q, told, named) =
        let one : q ≡ o = one_answer_is p.request.seed (steps_of p) q o (told_answer p sections q h.fine (searched p (steps_of p) sections h) told) answer in
        subst (λ (x : Option PlainFound). NamesOutcome r (by_end p (ends.Ended x))) one named

-- ---- up to a column

column_is : (steps : List PlainStep) (row : ℕ) (stage : Stage) (upto due : List PlainStep) (sections : List PlainSection) → IsUpTo steps row stage upto → AreUpTo steps row stage due → AreFor due sections → AreFor (searches upto) sections
column_is steps row stage upto due sections at (inl (other, there, is)) h =
    subst (λ (xs : List PlainStep). AreFor xs sections) (is ∙ ap searches (one_up_to steps row stage other upto there at)) h
column_is steps row stage upto due sections at (inr (none, is)) h = absurd (none (up_to_has steps row stage upto at))

whole_upto : (steps : List PlainStep) (row : ℕ) (stage : Stage) (upto : List PlainStep) → IsUpTo steps row stage upto → AreWhole upto
whole_upto steps row stage upto at = subst AreWhole (sym at.upto_is) (whole_both at.front at.column at.whole (column_whole at.column at.one))

pub column_backed : (p : PlainPlan) (row : ℕ) (stage : Stage) (n : ℕ) (due : List PlainStep) (sections : List PlainSection) → AreSteps (steps_of p) → IsUpTo (steps_of p) row stage (take n (steps_of p)) → AreUpTo (steps_of p) row stage due → AreFor due sections → AreProved (steps_of p) sections → AreBacked p (take n (steps_of p)) sections
column_backed p row stage n due sections fine at upto h proved = record {
  fine = fine;
  rest = drop n (steps_of p);
  parts = sym (take-append-drop n (steps_of p));
  whole = whole_upto (steps_of p) row stage (take n (steps_of p)) at;
  due = column_is (steps_of p) row stage (take n (steps_of p)) due sections at upto h;
  proved = proved;
}

column_has : (steps : List PlainStep) (row : ℕ) (stage : Stage) (upto : List PlainStep) → IsUpTo steps row stage upto → HasStepAt upto row stage
column_has steps row stage upto at =
    let x = at.has.0 in
    (x, subst (λ (xs : List PlainStep). Contains xs x) (sym at.upto_is) (Contains-append_right at.front at.column x at.has.1), at.has.2, at.has.3)

-- the presets alone are marked as given
given_only : (p : PlainPlan) (f : PlainFunded) → f.mark ≢ mark.Given → NamesOutcome (Funded f) (by_end p (ends.Ended None)) → ⊥
given_only p f apart h = apart (given_named p f (by_end p (ends.Ended None)) refl h)

pub column_named : (p : PlainPlan) (f : PlainFunded) (upto : List PlainStep) (sections : List PlainSection) (b : Bool) → AreBacked p upto sections → IsUpTo (steps_of p) f.row f.stage upto → f.mark ≢ mark.Given → IsNamedBy p upto (Funded f) b → (IsTrue b ↔ IsNamedAnswer p (Funded f) sections)
column_named p f upto sections b h at apart (None, answer, names) = (
  λ t. absurd (given_only p f apart (names.0 t)),
  λ named. absurd (never_none p f upto h.rest sections h.fine (searched p upto sections h) h.parts apart (column_has (steps_of p) f.row f.stage upto at) answer named),
)
column_named p f upto sections b h at apart (Some g, answer, names) =
    let same = named_here p f upto h.rest sections g h.fine h.parts h.due h.proved (searched p upto sections h) answer in
    (λ t. same.0 (names.0 t), λ named. names.1 (same.1 named))

-- there is no such column
pub no_column : (p : PlainPlan) (f : PlainFunded) (due : List PlainStep) (sections : List PlainSection) → AreSteps (steps_of p) → AreUpTo (steps_of p) f.row f.stage due → AreFor due sections → AreProved (steps_of p) sections → f.mark ≢ mark.Given → (HasStepAt (steps_of p) f.row f.stage → ⊥) → IsNamedAnswer p (Funded f) sections → ⊥
no_column p f due sections fine upto h proved apart none named =
    never_without p f sections fine (up_to_searched (steps_of p) f.row f.stage due sections upto h proved) apart none named

-- ---- the presets alone

never_given : (b : Bool) → cond b mark.Drawn mark.Exhausted ≡ mark.Given → ⊥
never_given true e = cc
never_given false e = cc

-- where there are steps, the presets alone aren't the answer
pub given_unnamed : (p : PlainPlan) (f : PlainFunded) (sections : List PlainSection) → steps_of p ≢ [] → f.mark ≡ mark.Given → IsNamedAnswer p (Funded f) sections → ⊥
given_unnamed p f sections some given (Some g, told, names) = never_given (is_drawn g.stage) (sym names.mark ∙ given)
given_unnamed p f sections some given (None, told, names) = by (is_given p) refl names
  where
    by : (b : Bool) → is_given p ≡ b → NamesOutcome (Funded f) (cond b (given_of p) outcomes.NoSelection) → ⊥
    by true e h = some (given_none (basis_of p) e)
    by false e h = h

-- ---- as the code tells it

pub whole_named_in : (p : PlainPlan) (r : Report) (steps : List PlainStep) (sections : List PlainSection) (b : Bool) → steps ≡ steps_of p → AreBacked p steps sections → IsNamedBy p steps r b → (IsTrue b ↔ IsNamedAnswer p r sections)
whole_named_in p r steps sections b e h k =
    whole_named p r sections b (subst (λ (xs : List PlainStep). AreBacked p xs sections) e h) (subst (λ (xs : List PlainStep). IsNamedBy p xs r b) e k)

pub none_backed : (p : PlainPlan) (tries : ℕ) (r : Report) (steps : List PlainStep) (sections : List PlainSection) → steps ≡ steps_of p → AreSteps steps → r ≡ NoSelection tries → AreRight steps r sections → AreProved steps sections → AreBacked p steps sections
none_backed p tries r steps sections e fine is right proved =
    let At : List PlainStep → Type 0 = λ xs. AreSteps xs × AreFor (searches xs) sections × AreProved xs sections in
    let k : At (steps_of p) = subst At e (fine, subst (λ (q : Report). AreRight steps q sections) is right, proved) in
    subst (λ (xs : List PlainStep). AreBacked p xs sections) (sym e) (whole_backed p sections k.0 k.1 k.2)

pub given_backed : (p : PlainPlan) (f : PlainFunded) (r : Report) (steps : List PlainStep) (sections : List PlainSection) → steps ≡ steps_of p → AreSteps steps → r ≡ Funded f → f.mark ≡ mark.Given → length steps ≡ 0 → AreRight steps r sections → AreProved steps sections → AreBacked p steps sections
given_backed p f r steps sections e fine is given none right proved =
    let ended : steps ≡ [] = nil_from_length steps none in
    let empty : sections ≡ [] = subst (λ (m : Mark). AreRightBy m steps f.row f.stage sections) given (subst (λ (q : Report). AreRight steps q sections) is right) in
    let due : AreFor (searches steps) sections = subst (λ (xs : List PlainStep). AreFor (searches xs) sections) (sym ended) (subst (AreFor []) (sym empty) tt) in
    let At : List PlainStep → Type 0 = λ xs. AreSteps xs × AreFor (searches xs) sections × AreProved xs sections in
    let k : At (steps_of p) = subst At e (fine, due, proved) in
    subst (λ (xs : List PlainStep). AreBacked p xs sections) (sym e) (whole_backed p sections k.0 k.1 k.2)

pub column_never : (p : PlainPlan) (f : PlainFunded) (r : Report) (steps : List PlainStep) (row : ℕ) (stage : Stage) (due : List PlainStep) (sections : List PlainSection) → steps ≡ steps_of p → AreSteps steps → r ≡ Funded f → row ≡ f.row → stage ≡ f.stage → f.mark ≢ mark.Given → AreUpTo steps f.row f.stage due → AreFor due sections → AreProved steps sections →
    (HasStepAt steps row stage → ⊥) → IsNamedAnswer p r sections → ⊥
column_never p f r steps row stage due sections e fine is at_row at_stage apart upto h proved none named =
    let At : List PlainStep → Type 0 = λ xs. AreSteps xs × AreUpTo xs f.row f.stage due × AreProved xs sections × (HasStepAt xs f.row f.stage → ⊥) in
    let none_too : HasStepAt steps f.row f.stage → ⊥ = λ (x, there, a, b). none (x, there, a ∙ sym at_row, b ∙ sym at_stage) in
    let k : At (steps_of p) = subst At e (fine, upto, proved, none_too) in
    no_column p f due sections k.0 k.1 h k.2 apart k.3 (subst (λ (q : Report). IsNamedAnswer p q sections) is named)

-- the steps up to the column that the report names
named_upto : (steps : List PlainStep) (f : PlainFunded) (row : ℕ) (stage : Stage) (upto : List PlainStep) → row ≡ f.row → stage ≡ f.stage → IsUpTo steps row stage upto → IsUpTo steps f.row f.stage upto
named_upto steps f row stage upto a b h = subst (λ (s : Stage). IsUpTo steps f.row s upto) b (subst (λ (n : ℕ). IsUpTo steps n stage upto) a h)

pub column_backed_in : (p : PlainPlan) (f : PlainFunded) (steps front : List PlainStep) (row : ℕ) (stage : Stage) (n : ℕ) (due : List PlainStep) (sections : List PlainSection) → steps ≡ steps_of p → AreSteps steps → front ≡ take n steps → row ≡ f.row → stage ≡ f.stage → IsUpTo steps row stage (take n steps) → AreUpTo steps f.row f.stage due → AreFor due sections → AreProved steps sections → AreBacked p front sections
column_backed_in p f steps front row stage n due sections e fine is a b at upto h proved =
    let At : List PlainStep → Type 0 = λ xs. AreSteps xs × IsUpTo xs f.row f.stage (take n xs) × AreUpTo xs f.row f.stage due × AreProved xs sections in
    let k : At (steps_of p) = subst At e (fine, named_upto steps f row stage (take n steps) a b at, upto, proved) in
    subst (λ (xs : List PlainStep). AreBacked p xs sections) (sym (is ∙ ap (take n) e)) (column_backed p f.row f.stage n due sections k.0 k.1 k.2 h k.3)

pub column_named_in : (p : PlainPlan) (f : PlainFunded) (r : Report) (steps front : List PlainStep) (row : ℕ) (stage : Stage) (n : ℕ) (sections : List PlainSection) (b : Bool) → steps ≡ steps_of p → front ≡ take n steps → r ≡ Funded f → row ≡ f.row → stage ≡ f.stage → f.mark ≢ mark.Given → IsUpTo steps row stage (take n steps) → AreBacked p front sections → IsNamedBy p front r b → (IsTrue b ↔ IsNamedAnswer p r sections)
column_named_in p f r steps front row stage n sections b e is same a c apart at h k =
    let at_front : IsUpTo (steps_of p) f.row f.stage front = subst (λ (xs : List PlainStep). IsUpTo xs f.row f.stage front) e (subst (IsUpTo steps f.row f.stage) (sym is) (named_upto steps f row stage (take n steps) a c at)) in
    subst (λ (q : Report). IsTrue b ↔ IsNamedAnswer p q sections) (sym same) (column_named p f front sections b h at_front apart (subst (λ (q : Report). IsNamedBy p front q b) same k))

pub given_never : (p : PlainPlan) (f : PlainFunded) (r : Report) (steps : List PlainStep) (sections : List PlainSection) → steps ≡ steps_of p → r ≡ Funded f → f.mark ≡ mark.Given → 0 < length steps → IsNamedAnswer p r sections → ⊥
given_never p f r steps sections e is given some named =
    given_unnamed p f sections (λ none. let long : length steps ≡ 0 = ap length (e ∙ none) in omega (arith, long, some)) given (subst (λ (q : Report). IsNamedAnswer p q sections) is named)

-- ---- what is asked by the mark

pub answered_none : (p : PlainPlan) (tries : ℕ) (r : Report) (sections : List PlainSection) → r ≡ NoSelection tries → (IsNamedAnswer p r sections ↔ IsAnswered p r sections)
answered_none p tries r sections is = subst (λ (q : Report). IsNamedAnswer p q sections ↔ IsAnswered p q sections) (sym is) (λ h. h, λ h. h)

pub asked_by : (m : Mark) (p : PlainPlan) (f : PlainFunded) (sections : List PlainSection) → m ≢ mark.Partial → (IsNamedAnswer p (Funded f) sections ↔ IsAnsweredBy m p f sections)
asked_by mark.Exhausted p f sections apart = (λ h. h, λ h. h)
asked_by mark.Drawn p f sections apart = (λ h. h, λ h. h)
asked_by mark.Given p f sections apart = (λ h. h, λ h. h)
asked_by mark.Partial p f sections apart = absurd (apart refl)

pub answered_funded : (p : PlainPlan) (f : PlainFunded) (r : Report) (sections : List PlainSection) → r ≡ Funded f → f.mark ≢ mark.Partial → (IsNamedAnswer p r sections ↔ IsAnswered p r sections)
answered_funded p f r sections is apart = subst (λ (q : Report). IsNamedAnswer p q sections ↔ IsAnswered p q sections) (sym is) (asked_by f.mark p f sections apart)

-- one after the other, of what a call answers
pub iff_ok : {E P Q : Type 0} (r : Result Bool E) → (P ↔ Q) → IfOk r (λ b. IsTrue b ↔ P) → IfOk r (λ b. IsTrue b ↔ Q)
iff_ok (Ok b) k h = (λ t. k.0 (h.0 t), λ q. h.1 (k.1 q))
iff_ok (Err e) k h = tt
