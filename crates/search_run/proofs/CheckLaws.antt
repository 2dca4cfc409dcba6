-- A section that is checked.
use Rattle.std.specs.Prelude.{ℕ, ◌≡◌, ◌⊎◌, ◌↔◌, Bool, true, false, List, Option, Some, None, Result, Ok, Err, IfErr, IfOk, IsOk, OnOk, is_ok}
use Rattle.std.proofs.Common.{refl, sym, ap, subst, ◌∙◌, inl, inr}
use Rattle.log_checker.specs.declared.fault.LogFault.{LogFault}
use Rattle.log_checker.specs.declared.fault.LogFault.TheVariants as fault
use Rattle.log_checker.specs.Feeding.{EndsWell, IsMet, PlainChecker, Takes, begun, fed}
use Rattle.log_checker.specs.Sections.{EndsIn, LettersHave, SectionHas}
use Rattle.log_checker.proofs.SectionLaws.{accepted_is}
use Rattle.log_checker.proofs.TotalLaws.{judged}
use Rattle.pick_problem.specs.Admissible.{IsFit}
use Rattle.pick_problem.specs.Letters.{IsAcceptedText}
use Rattle.pick_problem.specs.Problem.{PlainProblem}
use Rattle.search_run.specs.Judged.{HasOrMemory, IsBegun}

-- an answer that isn't unfit is fit
pub fits : (p : PlainProblem) (a : Option (List ℕ)) (letters : List ℕ) → ((IsFit p a → ⊥) → ⊥) → IsFit p a
fits p a letters h = by (judged p a letters)
  where
    by : IsAcceptedText p a letters ⊎ ((f : LogFault) × SectionHas p a letters f) → IsFit p a
    by (inl accepted) = ((accepted_is p a letters).0 accepted).0
    by (inr (f, inl (e, unfit))) = absurd (h unfit)
    by (inr (f, inr (fit, has))) = fit

met_or_not : (a : Option (List ℕ)) (m : Bool) → IsMet a m ⊎ (IsMet a m → ⊥)
met_or_not None m = inl tt
met_or_not (Some best) true = inl refl
met_or_not (Some best) false = inr (λ (e : false ≡ true). absurd (cc))

err_is : {X Y : Type 0} (f g : Y) (r : Result X Y) → r ≡ Err f → r ≡ Err g → f ≡ g
err_is f g r e h = let both : Err f ≡ Err g = sym e ∙ h in cc

not_ok : {X Y : Type 0} (f : Y) (r : Result X Y) → r ≡ Err f → IsOk r → ⊥
not_ok {X = X} {Y = Y} f r e ok = let no : is_ok r ≡ false = ap (λ (q : Result X Y). is_ok q) e in absurd (let both : true ≡ false = sym ok ∙ no in cc)

-- what the end of a checker without a fault answers is the fault of the end
pub ends_in : {X : Type 0} (c : PlainChecker) (r : Result X LogFault) (f : LogFault) → c.fault ≡ None → r ≡ Err f → (IsOk r ↔ EndsWell c) →
    (r ≡ Err fault.Open ↔ ((c.fault ≡ None) × (c.state.closed ≡ false))) → (r ≡ Err fault.AnswerNotMet ↔ ((c.fault ≡ None) × (c.state.closed ≡ true) × (IsMet c.answer c.state.met → ⊥))) → EndsIn c f
ends_in {X = X} c r f none e ok is_open unmet = by c.state.closed refl
  where
    by_met : c.state.closed ≡ true → IsMet c.answer c.state.met ⊎ (IsMet c.answer c.state.met → ⊥) → EndsIn c f
    by_met closed (inl met) = absurd (not_ok f r e (ok.1 (none, closed, met)))
    by_met closed (inr not) = subst (EndsIn c) (sym (err_is f fault.AnswerNotMet r e (unmet.1 (none, closed, not)))) (closed, not)

    by : (b : Bool) → c.state.closed ≡ b → EndsIn c f
    by false closed = subst (EndsIn c) (sym (err_is f fault.Open r e (is_open.1 (none, closed)))) closed
    by true closed = by_met closed (met_or_not c.answer c.state.met)

-- ---- what a check answers

-- a result that isn't this error
not_err : {X : Type 0} (x : X) (r : Result X LogFault) → r ≡ Ok x → r ≡ Err fault.AnswerNotAdmissible → ⊥
not_err {X = X} x r e h = let both : ◌≡◌ {A = Result X LogFault} (Ok x) (Err fault.AnswerNotAdmissible) = sym e ∙ h in cc

fit_by : {X : Type 0} (p : PlainProblem) (a : Option (List ℕ)) (letters : List ℕ) (x : X) (r : Result X LogFault) → r ≡ Ok x → (r ≡ Err fault.AnswerNotAdmissible ↔ ¬ IsFit p a) → IsFit p a
fit_by p a letters x r e unfit = fits p a letters (λ h. not_err x r e (unfit.1 h))

-- the letters of a section are taken, and its tree ends well: it is accepted; or its letters have a fault
pub check_accepts : {X Y : Type 0} (p : PlainProblem) (a : Option (List ℕ)) (letters : List ℕ) (x : X) (made : Result X LogFault) (r : Result Y LogFault) → made ≡ Ok x → (made ≡ Err fault.AnswerNotAdmissible ↔ ¬ IsFit p a) → OnOk r (Takes (begun p a) letters × EndsWell (fed (begun p a) letters)) → OnOk r (IsAcceptedText p a letters)
check_accepts p a letters x made (Ok y) e unfit h = (accepted_is p a letters).1 (fit_by p a letters x made e unfit, h.0, h.1)
check_accepts p a letters x made (Err f) e unfit h = tt

pub check_refuses : {X Y : Type 0} (p : PlainProblem) (a : Option (List ℕ)) (letters : List ℕ) (x : X) (made : Result X LogFault) (r : Result Y LogFault) → made ≡ Ok x → (made ≡ Err fault.AnswerNotAdmissible ↔ ¬ IsFit p a) → IfErr r (λ f. LettersHave (begun p a) letters f) → IfErr r (λ f. HasOrMemory p a letters f)
check_refuses p a letters x made (Ok y) e unfit h = tt
check_refuses p a letters x made (Err f) e unfit h = inr (inr (fit_by p a letters x made e unfit, h))

-- the same of a checker that was made for the answer of a section, and fed its letters
made_is : (p : PlainProblem) (a : Option (List ℕ)) (k : PlainChecker) (made : Result PlainChecker LogFault) → made ≡ Ok k → IsBegun p a made → k ≡ begun p a
made_is p a k made e h = subst (λ (m : Result PlainChecker LogFault). IfOk m (λ c. c ≡ begun p a)) e h.ok

pub checked_ok : {Y : Type 0} (p : PlainProblem) (a : Option (List ℕ)) (ls letters : List ℕ) (k : PlainChecker) (made : Result PlainChecker LogFault) (r : Result Y LogFault) → letters ≡ ls → made ≡ Ok k → IsBegun p a made → OnOk r (Takes k ls × EndsWell (fed k ls)) → OnOk r (IsAcceptedText p a letters)
checked_ok p a ls letters k made r text e h ends =
    subst (λ (t : List ℕ). OnOk r (IsAcceptedText p a t)) (sym text) (check_accepts p a ls k made r e h.unfit (subst (λ (c : PlainChecker). OnOk r (Takes c ls × EndsWell (fed c ls))) (made_is p a k made e h) ends))

pub checked_err : {Y : Type 0} (p : PlainProblem) (a : Option (List ℕ)) (ls letters : List ℕ) (k : PlainChecker) (made : Result PlainChecker LogFault) (r : Result Y LogFault) → letters ≡ ls → made ≡ Ok k → IsBegun p a made → IfErr r (λ f. LettersHave k ls f) → IfErr r (λ f. HasOrMemory p a letters f)
checked_err p a ls letters k made r text e h has =
    subst (λ (t : List ℕ). IfErr r (λ f. HasOrMemory p a t f)) (sym text) (check_refuses p a ls k made r e h.unfit (subst (λ (c : PlainChecker). IfErr r (λ f. LettersHave c ls f)) (made_is p a k made e h) has))
