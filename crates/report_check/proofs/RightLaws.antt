-- The sections that are due by a mark.
use Rattle.std.specs.Prelude.{ℕ, ◌≡◌, List, [], ◌∷◌, take, Result, Ok, Err, IfErr, OnOk}
use Rattle.std.proofs.Common.{refl, subst, inl, inr}
use Rattle.closing_log.specs.Log.{PlainSection}
use Rattle.closing_log.specs.declared.log.Stage.{Stage}
use Rattle.search_run.specs.Searched.{searches}
use Rattle.search_run.specs.Step.{PlainStep}
use Rattle.report_check.specs.DueSections.{AreFor, AreUpTo, HasStepAt, IsFirstWrong, IsUpTo, PartsHere}

-- a result that says so of one list says so of another that is the same
pub none_right : {Y : Type 0} (steps : List PlainStep) (row : ℕ) (stage : Stage) (front : List PlainStep) (sections : List PlainSection) (r : Result Y ℕ) → front ≡ [] → (HasStepAt steps row stage → ⊥) → OnOk r (AreFor (searches front) sections) → OnOk r ((due : List PlainStep) × AreUpTo steps row stage due × AreFor due sections)
none_right steps row stage front sections (Ok y) is none h = ([], inr (none, refl), subst (λ (xs : List PlainStep). AreFor (searches xs) sections) is h)
none_right steps row stage front sections (Err i) is none h = tt

pub none_wrong : {Y : Type 0} (steps : List PlainStep) (row : ℕ) (stage : Stage) (front : List PlainStep) (sections : List PlainSection) (r : Result Y ℕ) → front ≡ [] → (HasStepAt steps row stage → ⊥) → IfErr r (λ i. IsFirstWrong PartsHere (searches front) sections i) → IfErr r (λ i. (due : List PlainStep) × AreUpTo steps row stage due × IsFirstWrong PartsHere due sections i)
none_wrong steps row stage front sections (Ok y) is none h = tt
none_wrong steps row stage front sections (Err i) is none h = ([], inr (none, refl), subst (λ (xs : List PlainStep). IsFirstWrong PartsHere (searches xs) sections i) is h)

pub some_right : {Y : Type 0} (steps : List PlainStep) (row : ℕ) (stage : Stage) (front : List PlainStep) (n : ℕ) (sections : List PlainSection) (r : Result Y ℕ) → front ≡ take n steps → IsUpTo steps row stage (take n steps) → OnOk r (AreFor (searches front) sections) → OnOk r ((due : List PlainStep) × AreUpTo steps row stage due × AreFor due sections)
some_right steps row stage front n sections (Ok y) is at h = (searches (take n steps), inl (take n steps, at, refl), subst (λ (xs : List PlainStep). AreFor (searches xs) sections) is h)
some_right steps row stage front n sections (Err i) is at h = tt

pub some_wrong : {Y : Type 0} (steps : List PlainStep) (row : ℕ) (stage : Stage) (front : List PlainStep) (n : ℕ) (sections : List PlainSection) (r : Result Y ℕ) → front ≡ take n steps → IsUpTo steps row stage (take n steps) → IfErr r (λ i. IsFirstWrong PartsHere (searches front) sections i) → IfErr r (λ i. (due : List PlainStep) × AreUpTo steps row stage due × IsFirstWrong PartsHere due sections i)
some_wrong steps row stage front n sections (Ok y) is at h = tt
some_wrong steps row stage front n sections (Err i) is at h = (searches (take n steps), inl (take n steps, at, refl), subst (λ (xs : List PlainStep). IsFirstWrong PartsHere (searches xs) sections i) is h)

no_sections : (sections : List PlainSection) → AreFor [] sections → sections ≡ []
no_sections [] h = refl
no_sections (s ∷ ss) h = absurd h

pub given_right : {Y : Type 0} (front : List PlainStep) (sections : List PlainSection) (r : Result Y ℕ) → front ≡ [] → OnOk r (AreFor (searches front) sections) → OnOk r (sections ≡ [])
given_right front sections (Ok y) is h = no_sections sections (subst (λ (xs : List PlainStep). AreFor (searches xs) sections) is h)
given_right front sections (Err i) is h = tt

pub given_wrong : {Y : Type 0} (front : List PlainStep) (sections : List PlainSection) (r : Result Y ℕ) → front ≡ [] → IfErr r (λ i. IsFirstWrong PartsHere (searches front) sections i) → IfErr r (λ i. IsFirstWrong PartsHere [] sections i)
given_wrong front sections (Ok y) is h = tt
given_wrong front sections (Err i) is h = subst (λ (xs : List PlainStep). IsFirstWrong PartsHere (searches xs) sections i) is h
