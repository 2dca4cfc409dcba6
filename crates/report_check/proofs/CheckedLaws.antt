-- Sections are checked one after another.
use Rattle.std.specs.Prelude.{ℕ, ◌≡◌, ◌≢◌, ◌⊎◌, ◌<◌, ◌≤◌, ◌+◌, ◌-◌, Bool, true, false, List, [], ◌∷◌, ◌++◌, length}
use Rattle.std.specs.List.{AllZip}
use Rattle.std.proofs.Common.{refl, sym, ap, subst, inl, inr, ◌∙◌, arith, append_assoc, drop, get_or}
use Rattle.std.proofs.lemmas.List.{append-nil, drop_all, length-append}
use Rattle.closing_log.specs.Log.{PlainSection}
use Rattle.log_checker.specs.Sections.{SectionHas}
use Rattle.log_checker.specs.declared.fault.LogFault.{LogFault}
use Rattle.log_checker.specs.declared.fault.LogFault.TheVariants as fault
use Rattle.search_run.specs.Searched.{searches}
use Rattle.search_run.specs.Step.{PlainStep, is_drawn}
use Rattle.report_check.specs.Checking.{Checks, IsCheckedBy, Refuses}
use Rattle.report_check.specs.DueSections.{AreForFirst}
use Rattle.report_check.specs.Proved.{AreProved, IsFirstRefused, IsProvedFor}
use Rattle.report_check.specs.Refused.{IsLogRefusal}
use Rattle.report_check.specs.declared.fault.CheckFault.{CheckFault}
use Rattle.report_check.specs.declared.fault.CheckFault.TheVariants as check
use Rattle.report_check.proofs.FittingLaws.{for_length, none_long, searches_draw, searches_few, searches_search}
use Rattle.report_check.proofs.SliceLaws.{drop_step}

-- the sections in front of the rest are accepted, for the searches in front of the steps that are left
pub record IsChecked (steps : List PlainStep) (sections : List PlainSection) (left : List PlainStep) (rest : List PlainSection) : Type 0 where
  pub due : List PlainStep
  pub due_parts : searches steps ≡ due ++ searches left
  pub front : List PlainSection
  pub parts : sections ≡ front ++ rest
  pub each : AllZip IsProvedFor due front

pub checked_begins : (steps : List PlainStep) (sections : List PlainSection) → IsChecked steps sections steps sections
checked_begins steps sections = record { due = []; due_parts = refl; front = []; parts = refl; each = tt }

zip_more : (xs : List PlainStep) (ss : List PlainSection) (x : PlainStep) (s : PlainSection) → AllZip IsProvedFor xs ss → IsProvedFor x s → AllZip IsProvedFor (xs ++ x ∷ []) (ss ++ s ∷ [])
zip_more [] [] x s h k = (k, tt)
zip_more [] (t ∷ ss) x s h k = absurd h
zip_more (y ∷ xs) [] x s h k = absurd h
zip_more (y ∷ xs) (t ∷ ss) x s h k = (h.0, zip_more xs ss x s h.1 k)

pub checked_on : (steps : List PlainStep) (sections : List PlainSection) (x : PlainStep) (left : List PlainStep) (rest next : List PlainSection) → IsChecked steps sections (x ∷ left) rest → Checks x rest next → IsChecked steps sections left next
checked_on steps sections x left rest next h k = by (is_drawn x.stage) refl k
  where
    by : (b : Bool) → is_drawn x.stage ≡ b → IsCheckedBy b x rest next → IsChecked steps sections left next
    by true d same = record {
      due = h.due;
      due_parts = h.due_parts ∙ ap (λ (ys : List PlainStep). h.due ++ ys) (searches_draw x left d);
      front = h.front;
      parts = h.parts ∙ ap (λ (ts : List PlainSection). h.front ++ ts) (sym same);
      each = h.each;
    }
    by false d (s, is, proved) = record {
      due = h.due ++ x ∷ [];
      due_parts = h.due_parts ∙ (ap (λ (ys : List PlainStep). h.due ++ ys) (searches_search x left d) ∙ sym (append_assoc h.due (x ∷ []) (searches left)));
      front = h.front ++ s ∷ [];
      parts = h.parts ∙ (ap (λ (ts : List PlainSection). h.front ++ ts) is ∙ sym (append_assoc h.front (s ∷ []) next));
      each = zip_more h.due h.front x s h.each proved;
    }

-- no section is left
pub checked_all : (steps : List PlainStep) (sections : List PlainSection) (left : List PlainStep) (rest : List PlainSection) → length rest ≡ 0 → IsChecked steps sections left rest → AreProved steps sections
checked_all steps sections left rest none h =
    let ended : rest ≡ [] = none_long rest none in
    let whole : sections ≡ h.front = h.parts ∙ (ap (λ (ts : List PlainSection). h.front ++ ts) ended ∙ append-nil h.front) in
    record { front = h.due; rest = searches left; parts = h.due_parts; each = subst (AllZip IsProvedFor h.due) (sym whole) h.each }

zip_length : (xs : List PlainStep) (ss : List PlainSection) → AllZip IsProvedFor xs ss → length xs ≡ length ss
zip_length [] [] h = refl
zip_length [] (s ∷ ss) h = absurd h
zip_length (x ∷ xs) [] h = absurd h
zip_length (x ∷ xs) (s ∷ ss) h = let more = zip_length xs ss h.1 in omega (arith, more)

-- no step is left; there are no more sections than searches
pub checked_ends : (steps : List PlainStep) (sections rest : List PlainSection) → AreForFirst (searches steps) sections → IsChecked steps sections [] rest → AreProved steps sections
checked_ends steps sections rest fit h =
    let few = for_length fit.front sections fit.each in
    let long = zip_length h.due h.front h.each in
    checked_all steps sections [] rest
    (omega (arith, few, long, ap length fit.parts, length-append fit.front fit.rest, ap length h.due_parts, length-append h.due [], ap length h.parts, length-append h.front rest)) h

-- ---- a section that is refused

first_refused : (steps : List PlainStep) (sections : List PlainSection) (x : PlainStep) (left : List PlainStep) (rest : List PlainSection) (f : LogFault) (i : ℕ) (h : IsChecked steps sections (x ∷ left) rest) (k : Refuses x rest f) → SectionHas x.problem k.section.answer k.section.letters f → i + length rest ≡ length sections → IsFirstRefused steps sections i f
first_refused steps sections x left rest f i h k has at =
    record {
      due_front = h.due;
      search = x;
      due_rest = searches left;
      due_parts = h.due_parts ∙ ap (λ (ys : List PlainStep). h.due ++ ys) (searches_search x left k.searched);
      front = h.front;
      section = k.section;
      rest = k.rest;
      parts = h.parts ∙ ap (λ (ts : List PlainSection). h.front ++ ts) k.parts;
      before = h.each;
      index = omega (arith, at, ap length h.parts, length-append h.front rest);
      refused = has;
    }

by_fault : (steps : List PlainStep) (sections : List PlainSection) (i : ℕ) (f : LogFault) (e : CheckFault) → (f ≡ fault.Memory) ⊎ IsFirstRefused steps sections i f → (f ≡ fault.Memory → e ≡ check.Memory) → (f ≢ fault.Memory → e ≡ check.Log i f) → IsLogRefusal steps sections e
by_fault steps sections i f e h memory other =
    elim h [
      | inl is ↦ subst (IsLogRefusal steps sections) (sym (memory is)) tt
      | inr refused ↦ at f refl refused
    ]
  where
    so : (f ≢ fault.Memory) → IsFirstRefused steps sections i f → IsLogRefusal steps sections e
    so apart refused = subst (IsLogRefusal steps sections) (sym (other apart)) refused

    at : (g : LogFault) → f ≡ g → IsFirstRefused steps sections i f → IsLogRefusal steps sections e
    at (fault.UnknownToken q) is refused = so (λ e. let x = sym is ∙ e in cc) refused
    at (fault.ReasonFalse q) is refused = so (λ e. let x = sym is ∙ e in cc) refused
    at (fault.TooLong q) is refused = so (λ e. let x = sym is ∙ e in cc) refused
    at fault.Open is refused = so (λ e. let x = sym is ∙ e in cc) refused
    at fault.AnswerNotMet is refused = so (λ e. let x = sym is ∙ e in cc) refused
    at (fault.BetterMet q) is refused = so (λ e. let x = sym is ∙ e in cc) refused
    at fault.AnswerNotAdmissible is refused = so (λ e. let x = sym is ∙ e in cc) refused
    at fault.Memory is refused = subst (IsLogRefusal steps sections) (sym (memory is)) tt

pub refused_here : (steps : List PlainStep) (sections : List PlainSection) (x : PlainStep) (left : List PlainStep) (rest : List PlainSection) (f : LogFault) (i : ℕ) (e : CheckFault) → IsChecked steps sections (x ∷ left) rest → Refuses x rest f → i + length rest ≡ length sections →
    (f ≡ fault.Memory → e ≡ check.Memory) → (f ≢ fault.Memory → e ≡ check.Log i f) → IsLogRefusal steps sections e
refused_here steps sections x left rest f i e h k at memory other =
    by_fault steps sections i f e
    (elim k.has [
      | inl is ↦ inl is
      | inr has ↦ inr (first_refused steps sections x left rest f i h k has at)
    ]) memory other

-- how many sections were checked
pub checked_count : (steps : List PlainStep) (sections : List PlainSection) (left : List PlainStep) (rest : List PlainSection) → IsChecked steps sections left rest → length rest ≤ length sections
checked_count steps sections left rest h = omega (arith, ap length h.parts, length-append h.front rest)

pub checked_few : (steps : List PlainStep) (sections : List PlainSection) (left : List PlainStep) (rest : List PlainSection) (i : ℕ) → IsChecked steps sections left rest → i + length rest ≡ length sections → i ≤ length steps
checked_few steps sections left rest i h at =
    let long = zip_length h.due h.front h.each in
    let few = searches_few steps in
    omega (arith, at, long, few, ap length h.due_parts, length-append h.due (searches left), ap length h.parts, length-append h.front rest)

-- ---- along the steps

-- the steps that are left, with the next one apart
checked_here : (steps : List PlainStep) (sections : List PlainSection) (i : ℕ) (x : PlainStep) (rest : List PlainSection) → i < length steps → x ≡ get_or steps i x → IsChecked steps sections (drop i steps) rest → IsChecked steps sections (x ∷ drop (i + 1) steps) rest
checked_here steps sections i x rest below is h = subst (λ (xs : List PlainStep). IsChecked steps sections xs rest) (drop_step steps i x below is) h

pub checked_next : (steps : List PlainStep) (sections : List PlainSection) (i : ℕ) (x : PlainStep) (rest next : List PlainSection) → i < length steps → x ≡ get_or steps i x → IsChecked steps sections (drop i steps) rest → Checks x rest next → IsChecked steps sections (drop (i + 1) steps) next
checked_next steps sections i x rest next below is h k = checked_on steps sections x (drop (i + 1) steps) rest next (checked_here steps sections i x rest below is h) k

pub checked_over : (steps : List PlainStep) (sections : List PlainSection) (i : ℕ) (rest : List PlainSection) → length steps ≤ i → AreForFirst (searches steps) sections → IsChecked steps sections (drop i steps) rest → AreProved steps sections
checked_over steps sections i rest end fit h = checked_ends steps sections rest fit (subst (λ (xs : List PlainStep). IsChecked steps sections xs rest) (drop_all i steps end) h)

pub checked_halt : (steps : List PlainStep) (sections : List PlainSection) (i : ℕ) (x : PlainStep) (rest : List PlainSection) (f : LogFault) (e : CheckFault) → i < length steps → x ≡ get_or steps i x → IsChecked steps sections (drop i steps) rest → Refuses x rest f →
    (f ≡ fault.Memory → e ≡ check.Memory) → (f ≢ fault.Memory → e ≡ check.Log (length sections - length rest) f) → IsLogRefusal steps sections e
checked_halt steps sections i x rest f e below is h k memory other =
    let count = checked_count steps sections (drop i steps) rest h in
    refused_here steps sections x (drop (i + 1) steps) rest f (length sections - length rest) e (checked_here steps sections i x rest below is h) k (omega (arith, count)) memory other

pub checked_most : (steps : List PlainStep) (sections : List PlainSection) (i : ℕ) (rest : List PlainSection) (n : ℕ) → length steps ≤ n → IsChecked steps sections (drop i steps) rest → length sections - length rest ≤ n
checked_most steps sections i rest n few h =
    let count = checked_count steps sections (drop i steps) rest h in
    let most = checked_few steps sections (drop i steps) rest (length sections - length rest) h (omega (arith, count)) in
    omega (arith, few, most)
