-- What is refused is refused for one cause.
use Rattle.std.specs.Prelude.{ℕ, ◌≡◌, ◌≢◌, List, [], ◌∷◌, ◌++◌, length, Option, Some, None, IfSome, IsSome, IsSomeAnd, Result, Ok, Err, IfErr}
use Rattle.std.proofs.Common.{rules, refl, sym, ap, subst, ◌∙◌, inl, inr}
use Rattle.closing_log.specs.Log.{PlainLog, PlainOpen, PlainSection}
use Rattle.log_checker.specs.declared.fault.LogFault.{LogFault}
use Rattle.log_checker.proofs.SectionLaws.{accepted_without_fault, one_fault}
use Rattle.search_run.specs.Judged.{AreSectionsRight, HasFaultAt, HasFaultFor, IsFirstNot, IsFirstRefused, IsRefusedFor, IsRefusedLog, IsSectionWrong}
use Rattle.search_run.specs.Kept.{Along, At, CanGoOn, IsAcceptedAt, IsAcceptedFor, IsDueAt, IsFitAt, IsOpenAt, PlainSaved, answered, comes_to, first_search}
use Rattle.search_run.specs.Run.{Stand}
use Rattle.search_run.specs.Stands.{IsKeptAt, IsStand}
use Rattle.search_run.specs.Step.{PlainStep}
use Rattle.search_run.specs.declared.fault.RestoreRefused.{RestoreRefused}
use Rattle.search_run.specs.declared.fault.RestoreRefused.TheVariants as refused
use Rattle.search_run.specs.declared.fault.VerifyFault.{VerifyFault}
use Rattle.search_run.specs.declared.fault.VerifyFault.TheVariants as verified
use Rattle.search_run.proofs.ComeLaws.{along_weaker}

head_same : (s t : PlainSection) (xs ys : List PlainSection) → s ∷ xs ≡ t ∷ ys → s ≡ t
head_same s t xs ys e = cc

tail_same : (s t : PlainSection) (xs ys : List PlainSection) → s ∷ xs ≡ t ∷ ys → xs ≡ ys
tail_same s t xs ys e = cc

module _ (P : At → PlainSection → Type 0) (seed : List ℕ) where
  here : (at : At) (front rest : List PlainSection) (s : PlainSection) → Along P seed at (front ++ s ∷ rest) → P (comes_to seed at front) s
  here at [] rest s h = h.0
  here at (t ∷ ts) rest s h = here (answered seed at t.answer) ts rest s h.1

  -- what isn't so of some section isn't so along them all
  pub not_along : (at : At) (ss : List PlainSection) (i : ℕ) → IsFirstNot P seed at ss i → Along P seed at ss → ⊥
  not_along at ss i h along = h.fails (here at h.front h.rest h.section (subst (Along P seed at) h.parts along))

  same_fronts : (at : At) (fa fb ra rb : List PlainSection) (a b : PlainSection) → fa ++ a ∷ ra ≡ fb ++ b ∷ rb → Along P seed at fa → ¬ P (comes_to seed at fa) a → Along P seed at fb → ¬ P (comes_to seed at fb) b → fa ≡ fb
  same_fronts at [] [] ra rb a b e ha na hb nb = refl
  same_fronts at [] (t ∷ tb) ra rb a b e ha na hb nb = absurd (na (subst (P at) (sym (head_same a t ra (tb ++ b ∷ rb) e)) hb.0))
  same_fronts at (t ∷ ta) [] ra rb a b e ha na hb nb = absurd (nb (subst (P at) (head_same t b (ta ++ a ∷ ra) rb e) ha.0))
  same_fronts at (t ∷ ta) (u ∷ ub) ra rb a b e ha na hb nb =
      let first : t ≡ u = head_same t u (ta ++ a ∷ ra) (ub ++ b ∷ rb) e in
      let hb_there : Along P seed (answered seed at t.answer) ub = subst (λ (v : PlainSection). Along P seed (answered seed at v.answer) ub) (sym first) hb.1 in
      let nb_there : ¬ P (comes_to seed (answered seed at t.answer) ub) b = subst (λ (v : PlainSection). ¬ P (comes_to seed (answered seed at v.answer) ub) b) (sym first) nb in
      let others : ta ≡ ub = same_fronts (answered seed at t.answer) ta ub ra rb a b (tail_same t u (ta ++ a ∷ ra) (ub ++ b ∷ rb) e) ha.1 na hb_there nb_there in
      ap (λ (v : PlainSection). v ∷ ta) first ∙ ap (λ (ts : List PlainSection). u ∷ ts) others

  pub one_first : (at : At) (ss : List PlainSection) (i j : ℕ) → IsFirstNot P seed at ss i → IsFirstNot P seed at ss j → i ≡ j
  one_first at ss i j h k =
      sym h.index ∙ (ap length (same_fronts at h.front k.front h.rest k.rest h.section k.section (sym h.parts ∙ k.parts) h.before h.fails k.before k.fails) ∙ k.index)

-- ---- what is kept

-- an open section that is right by one word is right by the other
right_open : (seed : List ℕ) (steps : List PlainStep) (k : PlainSaved) (log : PlainLog) (t : Option PlainOpen) → IsSome t → IfSome t (IsOpenAt (comes_to seed (first_search seed steps) log.closed) k) → IsSomeAnd t (IsOpenAt (comes_to seed (first_search seed steps) log.closed) k)
right_open seed steps k log None some h = absurd (search rules)
right_open seed steps k log (Some o) some h = h

can_sections : (seed : List ℕ) (steps : List PlainStep) (k : PlainSaved) (log : PlainLog) → CanGoOn seed steps k log → AreSectionsRight seed steps k log
can_sections seed steps k log can = record { closed = can.closed; tail = right_open seed steps k log log.tail can.unfinished can.tail }

wrong_not_right : (seed : List ℕ) (steps : List PlainStep) (k : PlainSaved) (log : PlainLog) (i : ℕ) → IsSectionWrong seed steps k log i → AreSectionsRight seed steps k log → ⊥
wrong_not_right seed steps k log i (inl first) right = not_along IsDueAt seed (first_search seed steps) log.closed i first right.closed
wrong_not_right seed steps k log i (inr (due, at, wrong)) right = wrong right.tail

one_wrong : (seed : List ℕ) (steps : List PlainStep) (k : PlainSaved) (log : PlainLog) (i j : ℕ) → IsSectionWrong seed steps k log i → IsSectionWrong seed steps k log j → i ≡ j
one_wrong seed steps k log i j (inl a) (inl b) = one_first IsDueAt seed (first_search seed steps) log.closed i j a b
one_wrong seed steps k log i j (inl a) (inr (due, at, wrong)) = absurd (not_along IsDueAt seed (first_search seed steps) log.closed i a due)
one_wrong seed steps k log i j (inr (due, at, wrong)) (inl b) = absurd (not_along IsDueAt seed (first_search seed steps) log.closed j b due)
one_wrong seed steps k log i j (inr (due, at, wrong)) (inr (due', at', wrong')) = at ∙ sym at'

pub kept_not_refused : (seed : List ℕ) (steps : List PlainStep) (k : PlainSaved) (log : PlainLog) (e : RestoreRefused) → CanGoOn seed steps k log → IsRefusedFor seed steps k log e → e ≡ refused.Memory
kept_not_refused seed steps k log (refused.Section i) can h = absurd (wrong_not_right seed steps k log i h (can_sections seed steps k log can))
kept_not_refused seed steps k log refused.IllFormed can h = absurd (h.1 can.position)
kept_not_refused seed steps k log (refused.Answer i) can h = absurd (not_along IsFitAt seed (first_search seed steps) log.closed i h.2 can.answers)
kept_not_refused seed steps k log refused.Memory can h = refl

pub one_refusal : (seed : List ℕ) (steps : List PlainStep) (k : PlainSaved) (log : PlainLog) (e f : RestoreRefused) → e ≢ refused.Memory → f ≢ refused.Memory → IsRefusedFor seed steps k log e → IsRefusedFor seed steps k log f → e ≡ f
one_refusal seed steps k log (refused.Section i) (refused.Section j) n m h l = ap refused.Section (one_wrong seed steps k log i j h l)
one_refusal seed steps k log (refused.Section i) refused.IllFormed n m h l = absurd (wrong_not_right seed steps k log i h l.0)
one_refusal seed steps k log (refused.Section i) (refused.Answer j) n m h l = absurd (wrong_not_right seed steps k log i h l.0)
one_refusal seed steps k log refused.IllFormed (refused.Section j) n m h l = absurd (wrong_not_right seed steps k log j l h.0)
one_refusal seed steps k log refused.IllFormed refused.IllFormed n m h l = refl
one_refusal seed steps k log refused.IllFormed (refused.Answer j) n m h l = absurd (h.1 l.1)
one_refusal seed steps k log (refused.Answer i) (refused.Section j) n m h l = absurd (wrong_not_right seed steps k log j l h.0)
one_refusal seed steps k log (refused.Answer i) refused.IllFormed n m h l = absurd (l.1 h.1)
one_refusal seed steps k log (refused.Answer i) (refused.Answer j) n m h l = ap refused.Answer (one_first IsFitAt seed (first_search seed steps) log.closed i j h.2 l.2)
one_refusal seed steps k log refused.Memory f n m h l = absurd (n refl)
one_refusal seed steps k log (refused.Section i) refused.Memory n m h l = absurd (m refl)
one_refusal seed steps k log refused.IllFormed refused.Memory n m h l = absurd (m refl)
one_refusal seed steps k log (refused.Answer i) refused.Memory n m h l = absurd (m refl)

-- ---- a log

unaccepted : (left : List PlainStep) (a : Option (List ℕ)) (letters : List ℕ) (f : LogFault) → HasFaultFor left a letters f → IsAcceptedFor left a letters → ⊥
unaccepted [] a letters f has accepted = has
unaccepted (x ∷ rest) a letters f has accepted = accepted_without_fault x.problem a letters f accepted has

one_for : (left : List PlainStep) (a : Option (List ℕ)) (letters : List ℕ) (f g : LogFault) → HasFaultFor left a letters f → HasFaultFor left a letters g → f ≡ g
one_for [] a letters f g h k = absurd h
one_for (x ∷ rest) a letters f g h k = one_fault x.problem a letters f g h k

-- the first section that is refused is the first that isn't accepted
first_unaccepted : (seed : List ℕ) (at : At) (ss : List PlainSection) (i : ℕ) (f : LogFault) → IsFirstRefused seed at ss i f → IsFirstNot IsAcceptedAt seed at ss i
first_unaccepted seed at ss i f h =
    record { front = h.front; section = h.section; rest = h.rest; parts = h.parts; index = h.index; before = h.before; fails = unaccepted (comes_to seed at h.front).left h.section.answer h.section.letters f h.fault }

pub accepted_not_refused : (seed : List ℕ) (steps : List PlainStep) (ss : List PlainSection) (e : VerifyFault) → Along IsAcceptedAt seed (first_search seed steps) ss → IsRefusedLog seed steps ss e → e ≡ verified.Memory
accepted_not_refused seed steps ss (verified.Log i f) along h = absurd (not_along IsAcceptedAt seed (first_search seed steps) ss i (first_unaccepted seed (first_search seed steps) ss i f h) along)
accepted_not_refused seed steps ss verified.Memory along h = refl

section_same : (fa fb ra rb : List PlainSection) (a b : PlainSection) → fa ≡ fb → fa ++ a ∷ ra ≡ fb ++ b ∷ rb → a ≡ b
section_same fa fb ra rb a b e h = by fa (subst (λ (f : List PlainSection). fa ++ a ∷ ra ≡ f ++ b ∷ rb) (sym e) h)
  where
    by : (f : List PlainSection) → f ++ a ∷ ra ≡ f ++ b ∷ rb → a ≡ b
    by [] h = head_same a b ra rb h
    by (t ∷ ts) h = by ts (tail_same t t (ts ++ a ∷ ra) (ts ++ b ∷ rb) h)

one_fault_at : (seed : List ℕ) (at : At) (ss : List PlainSection) (i j : ℕ) (f g : LogFault) → IsFirstRefused seed at ss i f → IsFirstRefused seed at ss j g → f ≡ g
unfolding first_unaccepted
one_fault_at seed at ss i j f g h k =
    let a : IsFirstNot IsAcceptedAt seed at ss i = first_unaccepted seed at ss i f h in
    let b : IsFirstNot IsAcceptedAt seed at ss j = first_unaccepted seed at ss j g k in
    let fronts : h.front ≡ k.front = same_fronts IsAcceptedAt seed at h.front k.front h.rest k.rest h.section k.section (sym h.parts ∙ k.parts) h.before a.fails k.before b.fails in
    let sections : h.section ≡ k.section = section_same h.front k.front h.rest k.rest h.section k.section fronts (sym h.parts ∙ k.parts) in
    let other : HasFaultAt (comes_to seed at h.front) h.section g = subst (λ (s : PlainSection). HasFaultAt (comes_to seed at h.front) s g) (sym sections) (subst (λ (fs : List PlainSection). HasFaultAt (comes_to seed at fs) k.section g) (sym fronts) k.fault) in
    one_for (comes_to seed at h.front).left h.section.answer h.section.letters f g h.fault other

pub one_log_fault : (seed : List ℕ) (steps : List PlainStep) (ss : List PlainSection) (e f : VerifyFault) → e ≢ verified.Memory → f ≢ verified.Memory → IsRefusedLog seed steps ss e → IsRefusedLog seed steps ss f → e ≡ f
one_log_fault seed steps ss (verified.Log i f) (verified.Log j g) n m h k =
    let first : At = first_search seed steps in
    let index : i ≡ j = one_first IsAcceptedAt seed first ss i j (first_unaccepted seed first ss i f h) (first_unaccepted seed first ss j g k) in
    ap (λ (p : ℕ). verified.Log p f) index ∙ ap (λ (q : LogFault). verified.Log j q) (one_fault_at seed first ss i j f g h k)
one_log_fault seed steps ss (verified.Log i f) verified.Memory n m h k = absurd (m refl)
one_log_fault seed steps ss verified.Memory f n m h k = absurd (n refl)

-- ---- the log of a run

-- the finished searches of a run are those to which it came
pub closed_due : (seed own : List ℕ) (steps left : List PlainStep) (s : Stand) (ss : List PlainSection) → own ≡ seed → left ≡ steps → ss ≡ s.past.closed → IsStand seed steps s → Along IsDueAt own (first_search own left) ss
closed_due seed own steps left s ss same e f h =
    subst (λ (q : List ℕ). Along IsDueAt q (first_search q left) ss) (sym same) (subst (λ (l : List PlainStep). Along IsDueAt seed (first_search seed l) ss) (sym e) (subst (Along IsDueAt seed (first_search seed steps)) (sym f) (along_weaker IsKeptAt IsDueAt seed (first_search seed steps) s.past.closed (λ a t k. k.0) h.closed)))

pub memory_alone : {X : Type 0} (seed own : List ℕ) (steps left : List PlainStep) (ss closed : List PlainSection) (r : Result X VerifyFault) → own ≡ seed → left ≡ steps → ss ≡ closed → IfErr r (λ e. IsRefusedLog own left ss e) → Along IsAcceptedAt seed (first_search seed steps) closed → IfErr r (λ e. e ≡ verified.Memory)
memory_alone seed own steps left ss closed (Ok x) same e f h along = tt
memory_alone seed own steps left ss closed (Err v) same e f h along =
    accepted_not_refused seed steps closed v along (subst (λ (t : List PlainSection). IsRefusedLog seed steps t v) f (subst (λ (l : List PlainStep). IsRefusedLog seed l ss v) e (subst (λ (q : List ℕ). IsRefusedLog q left ss v) same h)))
