-- Sections that are followed one after another, and checked.
use Rattle.std.specs.Prelude.{ℕ, ◌≡◌, ◌≢◌, ◌<◌, ◌+◌, ◌⊎◌, List, ◌∷◌, length, take, drop, get_or}
use Rattle.std.proofs.Common.{refl, sym, subst, ◌∙◌, inl, inr}
use Rattle.closing_log.specs.Log.{PlainSection}
use Rattle.log_checker.specs.declared.fault.LogFault.{LogFault}
use Rattle.log_checker.specs.declared.fault.LogFault.TheVariants as fault
use Rattle.log_checker.specs.Sections.{SectionHas}
use Rattle.pick_problem.specs.Letters.{IsAcceptedText}
use Rattle.search_run.specs.Along.{ComesTo}
use Rattle.search_run.specs.Resumed.{HasFollowed}
use Rattle.search_run.specs.Judged.{HasFaultAt, HasFaultFor, HasOrMemory, IsRefusedLog}
use Rattle.search_run.specs.Kept.{Along, At, IsAcceptedAt, IsAcceptedFor, IsDueAt, NamesFirst, answered, comes_to, first_search}
use Rattle.search_run.specs.Step.{PlainStep}
use Rattle.search_run.specs.declared.next_search.NextSearch.{NextSearch}
use Rattle.search_run.specs.declared.fault.VerifyFault.{VerifyFault}
use Rattle.search_run.specs.declared.fault.VerifyFault.TheVariants as verified
use Rattle.search_run.proofs.AlongLaws.{comes_all, along_at, first_refused, along_all, along_take, comes_take, named_below, step_at}

-- after the first sections, each of which is so
pub record IsAlong (P : At → PlainSection → Type 0) (seed : List ℕ) (steps : List PlainStep) (closed : List PlainSection) (i : ℕ) (now : NextSearch) : Type 0 where
  pub so : Along P seed (first_search seed steps) (take i closed)
  pub comes : ComesTo steps now (comes_to seed (first_search seed steps) (take i closed))

pub along_begins : (P : At → PlainSection → Type 0) (seed : List ℕ) (steps : List PlainStep) (closed : List PlainSection) (now : NextSearch) → ComesTo steps now (first_search seed steps) → IsAlong P seed steps closed 0 now
along_begins P seed steps closed now h = record { so = tt; comes = h }

pub along_on : (P : At → PlainSection → Type 0) (seed : List ℕ) (steps : List PlainStep) (closed : List PlainSection) (i : ℕ) (now next : NextSearch) (s : PlainSection) → i < length closed → s ≡ get_or closed i s → IsAlong P seed steps closed i now →
    P (comes_to seed (first_search seed steps) (take i closed)) s → ComesTo steps next (answered seed (comes_to seed (first_search seed steps) (take i closed)) s.answer) → IsAlong P seed steps closed (i + 1) next
along_on P seed steps closed i now next s below is h here goes =
    record {
      so = along_take P seed (first_search seed steps) closed i s below is h.so here;
      comes = subst (ComesTo steps next) (sym (comes_take seed (first_search seed steps) closed i s below is)) goes;
    }

pub along_ends : (P : At → PlainSection → Type 0) (seed : List ℕ) (steps : List PlainStep) (closed : List PlainSection) (i : ℕ) (now : NextSearch) → i ≡ length closed → IsAlong P seed steps closed i now → Along P seed (first_search seed steps) closed
along_ends P seed steps closed i now e h = along_all P seed (first_search seed steps) closed i e h.so

pub followed : (seed : List ℕ) (steps : List PlainStep) (closed : List PlainSection) (i : ℕ) (now : NextSearch) → i ≡ length closed → IsAlong IsDueAt seed steps closed i now → HasFollowed seed steps closed now
followed seed steps closed i now e h = record { due = along_ends IsDueAt seed steps closed i now e h; comes = subst (ComesTo steps now) (comes_all seed (first_search seed steps) closed i e) h.comes }

-- a section is that of the search to which a run comes exactly where it names the step there
pub due_at : (steps : List PlainStep) (now : NextSearch) (at : At) (s : PlainSection) → ComesTo steps now at → NamesFirst (drop now.at steps) s.row s.stage s.digest → IsDueAt at s
due_at steps now at s h named = subst (λ (l : List PlainStep). NamesFirst l s.row s.stage s.digest) (sym h.left) named

pub named_at : (steps : List PlainStep) (now : NextSearch) (at : At) (s : PlainSection) → ComesTo steps now at → IsDueAt at s → NamesFirst (drop now.at steps) s.row s.stage s.digest
named_at steps now at s h due = subst (λ (l : List PlainStep). NamesFirst l s.row s.stage s.digest) h.left due

pub due_below : (steps : List PlainStep) (now : NextSearch) (at : At) (s : PlainSection) → ComesTo steps now at → IsDueAt at s → now.at < length steps
due_below steps now at s h due = named_below steps now.at s.row s.stage s.digest (named_at steps now at s h due)

-- where each section is that of the search to which the run comes, there is a step at each
pub along_below : (P : At → PlainSection → Type 0) (seed : List ℕ) (steps : List PlainStep) (closed : List PlainSection) (i : ℕ) (now : NextSearch) (s : PlainSection) → i < length closed → s ≡ get_or closed i s → Along IsDueAt seed (first_search seed steps) closed → IsAlong P seed steps closed i now → now.at < length steps
along_below P seed steps closed i now s below is due h = due_below steps now (comes_to seed (first_search seed steps) (take i closed)) s h.comes (along_at IsDueAt seed (first_search seed steps) closed i s below is due)

-- what is so of a section at the step is so where the run comes
pub at_here : (steps : List PlainStep) (now : NextSearch) (at : At) (x : PlainStep) → now.at < length steps → x ≡ get_or steps now.at x → ComesTo steps now at → at.left ≡ x ∷ drop (now.at + 1) steps
at_here steps now at x below is h = h.left ∙ step_at steps now.at x below is

pub accepted_at : (steps : List PlainStep) (now : NextSearch) (at : At) (x : PlainStep) (s : PlainSection) → now.at < length steps → x ≡ get_or steps now.at x → ComesTo steps now at → IsAcceptedText x.problem s.answer s.letters → IsAcceptedAt at s
accepted_at steps now at x s below is h accepted = by at.left (at_here steps now at x below is h)
  where
    by : (l : List PlainStep) → l ≡ x ∷ drop (now.at + 1) steps → IsAcceptedFor l s.answer s.letters
    by l e = subst (λ (m : List PlainStep). IsAcceptedFor m s.answer s.letters) (sym e) accepted

pub fault_at : (steps : List PlainStep) (now : NextSearch) (at : At) (x : PlainStep) (s : PlainSection) (f : LogFault) → now.at < length steps → x ≡ get_or steps now.at x → ComesTo steps now at → SectionHas x.problem s.answer s.letters f → HasFaultAt at s f
fault_at steps now at x s f below is h has = by at.left (at_here steps now at x below is h)
  where
    by : (l : List PlainStep) → l ≡ x ∷ drop (now.at + 1) steps → HasFaultFor l s.answer s.letters f
    by l e = subst (λ (m : List PlainStep). HasFaultFor m s.answer s.letters f) (sym e) has

-- ---- the first refusal

is_memory : (f : LogFault) → (f ≡ fault.Memory) ⊎ (f ≢ fault.Memory)
is_memory (fault.UnknownToken q) = inr (λ (e : fault.UnknownToken q ≡ fault.Memory). absurd (cc))
is_memory (fault.ReasonFalse q) = inr (λ (e : fault.ReasonFalse q ≡ fault.Memory). absurd (cc))
is_memory (fault.TooLong q) = inr (λ (e : fault.TooLong q ≡ fault.Memory). absurd (cc))
is_memory fault.Open = inr (λ (e : fault.Open ≡ fault.Memory). absurd (cc))
is_memory fault.AnswerNotMet = inr (λ (e : fault.AnswerNotMet ≡ fault.Memory). absurd (cc))
is_memory (fault.BetterMet q) = inr (λ (e : fault.BetterMet q ≡ fault.Memory). absurd (cc))
is_memory fault.AnswerNotAdmissible = inr (λ (e : fault.AnswerNotAdmissible ≡ fault.Memory). absurd (cc))
is_memory fault.Memory = inl refl

-- what is answered for a fault of a section, if all before it are accepted
pub refused_here : (seed : List ℕ) (steps : List PlainStep) (closed : List PlainSection) (i : ℕ) (now : NextSearch) (x : PlainStep) (s : PlainSection) (f : LogFault) (e : VerifyFault) → i < length closed → s ≡ get_or closed i s → now.at < length steps → x ≡ get_or steps now.at x → IsAlong IsAcceptedAt seed steps closed i now →
    HasOrMemory x.problem s.answer s.letters f → (f ≡ fault.Memory → e ≡ verified.Memory) → (f ≢ fault.Memory → e ≡ verified.Log i f) → IsRefusedLog seed steps closed e
refused_here seed steps closed i now x s f e below is within at h has memory log = by (is_memory f)
  where
    none : (g : VerifyFault) → g ≡ verified.Memory → IsRefusedLog seed steps closed g
    none g same = subst (IsRefusedLog seed steps closed) (sym same) tt

    some : (f ≢ fault.Memory) → HasOrMemory x.problem s.answer s.letters f → IsRefusedLog seed steps closed (verified.Log i f)
    some not (inl m) = absurd (not m)
    some not (inr there) = first_refused seed (first_search seed steps) closed i s f below is h.so (fault_at steps now (comes_to seed (first_search seed steps) (take i closed)) x s f within at h.comes there)

    by : (f ≡ fault.Memory) ⊎ (f ≢ fault.Memory) → IsRefusedLog seed steps closed e
    by (inl m) = none e (memory m)
    by (inr not) = subst (IsRefusedLog seed steps closed) (sym (log not)) (some not has)
