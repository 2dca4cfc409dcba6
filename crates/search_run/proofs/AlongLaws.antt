-- Sections one after another, as the code goes along them.
use Rattle.std.specs.Prelude.{◌≢◌, ℕ, zero, suc, ◌≡◌, ◌<◌, ◌+◌, List, [], ◌∷◌, ◌++◌, length, take, drop, get_or}
use Rattle.std.proofs.Common.{arith, sym, ap, subst, ◌∙◌}
use Rattle.std.proofs.lemmas.List.{drop_more, length-take-le, take-append-drop, take_all, take_more}
use Rattle.closing_log.specs.Log.{PlainSection}
use Rattle.closing_log.specs.declared.log.Stage.{Stage}
use Rattle.log_checker.specs.declared.fault.LogFault.{LogFault}
use Rattle.search_run.specs.Judged.{HasFaultAt, IsFirstNot, IsFirstRefused}
use Rattle.search_run.specs.Kept.{Along, At, IsAcceptedAt, NamesFirst, answered, comes_to}
use Rattle.search_run.specs.Step.{PlainStep}
use Rattle.search_run.proofs.ComeLaws.{along-append, comes-append}
use Rattle.search_run.proofs.HeldLaws.{first_left}

-- ---- steps that are left

pub step_at : (steps : List PlainStep) (at : ℕ) (x : PlainStep) → at < length steps → x ≡ get_or steps at x → drop at steps ≡ x ∷ drop (at + 1) steps
step_at steps at x below is = drop_more steps at x below ∙ ap (λ (y : PlainStep). y ∷ drop (at + 1) steps) (sym is)

named_some : (left : List PlainStep) (r : ℕ) (s : Stage) (d : List ℕ) → NamesFirst left r s d → left ≢ []
named_some [] r s d h = absurd h
named_some (x ∷ rest) r s d h = λ (e : x ∷ rest ≡ []). absurd (cc)

-- a section names a step, which is there
pub named_below : (steps : List PlainStep) (at : ℕ) (r : ℕ) (s : Stage) (d : List ℕ) → NamesFirst (drop at steps) r s d → at < length steps
named_below steps at r s d h = first_left steps at (named_some (drop at steps) r s d h)

-- ---- the first sections

pub comes_take : (seed : List ℕ) (at : At) (ss : List PlainSection) (i : ℕ) (s : PlainSection) → i < length ss → s ≡ get_or ss i s → comes_to seed at (take (i + 1) ss) ≡ answered seed (comes_to seed at (take i ss)) s.answer
comes_take seed at ss i s below is =
    ap (comes_to seed at) (take_more ss i s below ∙ ap (λ (t : PlainSection). take i ss ++ t ∷ []) (sym is)) ∙ comes-append seed at (take i ss) (s ∷ [])

pub along_take : (P : At → PlainSection → Type 0) (seed : List ℕ) (at : At) (ss : List PlainSection) (i : ℕ) (s : PlainSection) → i < length ss → s ≡ get_or ss i s →
    Along P seed at (take i ss) → P (comes_to seed at (take i ss)) s → Along P seed at (take (i + 1) ss)
along_take P seed at ss i s below is h here =
    subst (Along P seed at) (sym (take_more ss i s below ∙ ap (λ (t : PlainSection). take i ss ++ t ∷ []) (sym is))) (along-append P seed at (take i ss) (s ∷ []) h (here, tt))

pub along_all : (P : At → PlainSection → Type 0) (seed : List ℕ) (at : At) (ss : List PlainSection) (i : ℕ) → i ≡ length ss → Along P seed at (take i ss) → Along P seed at ss
along_all P seed at ss i e h = subst (Along P seed at) (take_all i ss (omega (arith, e))) h

pub comes_all : (seed : List ℕ) (at : At) (ss : List PlainSection) (i : ℕ) → i ≡ length ss → comes_to seed at (take i ss) ≡ comes_to seed at ss
comes_all seed at ss i e = ap (comes_to seed at) (take_all i ss (omega (arith, e)))

-- what holds along them all holds of each
pub along_here : (P : At → PlainSection → Type 0) (seed : List ℕ) (at : At) (ss : List PlainSection) (i : ℕ) (d : PlainSection) → i < length ss → Along P seed at ss → P (comes_to seed at (take i ss)) (get_or ss i d)
along_here P seed at [] i d below h = absurd (omega (arith, below))
along_here P seed at (s ∷ ss) zero d below h = h.0
along_here P seed at (s ∷ ss) (suc i) d below h = along_here P seed (answered seed at s.answer) ss i d (omega (arith, below)) h.1

pub along_at : (P : At → PlainSection → Type 0) (seed : List ℕ) (at : At) (ss : List PlainSection) (i : ℕ) (s : PlainSection) → i < length ss → s ≡ get_or ss i s → Along P seed at ss → P (comes_to seed at (take i ss)) s
along_at P seed at ss i s below is h = subst (P (comes_to seed at (take i ss))) (sym is) (along_here P seed at ss i s below h)

-- ---- the first that isn't so

parts_at : (ss : List PlainSection) (i : ℕ) (s : PlainSection) → i < length ss → s ≡ get_or ss i s → ss ≡ take i ss ++ s ∷ drop (i + 1) ss
parts_at ss i s below is =
    sym (take-append-drop i ss) ∙ ap (λ (back : List PlainSection). take i ss ++ back) (drop_more ss i s below ∙ ap (λ (t : PlainSection). t ∷ drop (i + 1) ss) (sym is))

index_at : (ss : List PlainSection) (i : ℕ) → i < length ss → length (take i ss) ≡ i
index_at ss i below = length-take-le i ss (omega (arith, below))

pub first_not : (P : At → PlainSection → Type 0) (seed : List ℕ) (at : At) (ss : List PlainSection) (i : ℕ) (s : PlainSection) → i < length ss → s ≡ get_or ss i s → Along P seed at (take i ss) → ¬ P (comes_to seed at (take i ss)) s → IsFirstNot P seed at ss i
first_not P seed at ss i s below is h fails =
    record { front = take i ss; section = s; rest = drop (i + 1) ss; parts = parts_at ss i s below is; index = index_at ss i below; before = h; fails = fails }

pub first_refused : (seed : List ℕ) (at : At) (ss : List PlainSection) (i : ℕ) (s : PlainSection) (f : LogFault) → i < length ss → s ≡ get_or ss i s → Along IsAcceptedAt seed at (take i ss) → HasFaultAt (comes_to seed at (take i ss)) s f → IsFirstRefused seed at ss i f
first_refused seed at ss i s f below is h has =
    record { front = take i ss; section = s; rest = drop (i + 1) ss; parts = parts_at ss i s below is; index = index_at ss i below; before = h; fault = has }
