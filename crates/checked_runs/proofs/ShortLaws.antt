-- The log of a run of which a result was taken for want of tries has the first of all searches, and not all.
use Rattle.std.specs.Prelude.{ℕ, ◌≡◌, not, Bool, false, List, [], ◌∷◌, ◌++◌, if◌then◌else◌}
use Rattle.std.specs.List.{AllZip}
use Rattle.std.proofs.Common.{refl, sym, ap, subst, ◌∙◌, append_assoc}
use Rattle.std.proofs.lemmas.List.Elements.{filter-append}
use Rattle.closing_log.specs.Log.{PlainSection}
use Rattle.search_run.specs.Searched.{IsSectionOf, searches}
use Rattle.search_run.specs.Step.{PlainStep, is_drawn}
use Rattle.report_check.specs.DueSections.{AreAllButLast, AreFor, AreForFirst}
use Rattle.report_check.specs.Proved.{AreProved, IsProvedFor}
use Rattle.checked_runs.proofs.RunLaws.{IsFront}

-- each section has its search's names, and is accepted for it
named : (xs : List PlainStep) (ss : List PlainSection) → AllZip IsSectionOf xs ss → AreFor xs ss
named [] [] h = tt
named [] (s ∷ ss) h = absurd h
named (x ∷ xs) [] h = absurd h
named (x ∷ xs) (s ∷ ss) h = (h.0.names, named xs ss h.1)

accepted : (xs : List PlainStep) (ss : List PlainSection) → AllZip IsSectionOf xs ss → AllZip IsProvedFor xs ss
accepted [] [] h = tt
accepted [] (s ∷ ss) h = absurd h
accepted (x ∷ xs) [] h = absurd h
accepted (x ∷ xs) (s ∷ ss) h = (h.0.accepted, accepted xs ss h.1)

-- what isn't empty has a last one
record EndsIn (xs : List PlainStep) : Type 0 where
  before : List PlainStep
  last : PlainStep
  parts : xs ≡ before ++ last ∷ []

last_of : (x : PlainStep) (xs : List PlainStep) → EndsIn (x ∷ xs)
last_of x [] = record { before = []; last = x; parts = refl }
last_of x (y ∷ ys) =
    let k = last_of y ys in
    record { before = x ∷ k.before; last = k.last; parts = ap (λ (zs : List PlainStep). x ∷ zs) k.parts }

search_first : (x : PlainStep) (rest : List PlainStep) → is_drawn x.stage ≡ false → searches (x ∷ rest) ≡ x ∷ searches rest
search_first x rest e = subst (λ (b : Bool). (if not b then (x ∷ searches rest) else searches rest) ≡ x ∷ searches rest) (sym e) refl

-- the searches of all steps: those that have a section, and the one that is open
all_searches : (seed : List ℕ) (steps : List PlainStep) (x : PlainStep) (rest : List PlainStep) (sections : List PlainSection) → (f : IsFront seed steps x rest sections) → searches steps ≡ searches f.front ++ x ∷ searches rest
all_searches seed steps x rest sections f =
    ap searches f.parts
    ∙ filter-append (λ (y : PlainStep). not (is_drawn y.stage)) f.front (x ∷ rest)
    ∙ ap (λ (zs : List PlainStep). searches f.front ++ zs) (search_first x rest f.searched)

-- What is asked of the sections beside a report of a partial payment.
pub record AreShort (steps : List PlainStep) (sections : List PlainSection) : Type 0 where
  pub due : List PlainStep
  pub but_last : AreAllButLast steps due
  pub first : AreForFirst due sections
  pub proved : AreProved steps sections

pub short_sections : (seed : List ℕ) (steps : List PlainStep) (x : PlainStep) (rest : List PlainStep) (sections : List PlainSection) → IsFront seed steps x rest sections → AreShort steps sections
short_sections seed steps x rest sections f =
    let mine : List PlainStep = searches f.front in
    let all : searches steps ≡ mine ++ x ∷ searches rest = all_searches seed steps x rest sections f in
    let k = last_of x (searches rest) in
    record {
      due = mine ++ k.before;
      but_last = (k.last, all ∙ ap (λ (zs : List PlainStep). mine ++ zs) k.parts ∙ sym (append_assoc mine k.before (k.last ∷ [])));
      first = record { front = mine; rest = k.before; parts = refl; each = named mine sections f.each };
      proved = record { front = mine; rest = x ∷ searches rest; parts = all; each = accepted mine sections f.each };
    }
