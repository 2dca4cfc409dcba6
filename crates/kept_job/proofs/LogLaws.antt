-- The log of a run can be written: each of its sections is that of a search of a step.
use Rattle.std.proofs.Common.{◌≡◌, ◌∙◌, ℕ, zero, suc, ◌+◌, ◌<◌, ◌≤◌, Bool, true, false, List, [], ◌∷◌, ◌++◌, length, Option, Some, None, refl, sym, ap, subst, arith, All, Contains}
use Rattle.std.specs.Int.{w32, to_be_bytes, bytes_high_first, byte_at}
use Rattle.std.specs.List.{AllByRecursion}
use Rattle.std.specs.Prelude.{IfSome, IsSome, ◌↔◌, slice_index}
use Rattle.std.proofs.lemmas.List.Elements.{All-append, All-contains, All-from_recursion}
use Rattle.sha2.specs.Sha256.{digest_bytes, sha256}
use Rattle.sha2.proofs.Facts256.{length-sha256}
use Rattle.closing_log.proofs.WrittenLaws.{written_is_text}
use Rattle.closing_log.specs.Log.{PlainLog, PlainOpen, PlainSection}
use Rattle.closing_log.specs.LogText.{CanBeClosed, CanBeOpen, HasSmallPlaces, IsAnswer, IsLetter, IsLogText, IsSearched, IsSizedOpen, IsSizedSection, text_of}
use Rattle.closing_log.specs.declared.log.Stage.{Stage}
use Rattle.closing_log.specs.declared.log.Stage.TheVariants.{Presets, Changeless, LeanBig, Draw, LeanSmall, Wide}
use Rattle.fund_base.proofs.Lists.{in_tail}
use Rattle.fund_plan.proofs.RowLaws.{step_of}
use Rattle.fund_plan.specs.Steps.{steps_of}
use Rattle.fund_steps.specs.Plan.{PlainPlan, ladder_in}
use Rattle.output_groups.specs.Ladder.{ladder_of}
use Rattle.output_groups.specs.declared.rows.Row.{Row}
use Rattle.output_groups.proofs.Members.{head_in, none_in}
use Rattle.pick_problem.proofs.Deciding.{if_cases}
use Rattle.pick_problem.specs.Admissible.{IsFit}
use Rattle.pick_problem.specs.Best.{IsBest}
use Rattle.pick_problem.specs.ClosingTree.{Tree, Leaf, Fork, Skip, tokens_of}
use Rattle.pick_problem.specs.Digest.{problem_bytes}
use Rattle.pick_problem.specs.Letters.{IsAcceptedText, letters_of}
use Rattle.pick_problem.specs.Problem.{PlainProblem, Rising}
use Rattle.pick_problem.specs.Tokens.{letter_of}
use Rattle.pick_problem.specs.declared.token.Reason.TheVariants.{Short, Over, Heavy, NoRoom, Worse, Heavier, Far, Hit}
use Rattle.pick_problem.specs.declared.token.Token.{Token}
use Rattle.pick_problem.specs.declared.token.Token.TheVariants.{Enter, Pass, Close}
use Rattle.random_draw.specs.Draw.{draw_of}
use Rattle.search_run.proofs.ComeLaws.{IsSearchFirst, along_weaker, at_step, behind_search, behind_step, comes_to_search}
use Rattle.search_run.proofs.MadeLaws.{run_stands}
use Rattle.search_run.specs.Found.{PlainFound, found_of}
use Rattle.pick_problem.specs.Digest.{digest_of}
use Rattle.pick_problem.specs.Walk.{Walk}
use Rattle.search_run.specs.Kept.{Along, At, IsDueAt, IsFitAt, Names, answered, first_search, is_over, log_of, tail_of, to_search}
use Rattle.search_run.specs.Run.{all_letters, drawn, ends, run}
use Rattle.search_run.specs.Stands.{IsFromStart, IsMadeAt, IsMadeWalk, IsWalkAt, IsWalkBy}
use Rattle.search_run.specs.Step.{AreSteps, FitsStage, IsStep, PlainStep, is_drawn}

-- ---- rows

small_by : (zero_conf include_unsafe : Bool) → AllByRecursion (λ (r : Row). r.number ≤ 255) (ladder_of zero_conf include_unsafe)
small_by false u = (omega arith, (omega arith, tt))
small_by true false = (omega arith, (omega arith, (omega arith, (omega arith, (omega arith, (omega arith, tt))))))
small_by true true = (omega arith, (omega arith, (omega arith, (omega arith, (omega arith, (omega arith, (omega arith, tt)))))))

-- the number of a step's row fits a byte
pub small_row : (p : PlainPlan) (x : PlainStep) → Contains (steps_of p) x → x.row ≤ 255
small_row p x h =
    let at = step_of p x h in
    let P : Row → Type 0 = λ r. r.number ≤ 255 in
    let small : at.row.number ≤ 255 = All-contains P (ladder_in p) at.row (All-from_recursion P (ladder_in p) (small_by p.request.zero_conf p.request.include_unsafe)) at.in_ladder in
    let same : x.row ≡ at.row.number = ap (λ (y : PlainStep). y.row) at.is in
    omega (arith, small, same)

-- ---- each section is that of a search

-- letters with which a section can be written
abbrev pub ArePlain : List ℕ → Type 0
ArePlain letters = All IsLetter letters × (0 < length letters)

-- a section is that of the search to which the run comes, with letters that can be written, and an answer that is none or
-- admissible
abbrev pub IsReadAt : At → PlainSection → Type 0
IsReadAt at s = IsDueAt at s × (ArePlain s.letters × IsFitAt at s)

-- of which search of these steps a section is
record IsSectionIn (steps : List PlainStep) (s : PlainSection) : Type 0 where
  step : PlainStep
  there : Contains steps step
  searched : is_drawn step.stage ≡ false
  names : Names step s.row s.stage s.digest
  letters : ArePlain s.letters
  fit : IsFit step.problem s.answer

-- what is left behind some steps is some of them
search_in : (seed : List ℕ) (left : List PlainStep) (found : List PlainFound) (y : PlainStep) → Contains (to_search seed left found).left y → Contains left y
search_in seed [] found y = λ h. h
search_in seed (x ∷ rest) found y =
    let P : At → Type 0 = λ at. Contains at.left y → Contains (x ∷ rest) y in
    let now : List PlainFound = found ++ found_of x (draw_of x.problem seed) in
    if_cases P (is_drawn x.stage) _ _
    (λ d. if_cases P (ends x now) _ _ (λ e h. absurd (none_in y h)) (λ e h. in_tail x rest y (search_in seed rest now y h)))
    (λ d h. h)

behind_in : (seed : List ℕ) (x : PlainStep) (rest : List PlainStep) (found : List PlainFound) (y : PlainStep) → Contains (behind_step seed x rest found).left y → Contains (x ∷ rest) y
behind_in seed x rest found y =
    let P : At → Type 0 = λ at. Contains at.left y → Contains (x ∷ rest) y in
    if_cases P (ends x found) _ _ (λ e h. absurd (none_in y h)) (λ e h. in_tail x rest y (search_in seed rest found y h))

sections_in : (seed : List ℕ) (steps : List PlainStep) (ss : List PlainSection) (left : List PlainStep) (found : List PlainFound) → IsSearchFirst left → ((y : PlainStep) → Contains left y → Contains steps y) → Along IsReadAt seed (record { left = left; found = found }) ss
    → AllByRecursion (IsSectionIn steps) ss
sections_in seed steps [] left found first within h = tt
sections_in seed steps (s ∷ ss) [] found first within h = absurd h.0.0
sections_in seed steps (s ∷ ss) (x ∷ rest) found first within h =
    let next : At = answered seed (at_step x rest found) s.answer in
    let own : IsSectionIn steps s = record { step = x; there = within x (head_in x rest); searched = first; names = h.0.0; letters = h.0.1.0; fit = h.0.1.1 } in
    let inside : (y : PlainStep) → Contains next.left y → Contains steps y = λ y k. within y (behind_in seed x rest (found ++ found_of x s.answer) y k) in
    (own, sections_in seed steps ss next.left next.found (behind_search seed x rest (found ++ found_of x s.answer)) inside h.1)

-- ---- a section can be written

searched_stage : (stage : Stage) (p : PlainProblem) → FitsStage stage p → is_drawn stage ≡ false → IsSearched stage
searched_stage Presets p h e = absurd h
searched_stage Changeless p h e = tt
searched_stage LeanBig p h e = tt
searched_stage Draw p h e = absurd cc
searched_stage LeanSmall p h e = tt
searched_stage Wide p h e = absurd h

letter_fits : (t : Token) → IsLetter (letter_of t)
letter_fits Enter = (omega arith, omega arith)
letter_fits Pass = (omega arith, omega arith)
letter_fits (Close Short) = (omega arith, omega arith)
letter_fits (Close Over) = (omega arith, omega arith)
letter_fits (Close Heavy) = (omega arith, omega arith)
letter_fits (Close NoRoom) = (omega arith, omega arith)
letter_fits (Close Worse) = (omega arith, omega arith)
letter_fits (Close Heavier) = (omega arith, omega arith)
letter_fits (Close Far) = (omega arith, omega arith)
letter_fits (Close Hit) = (omega arith, omega arith)

pub letters_fit : (tokens : List Token) → AllByRecursion IsLetter (letters_of tokens)
letters_fit [] = tt
letters_fit (t ∷ ts) = (letter_fits t, letters_fit ts)

tree_some : (tree : Tree) → 0 < length (letters_of (tokens_of tree))
tree_some (Leaf reason) = omega arith
tree_some (Fork chosen without) = omega arith
tree_some (Skip behind) = omega arith

letters_some : (p : PlainProblem) (a : Option (List ℕ)) (letters : List ℕ) → IsAcceptedText p a letters → 0 < length letters
letters_some p a letters h =
    let same : letters ≡ letters_of (tokens_of h.2.tree.0) = h.1 ∙ ap letters_of (sym h.2.tree.1) in
    subst (λ (xs : List ℕ). 0 < length xs) (sym same) (tree_some h.2.tree.0)

answer_some : (p : PlainProblem) (a : Option (List ℕ)) → IsFit p a → IsAnswer a
answer_some p None h = tt
answer_some p (Some q) h = h.some

best_fits : (p : PlainProblem) (a : Option (List ℕ)) → IsBest p a → IsFit p a
best_fits p None h = tt
best_fits p (Some q) h = h.0

closed_can : (x : PlainStep) (s : PlainSection) → IsStep x → is_drawn x.stage ≡ false → Names x s.row s.stage s.digest → ArePlain s.letters → IsFit x.problem s.answer → CanBeClosed s
closed_can x s step searched names letters fit = record {
  stage = subst IsSearched (sym names.stage) (searched_stage x.stage x.problem step.stage searched);
  letters = letters.0;
  some = letters.1;
  answer = answer_some x.problem s.answer fit;
}

-- a section that a run from the start made is one
accepted_plain : (p : PlainProblem) (a : Option (List ℕ)) (letters : List ℕ) → IsAcceptedText p a letters → ArePlain letters
accepted_plain p a letters h = (subst (All IsLetter) (sym h.1) (All-from_recursion IsLetter (letters_of h.0) (letters_fit h.0)), letters_some p a letters h)

made_read : (left : List PlainStep) (found : List PlainFound) (s : PlainSection) → IsMadeAt (record { left = left; found = found }) s → IsReadAt (record { left = left; found = found }) s
made_read [] found s h = absurd h.0
made_read (x ∷ rest) found s h = (h.0, (accepted_plain x.problem s.answer s.letters h.1, best_fits x.problem s.answer h.2))

-- ---- its numbers fit

places_small : (n t : ℕ) (q : List ℕ) → n ≤ 10_000 → Rising n t q → AllByRecursion (λ p. p ≤ 4_294_967_295) q
places_small n t [] few h = tt
places_small n t (j ∷ js) few h = (omega (arith, h.1), places_small n (j + 1) js few h.2)

answer_small : (p : PlainProblem) (a : Option (List ℕ)) → length p.items ≤ 10_000 → IsFit p a → HasSmallPlaces a
answer_small p None few h = tt
answer_small p (Some q) few h = places_small (length p.items) 0 q few h.rising

-- at most 10,000 places
abbrev pub HasFewPlaces : PlainSection → Type 0
HasFewPlaces s = IfSome s.answer (λ q. length q ≤ 10_000)

rising_few : (n t : ℕ) (q : List ℕ) → t ≤ n → Rising n t q → length q + t ≤ n
rising_few n t [] le h = omega (arith, le)
rising_few n t (j ∷ js) le h =
    let next : j + 1 ≤ n = omega (arith, h.1) in
    let rest : length js + (j + 1) ≤ n = rising_few n (j + 1) js next h.2 in
    omega (arith, h.0, rest)

answer_few : (p : PlainProblem) (a : Option (List ℕ)) → length p.items ≤ 10_000 → IsFit p a → IfSome a (λ q. length q ≤ 10_000)
answer_few p None few h = tt
answer_few p (Some q) few h = let all = rising_few (length p.items) 0 q (omega arith) h.rising in omega (arith, all, few)

one_byte : (k n : ℕ) → byte_at k n < 256
one_byte zero n = omega arith
one_byte (suc k) n = omega arith

high_first : (k n : ℕ) → AllByRecursion (λ b. b < 256) (bytes_high_first k n)
high_first zero n = tt
high_first (suc k) n = (one_byte k n, high_first k n)

digest_fits : (h : List ℕ) (n : ℕ) → All (λ b. b < 256) (digest_bytes h n)
unfolding digest_bytes
digest_fits h zero = All-from_recursion (λ b. b < 256) [] tt
digest_fits h (suc n) =
    All-append (λ b. b < 256) (digest_bytes h n) (to_be_bytes w32 (slice_index h n)) (digest_fits h n) (All-from_recursion (λ b. b < 256) (to_be_bytes w32 (slice_index h n)) (high_first 4 (slice_index h n)))

hash_fits : (m : List ℕ) → All (λ b. b < 256) (sha256 m)
unfolding sha256
hash_fits m = digest_fits _ 8

section_sized : (x : PlainStep) (s : PlainSection) → IsStep x → x.row ≤ 255 → Names x s.row s.stage s.digest → IsFit x.problem s.answer → IsSizedSection s
section_sized x s step row names fit = record {
  row = omega (arith, names.row, row);
  digest = subst (λ (d : List ℕ). (length d ≡ 32) × All (λ b. b < 256) d) (sym names.digest) (length-sha256 (problem_bytes x.problem), hash_fits (problem_bytes x.problem));
  places = answer_small x.problem s.answer step.problem.items.few fit;
}

-- ---- a log

-- a step that others stand before
pub contains_behind : (front : List PlainStep) (x : PlainStep) (rest : List PlainStep) → Contains (front ++ x ∷ rest) x
contains_behind [] x rest = head_in x rest
contains_behind (y ∷ ys) x rest = in_tail y (ys ++ x ∷ rest) x (contains_behind ys x rest)

none_some : IsSome {T = PlainOpen} None → ⊥
none_some h = cc

step_in : (steps : List PlainStep) (P : PlainStep → Type 0) (x : PlainStep) → AllByRecursion P steps → Contains steps x → P x
step_in steps P x all there = All-contains P steps x (All-from_recursion P steps all) there

-- the step at which a run stands whose walk isn't done is no draw
pub open_searched : (seed : List ℕ) (steps : List PlainStep) → AreSteps steps → (n : ℕ) (x : PlainStep) (rest : List PlainStep) → (run seed steps n).left ≡ x ∷ rest → (run seed steps n).walk.done ≡ false → is_drawn x.stage ≡ false
open_searched seed steps are n x rest left going = by (is_drawn x.stage) refl
  where
    own : IsWalkBy (is_drawn x.stage) IsMadeWalk seed x (run seed steps n).before (run seed steps n).walk
    own = subst (λ (xs : List PlainStep). IsWalkAt IsMadeWalk seed xs (run seed steps n).before (run seed steps n).walk) left (run_stands seed steps are n).walk

    by : (b : Bool) → is_drawn x.stage ≡ b → is_drawn x.stage ≡ false
    by false d = d
    by true d =
        let w : (run seed steps n).walk ≡ drawn x.problem seed = subst (λ (b : Bool). IsWalkBy b IsMadeWalk seed x (run seed steps n).before (run seed steps n).walk) d own in
        let e : true ≡ false = sym (ap (λ (v : Walk). v.done) w) ∙ going in
        absurd (cc)

module _ (steps : List PlainStep) (are : AreSteps steps) (rows : (x : PlainStep) → Contains steps x → x.row ≤ 255) where
  can : (ss : List PlainSection) → AllByRecursion (IsSectionIn steps) ss → AllByRecursion CanBeClosed ss
  can [] h = tt
  can (s ∷ ss) h = (closed_can h.0.step s (step_in steps IsStep h.0.step are h.0.there) h.0.searched h.0.names h.0.letters h.0.fit, can ss h.1)

  sized : (ss : List PlainSection) → AllByRecursion (IsSectionIn steps) ss → AllByRecursion IsSizedSection ss
  sized [] h = tt
  sized (s ∷ ss) h = (section_sized h.0.step s (step_in steps IsStep h.0.step are h.0.there) (rows h.0.step h.0.there) h.0.names h.0.fit, sized ss h.1)

  few : (ss : List PlainSection) → AllByRecursion (IsSectionIn steps) ss → AllByRecursion HasFewPlaces ss
  few [] h = tt
  few (s ∷ ss) h = (answer_few h.0.step.problem s.answer (step_in steps IsStep h.0.step are h.0.there).problem.items.few h.0.fit, few ss h.1)

  -- the sections of a log are those of searches
  all_sections : (seed : List ℕ) (ss : List PlainSection) → Along IsReadAt seed (first_search seed steps) ss → AllByRecursion (IsSectionIn steps) ss
  all_sections seed ss h =
      sections_in seed steps ss (first_search seed steps).left (first_search seed steps).found (comes_to_search seed steps []) (λ y k. search_in seed steps [] y k) h

  made_sections : (seed : List ℕ) (ss : List PlainSection) → Along IsMadeAt seed (first_search seed steps) ss → AllByRecursion (IsSectionIn steps) ss
  made_sections seed ss h = all_sections seed ss (along_weaker IsMadeAt IsReadAt seed (first_search seed steps) ss (λ a t k. made_read a.left a.found t k) h)

  -- the numbers of those that a run from the start made fit, and their answers have few places
  pub made_sized : (seed : List ℕ) (n : ℕ) → AllByRecursion IsSizedSection (run seed steps n).past.closed
  made_sized seed n = sized (run seed steps n).past.closed (made_sections seed (run seed steps n).past.closed (run_stands seed steps are n).closed)

  pub made_few : (seed : List ℕ) (n : ℕ) → AllByRecursion HasFewPlaces (run seed steps n).past.closed
  made_few seed n = few (run seed steps n).past.closed (made_sections seed (run seed steps n).past.closed (run_stands seed steps are n).closed)

  -- a log that is ended reads as it was written, whatever its sections were made from
  pub ended_reads_as : (seed : List ℕ) (log : PlainLog) → Along IsReadAt seed (first_search seed steps) log.closed → log.tail ≡ None → log.ended ≡ true → IsLogText (text_of log) log
  ended_reads_as seed log closed tail ended =
      let all : AllByRecursion (IsSectionIn steps) log.closed = all_sections seed log.closed closed in
      written_is_text log
      (record {
        closed = can log.closed all;
        tail = subst (λ t. IfSome t CanBeOpen) (sym tail) tt;
        ended = subst (λ t. IsSome t ↔ (log.ended ≡ false)) (sym tail) (λ h. absurd (none_some h), λ e. absurd (let x = sym ended ∙ e in cc));
      })
      (record { closed = sized log.closed all; tail = subst (λ t. IfSome t IsSizedOpen) (sym tail) tt })

  -- that of a run from the start
  pub ended_reads : (seed : List ℕ) (n : ℕ) (log : PlainLog) → log.closed ≡ (run seed steps n).past.closed → log.tail ≡ None → log.ended ≡ true → IsLogText (text_of log) log
  ended_reads seed n log closed tail ended =
      ended_reads_as seed log
      (subst (Along IsReadAt seed (first_search seed steps)) (sym closed)
      (along_weaker IsMadeAt IsReadAt seed (first_search seed steps) (run seed steps n).past.closed (λ a t k. made_read a.left a.found t k) (run_stands seed steps are n).closed))
      tail ended

  -- a log that goes on reads as it was written
  pub open_reads : (seed : List ℕ) (n : ℕ) (x : PlainStep) (rest : List PlainStep) → (run seed steps n).left ≡ x ∷ rest → (run seed steps n).walk.done ≡ false → IsLogText (text_of (log_of false (run seed steps n))) (log_of false (run seed steps n))
  open_reads seed n x rest left going =
      let d : is_drawn x.stage ≡ false = open_searched seed steps are n x rest left going in
      let made : IsMadeWalk x (run seed steps n).before (run seed steps n).walk = subst (λ (b : Bool). IsWalkBy b IsMadeWalk seed x (run seed steps n).before (run seed steps n).walk) d own in
      let step : IsStep x = step_in steps IsStep x are there in
      let letters : All IsLetter (all_letters (run seed steps n).before (run seed steps n).walk) =
      subst (λ (before : List ℕ). All IsLetter (all_letters before (run seed steps n).walk)) (sym made.0) (All-from_recursion IsLetter (letters_of (run seed steps n).walk.tokens) (letters_fit (run seed steps n).walk.tokens)) in
      written_is_text (log_of false (run seed steps n))
      (record {
        closed = can (run seed steps n).past.closed all;
        tail = subst (λ t. IfSome t CanBeOpen) (sym tail_is) (record { stage = searched_stage x.stage x.problem step.stage d; letters = letters });
        ended = (λ h. open_is, λ e. subst (λ t. IsSome t) (sym tail_is) refl);
      })
      (record {
        closed = sized (run seed steps n).past.closed all;
        tail = subst (λ t. IfSome t IsSizedOpen) (sym tail_is) (record { row = rows x there; digest = (length-sha256 (problem_bytes x.problem), hash_fits (problem_bytes x.problem)) });
      })
    where
      stands : IsFromStart seed steps (run seed steps n)
      stands = run_stands seed steps are n

      own : IsWalkBy (is_drawn x.stage) IsMadeWalk seed x (run seed steps n).before (run seed steps n).walk
      own = subst (λ (xs : List PlainStep). IsWalkAt IsMadeWalk seed xs (run seed steps n).before (run seed steps n).walk) left stands.walk

      there : Contains steps x
      there = subst (λ (xs : List PlainStep). Contains xs x) (sym (stands.left.1 ∙ ap (λ (xs : List PlainStep). stands.left.0 ++ xs) left)) (contains_behind stands.left.0 x rest)

      all : AllByRecursion (IsSectionIn steps) (run seed steps n).past.closed
      all = made_sections seed (run seed steps n).past.closed stands.closed

      tail_is : (log_of false (run seed steps n)).tail ≡ Some (record { row = x.row; stage = x.stage; digest = digest_of x.problem; letters = all_letters (run seed steps n).before (run seed steps n).walk })
      tail_is = ap (λ (xs : List PlainStep). tail_of (run seed steps n) xs) left

      open_is : (log_of false (run seed steps n)).ended ≡ false
      open_is = ap is_over left
