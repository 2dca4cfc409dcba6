-- The log of finished searches reads as it was written.
use Rattle.std.specs.Prelude.{ℕ, ◌≡◌, ◌≤◌, ◌<◌, ◌⊎◌, ◌++◌, false, List, [], ◌∷◌, length, map, All, Contains, Option, Some, None}
use Rattle.std.specs.List.{AllByRecursion}
use Rattle.std.proofs.Common.{refl, sym, ap, subst, ◌∙◌, arith, inl, inr}
use Rattle.std.proofs.lemmas.List.{length-map}
use Rattle.std.proofs.lemmas.List.Elements.{All-contains, All-from_recursion}
use Rattle.closing_log.specs.Log.{PlainSection}
use Rattle.closing_log.specs.LogText.{IsLetter, IsLogText}
use Rattle.closing_log.specs.declared.log.Stage.TheVariants as stage
use Rattle.coin_candidates.specs.declared.candidate.Candidate.{Candidate}
use Rattle.kept_job.proofs.LogLaws.{ArePlain, IsReadAt, ended_reads_as, letters_fit}
use Rattle.output_groups.specs.declared.rows.Row.{Row}
use Rattle.pick_problem.specs.Admissible.{IsFit}
use Rattle.pick_problem.specs.Best.{IsBest}
use Rattle.pick_problem.specs.ClosingTree.{Fork, Leaf, Skip, Tree, tokens_of}
use Rattle.pick_problem.specs.Letters.{IsAcceptedText, letters_of}
use Rattle.pick_problem.specs.Problem.{PlainProblem}
use Rattle.pick_problem.specs.declared.item.Item.{Item}
use Rattle.pick_problem.specs.declared.item.Kind.TheVariants as kind
use Rattle.fee_sharing.specs.RowShares.{IsFinished, problem_in}
use Rattle.request_text.specs.PlainRequest.{PlainRequest}
use Rattle.search_run.specs.Found.{PlainFound, found_of}
use Rattle.search_run.specs.Kept.{Along, first_search}
use Rattle.search_run.specs.Step.{AreSteps, IsStep, PlainStep}
use Rattle.wallet_text.specs.declared.wallet.Watch.{Watch}
use Rattle.command_share.specs.Outcome.{ended_log, log_text}
use Rattle.command_share.specs.Paying.{PlainPaying}
use Rattle.command_share.specs.Rows.{FoundFirst, FoundNone, FoundSecond, IsSearched, first_row, second_row}

-- ---- a finished search is one of a run's steps

tree_some : (tree : Tree) → 0 < length (letters_of (tokens_of tree))
tree_some (Leaf reason) = omega arith
tree_some (Fork chosen without) = omega arith
tree_some (Skip behind) = omega arith

plain_letters : (x : PlainProblem) (a : Option (List ℕ)) (letters : List ℕ) → IsAcceptedText x a letters → ArePlain letters
plain_letters x a letters h =
    let same : letters ≡ letters_of (tokens_of h.2.tree.0) = h.1 ∙ ap letters_of (sym h.2.tree.1) in (
      subst (All IsLetter) (sym h.1) (All-from_recursion IsLetter (letters_of h.0) (letters_fit h.0)),
      subst (λ (l : List ℕ). 0 < length l) (sym same) (tree_some h.2.tree.0),
    )

best_fits : (x : PlainProblem) (a : Option (List ℕ)) → IsBest x a → IsFit x a
best_fits x None h = tt
best_fits x (Some places) h = h.0

zeros : (items : List Item) → AllByRecursion (λ (n : ℕ). n ≤ 100) (map (λ (i : Item). 0) items)
zeros [] = tt
zeros (i ∷ items) = (omega arith, zeros items)

-- a row's search as a step whose results are compared with none
abbrev step_of : (row : ℕ) → PlainProblem → PlainStep
step_of row x = record { row = row; stage = stage.LeanSmall; problem = x; ending = 0; sizes = map (λ (i : Item). 0) x.items; last = false }

finished_step : (x : PlainProblem) (row budget made : ℕ) (s : PlainSection) → x.kind ≡ kind.Lean → IsFinished x row budget s made → IsStep (step_of row x)
finished_step x row budget made s lean fin = record {
  problem = fin.fits;
  stage = lean;
  ending = omega arith;
  sizes = length-map x.items (λ (i : Item). 0);
  few = zeros x.items;
}

read_at : (x : PlainProblem) (row budget made : ℕ) (s : PlainSection) (rest : List PlainStep) (found : List PlainFound) → IsFinished x row budget s made → IsReadAt (record { left = step_of row x ∷ rest; found = found }) s
read_at x row budget made s rest found fin = (
  record {
    row = ap (λ (z : PlainSection). z.row) fin.is;
    stage = ap (λ (z : PlainSection). z.stage) fin.is;
    digest = ap (λ (z : PlainSection). z.digest) fin.is;
  },
  (plain_letters x s.answer s.letters fin.accepted, best_fits x s.answer fin.best),
)

small_in : (steps : List PlainStep) → AllByRecursion (λ (x : PlainStep). x.row ≤ 255) steps → (x : PlainStep) → Contains steps x → x.row ≤ 255
small_in steps small x there = let P : PlainStep → Type 0 = λ y. y.row ≤ 255 in All-contains P steps x (All-from_recursion P steps small) there

-- ---- the searches of both rows

module _ (r : PlainRequest) (w : Watch) (cs : List Candidate) where
  abbrev step_in : Row → PlainStep
  step_in row = step_of row.number (problem_in r w row cs)

  searched_step : (row : Row) (s : PlainSection) → IsSearched r w row cs s → IsStep (step_in row)
  searched_step row s h = finished_step (problem_in r w row cs) row.number h.budget h.tries s refl h.finished

  one_reads : (s : PlainSection) → IsSearched r w first_row cs s → IsLogText (log_text (s ∷ [])) (ended_log (s ∷ []))
  one_reads s h =
      let steps = step_in first_row ∷ [] in
      let along : Along IsReadAt [] (first_search [] steps) (s ∷ []) = (read_at (problem_in r w first_row cs) first_row.number h.budget h.tries s [] [] h.finished, tt) in
      ended_reads_as steps (searched_step first_row s h, tt) (small_in steps (omega arith, tt)) [] (ended_log (s ∷ [])) along refl refl

  two_reads : (s t : PlainSection) → IsSearched r w first_row cs s → IsSearched r w second_row cs t → IsLogText (log_text (s ∷ t ∷ [])) (ended_log (s ∷ t ∷ []))
  two_reads s t h g =
      let steps = step_in first_row ∷ step_in second_row ∷ [] in
      let along : Along IsReadAt [] (first_search [] steps) (s ∷ t ∷ []) = (
        read_at (problem_in r w first_row cs) first_row.number h.budget h.tries s (step_in second_row ∷ []) [] h.finished,
        (read_at (problem_in r w second_row cs) second_row.number g.budget g.tries t [] ([] ++ found_of (step_in first_row) s.answer) g.finished, tt),
      ) in
      ended_reads_as steps (searched_step first_row s h, (searched_step second_row t g, tt)) (small_in steps (omega arith, (omega arith, tt))) [] (ended_log (s ∷ t ∷ [])) along refl refl

  abbrev Reads : List PlainSection → Type 0
  Reads sections = IsLogText (log_text sections) (ended_log sections)

  pub none_reads : (sections : List PlainSection) → FoundNone r w cs sections → IsLogText (log_text sections) (ended_log sections)
  none_reads sections h = subst Reads (sym h.sections_are) (two_reads h.first h.second h.none.search h.neither.search)

  pub found_reads : (sections : List PlainSection) (f : PlainPaying) → (FoundFirst r w cs sections f ⊎ FoundSecond r w cs sections f) → IsLogText (log_text sections) (ended_log sections)
  found_reads sections f (inl h) = subst Reads (sym h.sections_are) (one_reads h.first h.chosen.search)
  found_reads sections f (inr h) = subst Reads (sym h.sections_are) (two_reads h.first h.second h.none.search h.chosen.search)
