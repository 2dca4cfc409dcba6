-- What a row comes to behind the searches before it.
use Rattle.std.specs.Prelude.{ℕ, ◌≡◌, ◌≤◌, ◌<◌, ◌+◌, ◌-◌, nat_lt, true, false, List, [], ◌∷◌, ◌++◌, map, None, Ok, Err}
use Rattle.std.proofs.Common.{refl, sym, ap, subst, ◌∙◌, arith}
use Rattle.std.proofs.lemmas.Bool.{cond-false, cond-true, le-ltb, lt-ltb, cond_both}
use Rattle.closing_log.specs.Log.{PlainSection}
use Rattle.coin_candidates.specs.declared.candidate.Candidate.{Candidate}
use Rattle.output_groups.proofs.CountLaws.{one_count}
use Rattle.output_groups.proofs.FormedLaws.{counts}
use Rattle.output_groups.specs.declared.rows.Row.{Row}
use Rattle.pick_problem.proofs.GraftLaws.{tries_within}
use Rattle.pick_problem.specs.Later.{total_value}
use Rattle.pick_problem.specs.Problem.{PlainProblem}
use Rattle.pick_problem.specs.Walk.{Walk, start}
use Rattle.fee_sharing.specs.RowShares.{IsFinished, IsFound, KeepsWorth, PaysShared, borne_of, change_of, chosen_in, load_in, problem_in, unpriced, walk_in}
use Rattle.fund_plan.specs.Pays.{payment_weight}
use Rattle.fund_steps.specs.declared.fault.PlanFault.TheVariants as plans
use Rattle.request_text.specs.PlainRequest.{PlainRequest}
use Rattle.wallet_text.specs.declared.wallet.Watch.{Watch}
use Rattle.command_share.specs.Paying.{PlainPaying}
use Rattle.command_share.specs.Rows.{EndsRow, PlainRun, after_row, by_best, by_walk, kept_worth, paying_from, paying_with, section_of}
use Rattle.command_share.specs.declared.rows.RowsEnd.{RowsEnd}
use Rattle.command_share.specs.declared.rows.RowsEnd.TheVariants as ends

-- ---- the tries of a walk

start_tries : (x : PlainProblem) → (start x).tries ≡ 0
start_tries x = cond_both (nat_lt (total_value x.items) x.lo) _ _ (λ (w : Walk). w.tries ≡ 0) (λ _. refl) (λ _. refl)

-- a finished search made no more tries than it was given
pub few_made : (x : PlainProblem) (row budget made : ℕ) (s : PlainSection) → IsFinished x row budget s made → made ≤ budget
few_made x row budget made s fin = omega (arith, fin.tries_are, (tries_within x (start x) budget).1, start_tries x)

-- ---- runs

abbrev run_with : RowsEnd → List PlainSection → ℕ → PlainRun
run_with e sections tries = record { end = e; sections = sections; tries = tries }

same_run : (e e' : RowsEnd) (s s' : List PlainSection) (t t' : ℕ) → e ≡ e' → s ≡ s' → t ≡ t' → run_with e s t ≡ run_with e' s' t'
same_run e e' s s' t t' a b c =
    ap (λ (x : RowsEnd). run_with x s t) a ∙ (ap (λ (x : List PlainSection). run_with e' x t) b ∙ ap (λ (x : ℕ). run_with e' s' x) c)

module _ (r : PlainRequest) (w : Watch) (row : Row) (cs : List Candidate) (before : PlainRun) where
  abbrev budget : ℕ
  budget = r.tries - before.tries

  abbrev k : Walk
  k = walk_in r w row cs budget

  after_is : ((n : ℕ) → KeepsWorth r row cs n → n ≤ 10_000) → after_row r w row cs before ≡ Ok (by_walk r w row cs before k)
  unfolding after_row
  after_is few =
      cond-false (nat_lt 10_000 (kept_worth r row cs)) (Err (plans.TooMany row.number (kept_worth r row cs))) (Ok (by_walk r w row cs before k))
      (le-ltb 10_000 (kept_worth r row cs) (few (kept_worth r row cs) (counts r.group row 0 (map unpriced cs))))

  kept_is : (n : ℕ) → KeepsWorth r row cs n → n ≡ kept_worth r row cs
  kept_is n keeps = one_count r.group row 0 (map unpriced cs) n (kept_worth r row cs) keeps (counts r.group row 0 (map unpriced cs))

  -- the row keeps too many groups
  pub crowded_row : (n : ℕ) → KeepsWorth r row cs n → 10_000 < n → after_row r w row cs before ≡ Err (plans.TooMany row.number n)
  unfolding after_row
  crowded_row n keeps many =
      cond-true (nat_lt 10_000 (kept_worth r row cs)) (Err (plans.TooMany row.number (kept_worth r row cs))) (Ok (by_walk r w row cs before k))
      (lt-ltb 10_000 (kept_worth r row cs) (subst (λ (m : ℕ). 10_000 < m) (kept_is n keeps) many))
      ∙ ap (λ (m : ℕ). Err (plans.TooMany row.number m)) (sym (kept_is n keeps))

  walked : k.done ≡ true → by_walk r w row cs before k ≡ run_with (by_best r w row cs k.best) (before.sections ++ section_of r w row cs k ∷ []) (before.tries + k.tries)
  walked done =
      cond-true k.done (run_with (by_best r w row cs k.best) (before.sections ++ section_of r w row cs k ∷ []) (before.tries + k.tries)) (run_with (ends.Open row.number) before.sections (before.tries + budget)) done

  stays : k.done ≡ false → by_walk r w row cs before k ≡ run_with (ends.Open row.number) before.sections (before.tries + budget)
  stays open' =
      cond-false k.done (run_with (by_best r w row cs k.best) (before.sections ++ section_of r w row cs k ∷ []) (before.tries + k.tries)) (run_with (ends.Open row.number) before.sections (before.tries + budget)) open'

  -- the search is finished with this answer
  finished_run : (e : RowsEnd) (s : PlainSection) (made : ℕ) → ((n : ℕ) → KeepsWorth r row cs n → n ≤ 10_000) → IsFinished (problem_in r w row cs) row.number budget s made
      → by_best r w row cs s.answer ≡ e → after_row r w row cs before ≡ Ok (run_with e (before.sections ++ s ∷ []) (before.tries + made))
  finished_run e s made few fin best =
      after_is few
      ∙ ap (λ (x : PlainRun). Ok x)
      (walked fin.done
      ∙ same_run _ e _ (before.sections ++ s ∷ []) _ (before.tries + made)
      (ap (λ (x : PlainSection). by_best r w row cs x.answer) (sym fin.is) ∙ best)
      (ap (λ (x : PlainSection). before.sections ++ x ∷ []) (sym fin.is))
      (ap (λ (n : ℕ). before.tries + n) (sym fin.tries_are)))

  -- ---- what it comes to

  abbrev Comes : PlainRun → Type 0
  Comes run = (after_row r w row cs before ≡ Ok run) × (EndsRow r w row cs before run run.end × (run.tries ≤ r.tries))

  pub none_row : (s : PlainSection) (made : ℕ) (sections : List PlainSection) → before.tries ≤ r.tries → ((n : ℕ) → KeepsWorth r row cs n → n ≤ 10_000)
      → IsFinished (problem_in r w row cs) row.number budget s made → s.answer ≡ None → sections ≡ before.sections ++ s ∷ [] → Comes (run_with ends.Nothing sections (before.tries + made))
  none_row s made sections most few fin none are =
      let same = finished_run ends.Nothing s made few fin (ap (by_best r w row cs) none) in (
        same ∙ ap (λ (l : List PlainSection). Ok (run_with ends.Nothing l (before.tries + made))) (sym are),
        (
          (s, record { search = record { budget = budget; within = omega arith; tries = made; finished = fin }; none = none }, are, refl),
          omega (arith, few_made (problem_in r w row cs) row.number budget made s fin, most),
        ),
      )

  paying_is : (f : PlainPaying) (places : List ℕ) → f.row ≡ row → f.coins ≡ chosen_in r row cs places → f.change ≡ change_of r (load_in r w row cs) f.coins → f.borne ≡ borne_of r (load_in r w row cs) f.coins f.change
      → f.weight ≡ payment_weight (load_in r w row cs) f.coins f.change → paying_from r w row cs places ≡ f
  paying_is f places own coins change borne weight =
      sym
      (paying_has f own borne weight
      ∙ (ap (paying_with r w row cs f.coins) change
      ∙ ap (λ (l : List Candidate). paying_with r w row cs l (change_of r (load_in r w row cs) l)) coins))
    where
      paying_has : (f : PlainPaying) → f.row ≡ row → f.borne ≡ borne_of r (load_in r w row cs) f.coins f.change → f.weight ≡ payment_weight (load_in r w row cs) f.coins f.change → f ≡ paying_with r w row cs f.coins f.change
      paying_has f own borne weight =
          ap (λ (x : Row). record { row = x; coins = f.coins; change = f.change; borne = f.borne; weight = f.weight }) own
          ∙ (ap (λ (x : ℕ). record { row = row; coins = f.coins; change = f.change; borne = x; weight = f.weight }) borne
          ∙ ap (λ (x : ℕ). record { row = row; coins = f.coins; change = f.change; borne = borne_of r (load_in r w row cs) f.coins f.change; weight = x }) weight)

  pub found_row : (f : PlainPaying) (s : PlainSection) (made : ℕ) (sections : List PlainSection) → before.tries ≤ r.tries → ((n : ℕ) → KeepsWorth r row cs n → n ≤ 10_000)
      → IsFinished (problem_in r w row cs) row.number budget s made → IsFound r w row cs s.answer f.coins f.change f.borne → PaysShared r w row cs f.coins f.change f.borne
      → f.row ≡ row → f.weight ≡ payment_weight (load_in r w row cs) f.coins f.change → sections ≡ before.sections ++ s ∷ [] → Comes (run_with (ends.Found f) sections (before.tries + made))
  found_row f s made sections most few fin found pays own weight are =
      let best = ap (by_best r w row cs) found.answer_is ∙ ap ends.Found (paying_is f found.places own found.coins_are found.change_is found.borne_is weight) in
      let same = finished_run (ends.Found f) s made few fin best in (
        same ∙ ap (λ (l : List PlainSection). Ok (run_with (ends.Found f) l (before.tries + made))) (sym are),
        (
          (s, are, record { row_is = own; search = record { budget = budget; within = omega arith; tries = made; finished = fin }; found = found; pays = pays; weight_is = weight }),
          omega (arith, few_made (problem_in r w row cs) row.number budget made s fin, most),
        ),
      )

  pub open_row : (number made : ℕ) → before.tries ≤ r.tries → ((n : ℕ) → KeepsWorth r row cs n → n ≤ 10_000) → made ≡ budget → k.done ≡ false → number ≡ row.number → Comes (run_with (ends.Open number) before.sections (before.tries + made))
  open_row number made most few all open' own =
      let total : before.tries + made ≡ r.tries = omega (arith, all, most) in (
        after_is few ∙ ap (λ (x : PlainRun). Ok x) (stays open' ∙ same_run _ (ends.Open number) _ before.sections _ (before.tries + made) (ap ends.Open (sym own)) refl (ap (λ (n : ℕ). before.tries + n) (sym all))),
        ((own, refl, total, open'), omega (arith, total)),
      )

  -- ---- the same, by what stands at hand

  abbrev finishes : (b : ℕ) → (s : PlainSection) → (made : ℕ) → Type 0
  finishes b s made = IsFinished (problem_in r w row cs) row.number b s made

  pub none_now : (own b : ℕ) (s : PlainSection) (made : ℕ) (sections : List PlainSection) → own ≡ before.tries → b ≡ budget → before.tries ≤ r.tries → ((n : ℕ) → KeepsWorth r row cs n → n ≤ 10_000)
      → finishes b s made → s.answer ≡ None → sections ≡ before.sections ++ s ∷ [] → Comes (run_with ends.Nothing sections (own + made))
  none_now own b s made sections same all most few fin none are =
      subst (λ (n : ℕ). Comes (run_with ends.Nothing sections (n + made))) (sym same) (none_row s made sections most few (subst (λ (n : ℕ). finishes n s made) all fin) none are)

  pub found_now : (own b : ℕ) (f : PlainPaying) (s : PlainSection) (made : ℕ) (sections : List PlainSection) → own ≡ before.tries → b ≡ budget → before.tries ≤ r.tries → ((n : ℕ) → KeepsWorth r row cs n → n ≤ 10_000)
      → finishes b s made → IsFound r w row cs s.answer f.coins f.change f.borne → PaysShared r w row cs f.coins f.change f.borne → f.row ≡ row → f.weight ≡ payment_weight (load_in r w row cs) f.coins f.change
      → sections ≡ before.sections ++ s ∷ [] → Comes (run_with (ends.Found f) sections (own + made))
  found_now own b f s made sections same all most few fin found pays own_row weight are =
      subst (λ (n : ℕ). Comes (run_with (ends.Found f) sections (n + made))) (sym same) (found_row f s made sections most few (subst (λ (n : ℕ). finishes n s made) all fin) found pays own_row weight are)

  pub open_now : (own b number made : ℕ) (sections : List PlainSection) → own ≡ before.tries → b ≡ budget → before.tries ≤ r.tries → ((n : ℕ) → KeepsWorth r row cs n → n ≤ 10_000)
      → made ≡ b → (walk_in r w row cs b).done ≡ false → number ≡ row.number → sections ≡ before.sections → Comes (run_with (ends.Open number) sections (own + made))
  open_now own b number made sections same all most few tried open' own_row are =
      subst (λ (l : List PlainSection). Comes (run_with (ends.Open number) l (own + made))) (sym are)
      (subst (λ (n : ℕ). Comes (run_with (ends.Open number) before.sections (n + made))) (sym same)
      (open_row number made most few (tried ∙ all) (subst (λ (n : ℕ). (walk_in r w row cs n).done ≡ false) all open') own_row))

pub budget_is : (a b x y : ℕ) → a ≡ b → x ≡ y → a - x ≡ b - y
budget_is a b x y e f = ap (λ (n : ℕ). n - x) e ∙ ap (λ (n : ℕ). b - n) f

-- tries of a search beside those before it fit
pub tries_fit : (x : PlainProblem) (row own b made most : ℕ) (s : PlainSection) → IsFinished x row b s made → b ≡ most - own → own ≤ most → own + made ≤ most
tries_fit x row own b made most s fin all low = omega (arith, few_made x row b made s fin, all, low)
