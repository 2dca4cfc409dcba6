-- Steps are made as they are defined.
use Rattle.std.specs.Prelude.{ℕ, ◌≡◌, ◌+◌, ◌<◌, ◌≤◌, ◌++◌, List, [], ◌∷◌, All, length, map, sum, sum_by, take, get_or}
use Rattle.std.specs.List.{flat_map, AllByRecursion}
use Rattle.std.proofs.Common.{refl, sym, ap, subst, ◌∙◌, arith, add-one}
use Rattle.std.proofs.Math.Seq.{take-suc}
use Rattle.std.proofs.lemmas.List.{flat_map_more, length-map}
use Rattle.std.proofs.lemmas.List.Elements.{All-cons, All-head, All-nil, All-tail}
use Rattle.std.proofs.lemmas.List.Folds.{flat_map-map, fold-map}
use Rattle.closing_log.specs.declared.log.Stage.{Stage}
use Rattle.closing_log.specs.declared.log.Stage.TheVariants as stage
use Rattle.fee_rates.specs.Terms.{terms_of}
use Rattle.fee_rates.specs.declared.terms.PaymentLoad.{PaymentLoad}
use Rattle.fee_rates.specs.declared.terms.Rates.{Rates}
use Rattle.fee_rates.specs.declared.terms.Terms.{Terms}
use Rattle.coin_candidates.specs.declared.candidate.Candidate.{Candidate}
use Rattle.output_groups.specs.Ladder.{ladder_of}
use Rattle.output_groups.specs.PlainGroups.{PlainGroups, pool_in}
use Rattle.output_groups.specs.Pool.{item_of}
use Rattle.output_groups.specs.PoolOf.{pool_of}
use Rattle.output_groups.specs.declared.rows.Row.{Row}
use Rattle.pick_problem.specs.Pool.{AreItems}
use Rattle.pick_problem.specs.Problem.{IsProblem, PlainProblem}
use Rattle.pick_problem.specs.declared.item.Item.{Item}
use Rattle.search_run.specs.Step.{FitsStage, IsStep, PlainStep}
use Rattle.fund_steps.specs.Basis.{Basis, basis_of, given_in, load_alone}
use Rattle.fund_steps.specs.BasisOf.{IsBasisOf}
use Rattle.fund_steps.specs.Listed.{burden_in, presets_in}
use Rattle.fund_steps.specs.Making.{AreSearchable, AreSearched, steps_by, steps_for, steps_with}
use Rattle.fund_steps.specs.Plan.{PlainPlan}
use Rattle.fund_steps.specs.Presets.{presets_of}
use Rattle.fund_steps.specs.Searches.{PlainRow, ending_by, load_with, problem_by, row_in, sizes_of, step_by, step_with, steps_at, steps_of, turns_for}
use Rattle.fund_steps.specs.Terms.{load_of, rates_of}
use Rattle.fund_steps.specs.Turns.{HasSteps}
use Rattle.fund_steps.specs.declared.turns.Turn.{Turn}

-- ---- one step

fits : (t : Terms) (items : List Item) (s : Stage) → HasSteps s → FitsStage s (problem_by t items s)
fits t items stage.Presets h = h
fits t items stage.Changeless h = refl
fits t items stage.LeanBig h = refl
fits t items stage.Draw h = refl
fits t items stage.LeanSmall h = refl
fits t items stage.Wide h = h

ending_most : (t : Terms) (s : Stage) → AreSearchable t → ending_by t s ≤ 1_000_000_000_000_000_000
ending_most t stage.Presets h = omega (arith, h.change_fee, h.change_spend)
ending_most t stage.Changeless h = omega arith
ending_most t stage.LeanBig h = omega (arith, h.change_fee, h.change_spend)
ending_most t stage.Draw h = omega (arith, h.change_fee, h.change_spend)
ending_most t stage.LeanSmall h = omega (arith, h.change_fee, h.change_spend)
ending_most t stage.Wide h = omega (arith, h.change_fee, h.change_spend)

by_recursion : (sizes : List ℕ) → All (λ n. n ≤ 100) sizes → AllByRecursion (λ n. n ≤ 100) sizes
by_recursion [] h = tt
by_recursion (n ∷ ns) h = (All-head (λ (m : ℕ). m ≤ 100) n ns h, by_recursion ns (All-tail (λ (m : ℕ). m ≤ 100) n ns h))

items_of : (t : Terms) (items : List Item) (s : Stage) → (problem_by t items s).items ≡ items
items_of t items stage.Presets = refl
items_of t items stage.Changeless = refl
items_of t items stage.LeanBig = refl
items_of t items stage.Draw = refl
items_of t items stage.LeanSmall = refl
items_of t items stage.Wide = refl

pub step_fits : (t : Terms) (number : ℕ) (items : List Item) (sizes : List ℕ) (u : Turn) (problem : PlainProblem) (ending : ℕ) (held : List ℕ) → AreSearchable t → AreSearched items sizes → HasSteps u.stage → IsProblem problem → problem ≡ problem_by t items u.stage
    → ending ≡ ending_by t u.stage → held ≡ sizes → IsStep (record { row = number; stage = u.stage; problem = problem; ending = ending; sizes = held; last = u.last })
step_fits t number items sizes u problem ending held terms seen some fine is costs same = record {
  problem = fine;
  stage = subst (FitsStage u.stage) (sym is) (fits t items u.stage some);
  ending = subst (λ (n : ℕ). n ≤ 1_000_000_000_000_000_000) (sym costs) (ending_most t u.stage terms);
  sizes = ap (λ (l : List ℕ). length l) same ∙ sym seen.same ∙ sym (ap (λ (p : PlainProblem). length p.items) is ∙ ap (λ (l : List Item). length l) (items_of t items u.stage));
  few = subst (AllByRecursion (λ n. n ≤ 100)) (sym same) (by_recursion sizes seen.small);
}

-- ---- one row

as_many : (g : PlainGroups) (row : Row) → length (pool_in g row).items ≡ length (sizes_of (pool_in g row).groups)
unfolding pool_of
as_many g row =
    let groups = (pool_in g row).groups in
    length-map groups (item_of g.rate g.long_term) ∙ sym (length-map groups (λ (x : List Candidate). length x))

-- what a search sees of a row's pool is such that steps can be made from it
pub searched : (g : PlainGroups) (row : Row) (items : List Item) (sizes : List ℕ) → items ≡ (pool_in g row).items → sizes ≡ sizes_of (pool_in g row).groups → AreItems items → All (λ n. n ≤ 100) sizes → AreSearched items sizes
searched g row items sizes are have fit small = record {
  fit = fit;
  small = small;
  same = ap (λ (l : List Item). length l) are ∙ as_many g row ∙ sym (ap (λ (l : List ℕ). length l) have);
}

pub total : (groups : List (List Candidate)) → sum (sizes_of groups) ≡ sum_by (λ (g : List Candidate). length g) groups
total groups = fold-map (λ (a n : ℕ). a + n) (λ (g : List Candidate). length g) 0 groups

-- steps by what a search sees of a pool are steps by the pool
seen_by : (t : Terms) (r : PlainRow) (us : List Turn) → map (step_with t r.row.number r.pool.items (sizes_of r.pool.groups)) us ≡ map (step_by t r) us
seen_by t r [] = refl
seen_by t r (u ∷ us) = ap (λ (xs : List PlainStep). step_by t r u ∷ xs) (seen_by t r us)

-- and the steps are the pool's
pub steps_seen : (r : Rates) (l : PaymentLoad) (us : List Turn) (g : PlainGroups) (row : Row) (items : List Item) (sizes : List ℕ) → items ≡ (pool_in g row).items → sizes ≡ sizes_of (pool_in g row).groups
    → steps_by r l us row.number items sizes ≡ steps_with r l us (record { row = row; pool = pool_in g row })
steps_seen r l us g row items sizes are have =
    let pool = pool_in g row in
    ap (λ (x : List Item). steps_by r l us row.number x sizes) are
    ∙ ap (λ (x : List ℕ). steps_by r l us row.number pool.items x) have
    ∙ ap (λ (n : ℕ). map (step_with (terms_of r (load_with l n)) row.number pool.items (sizes_of pool.groups)) us) (total pool.groups)
    ∙ seen_by (terms_of r (load_with l (sum_by (λ (x : List Candidate). length x) pool.groups))) (record { row = row; pool = pool }) us

-- ---- one row more

pub rows_more : (f : Row → List PlainStep) (old now new : List PlainStep) (rows : List Row) (i : ℕ) (d : Row) → i < length rows → now ≡ old ++ flat_map f (take i rows) → new ≡ now ++ f (get_or rows i d) → new ≡ old ++ flat_map f (take (i + 1) rows)
rows_more f old now new rows i d lt was is =
    rw add-one (
    is
    ∙ ap (λ (l : List PlainStep). l ++ f (get_or rows i d)) was
    ∙ flat_map_more f old (take i rows) (get_or rows i d)
    ∙ ap (λ (l : List Row). old ++ flat_map f l) (sym (take-suc rows i d lt))
    )

-- ---- what is made is what is defined

pub load_is_alone : (p : PlainPlan) (presets : List Candidate) (load : PaymentLoad) → load ≡ load_of p.request p.change presets (burden_in p) → presets ≡ presets_in p → load ≡ load_alone (basis_of p)
load_is_alone p presets load is same = is ∙ ap (λ (cs : List Candidate). load_of p.request p.change cs (burden_in p)) same

pub kept_alone : (p : PlainPlan) (presets rest : List Candidate) (rates : Rates) (load : PaymentLoad) → IsBasisOf p presets rest rates load → presets_of rates load ≡ given_in (basis_of p)
kept_alone p presets rest rates load h =
    ap (λ (r : Rates). presets_of r load) h.rates_are ∙ ap (presets_of (rates_of p.request)) (load_is_alone p presets load h.load_is h.presets_are)

pub steps_are : (b : Basis) (load : PaymentLoad) (rest : List Candidate) (turns : List Turn) → load ≡ load_alone b → rest ≡ b.rest → turns ≡ turns_for b.request load →
    flat_map (steps_for b.request load rest turns) (ladder_of b.request.zero_conf b.request.include_unsafe) ≡ steps_of b
unfolding steps_of
steps_are b load rest turns same others us =
    let rows = ladder_of b.request.zero_conf b.request.include_unsafe in
    ap (λ (ts : List Turn). flat_map (steps_for b.request load rest ts) rows) us
    ∙ ap (λ (l : PaymentLoad). flat_map (steps_for b.request l rest (turns_for b.request l)) rows) same
    ∙ ap (λ (cs : List Candidate). flat_map (steps_for b.request (load_alone b) cs (turns_for b.request (load_alone b))) rows) others
    ∙ sym (flat_map-map (steps_at b) (row_in b) rows)

-- ---- all turns but the last, and the last

pub front_holds : (P : Turn → Type 0) (front : List Turn) (last : Turn) → All P (front ++ last ∷ []) → All P front
front_holds P [] last all = All-nil P
front_holds P (x ∷ front) last all = All-cons P x front (All-head P x (front ++ last ∷ []) all) (front_holds P front last (All-tail P x (front ++ last ∷ []) all))

pub last_holds : (P : Turn → Type 0) (front : List Turn) (last : Turn) → All P (front ++ last ∷ []) → P last
last_holds P [] last all = All-head P last [] all
last_holds P (x ∷ front) last all = last_holds P front last (All-tail P x (front ++ last ∷ []) all)
