-- Rows and steps of a plan.
use Rattle.std.specs.Prelude.{ℕ, ◌≡◌, ◌≢◌, ◌≤◌, ◌==◌, Bool, true, false, List, [], ◌∷◌, All, Contains, IsTrue, length, find, unwrap_or, Some, cond}
use Rattle.std.specs.List.{AllByRecursion, flat_map}
use Rattle.std.proofs.Common.{refl, sym, ap, subst, ◌∙◌, inl, inr, arith}
use Rattle.std.proofs.lemmas.List.{length-map}
use Rattle.std.proofs.lemmas.List.Elements.{All-contains, All-from_recursion, All-head, All-tail, Contains-append_cases, Contains-append_right}
use Rattle.fund_base.proofs.Lists.{in_tail}
use Rattle.output_groups.proofs.Members.{from_map, head_in}
use Rattle.output_groups.specs.Ladder.{ladder_of}
use Rattle.output_groups.specs.PoolOf.{pool_of}
use Rattle.output_groups.specs.declared.rows.Row.{Row}
use Rattle.pick_problem.specs.Admissible.{IsAdmissible}
use Rattle.search_run.specs.Found.{IsResultOf, PlainFound, found_at}
use Rattle.search_run.specs.Step.{PlainStep}
use Rattle.fund_steps.specs.Plan.{PlainPlan, ladder_in}
use Rattle.fund_steps.specs.Basis.{basis_of}
use Rattle.fund_steps.specs.Searches.{PlainRow, is_high, row_in, rows_in, step_by, steps_at, steps_of as steps_by, terms_in as terms_by, turns_in}
use Rattle.fund_steps.specs.Turns.{turns_of}
use Rattle.fund_steps.specs.declared.turns.Turn.{Turn}
use Rattle.fund_plan.specs.Steps.{is_given, pool_in, problem_at, steps_of, terms_in}
use Rattle.fund_plan.specs.Chosen.{no_row, row_among, row_of}

-- what is in a list of lists is in one of them
from_flat : {X Y : Type 0} (f : X → List Y) (xs : List X) (y : Y) → Contains (flat_map f xs) y → (x : X) × Contains xs x × Contains (f x) y
from_flat f [] y h = absurd (omega (arith, h.1))
from_flat f (x ∷ xs) y h =
    elim (Contains-append_cases (f x) (flat_map f xs) y h) [
      | inl here ↦ (x, head_in x xs, here)
      | inr later ↦ (let deep = from_flat f xs y later in (deep.0, in_tail x xs deep.0 deep.1, deep.2))
    ]

-- where a step of a plan comes from
pub record IsStepOf (p : PlainPlan) (x : PlainStep) : Type 0 where
  pub searched : is_given p ≡ false
  pub row : Row
  pub turn : Turn
  pub in_ladder : Contains (ladder_in p) row
  pub is : x ≡ step_by (terms_in p row) (row_in (basis_of p) row) turn

none_in : {X : Type 0} (x : X) → Contains [] x → ⊥
none_in x h = absurd (omega (arith, h.1))

no_turn : (b : Bool) (ts : List Turn) (t : Turn) → Contains (cond b [] ts) t → b ≡ false
no_turn true ts t h = absurd (none_in t h)
no_turn false ts t h = refl

pub step_of : (p : PlainPlan) (x : PlainStep) → Contains (steps_of p) x → IsStepOf p x
unfolding steps_by
step_of p x h =
    let b = basis_of p in
    let at = from_flat (steps_at b) (rows_in b) x h in
    let by = from_map (step_by (terms_by b at.0) at.0) (turns_in b) x at.2 in
    let row = from_map (row_in b) (ladder_in p) at.0 at.1 in
    record {
      searched = no_turn (is_given p) (turns_of p.request.method (is_high p.request)) by.0 by.1;
      row = row.0;
      turn = by.0;
      in_ladder = row.1;
      is = sym by.2 ∙ ap (λ (r : PlainRow). step_by (terms_by b r) r by.0) (sym row.2);
    }

-- ---- numbers of rows

abbrev IsNumbered : List Row → Row → Type 0
IsNumbered rows row = (row_among rows row.number ≡ row) × (row.number ≢ 0)

numbered_by : (zero_conf include_unsafe : Bool) → AllByRecursion (IsNumbered (ladder_of zero_conf include_unsafe)) (ladder_of zero_conf include_unsafe)
numbered_by false u = ((refl, λ e. absurd cc), ((refl, λ e. absurd cc), tt))
numbered_by true false = ((refl, λ e. absurd cc), ((refl, λ e. absurd cc), ((refl, λ e. absurd cc), ((refl, λ e. absurd cc), ((refl, λ e. absurd cc), ((refl, λ e. absurd cc), tt))))))
numbered_by true true = ((refl, λ e. absurd cc), ((refl, λ e. absurd cc), ((refl, λ e. absurd cc), ((refl, λ e. absurd cc), ((refl, λ e. absurd cc), ((refl, λ e. absurd cc), ((refl, λ e. absurd cc), tt)))))))

pub numbered : (p : PlainPlan) (row : Row) → Contains (ladder_in p) row → IsNumbered (ladder_in p) row
numbered p row h =
    let rows = ladder_in p in
    All-contains (IsNumbered rows) rows row (All-from_recursion (IsNumbered rows) rows (numbered_by p.request.zero_conf p.request.include_unsafe)) h

-- what is so of no row and of each of these is so of the one with a number
row_has : (P : Row → Type 0) → P no_row → (rows : List Row) (n : ℕ) → All P rows → P (row_among rows n)
row_has P none [] n h = none
row_has P none (r ∷ rows) n h = by (r.number == n) (row_has P none rows n (All-tail P r rows h))
  where
    by : (b : Bool) → P (row_among rows n) → P (unwrap_or (cond b (Some r) (find (λ (q : Row). q.number == n) rows)) no_row)
    by true again = All-head P r rows h
    by false again = again

abbrev pub IsFair : Row → Type 0
IsFair r = r.own ≤ r.foreign

fair_by : (zero_conf include_unsafe : Bool) → AllByRecursion IsFair (ladder_of zero_conf include_unsafe)
fair_by false u = (omega arith, (omega arith, tt))
fair_by true false = (omega arith, (omega arith, (omega arith, (omega arith, (omega arith, (omega arith, tt))))))
fair_by true true = (omega arith, (omega arith, (omega arith, (omega arith, (omega arith, (omega arith, (omega arith, tt)))))))

-- a row is laxer to own coins
pub row_fair : (p : PlainPlan) (n : ℕ) → IsFair (row_of p n)
row_fair p n = row_has IsFair (omega arith) (ladder_in p) n (All-from_recursion IsFair (ladder_in p) (fair_by p.request.zero_conf p.request.include_unsafe))

-- a row that takes unsafe coins stands in the ladder only where the request takes them
abbrev IsAsked : Bool → Row → Type 0
IsAsked asked r = IsTrue r.unsafe_too → IsTrue asked

asked_by : (zero_conf include_unsafe : Bool) → AllByRecursion (IsAsked include_unsafe) (ladder_of zero_conf include_unsafe)
asked_by false u = (λ t. absurd cc, (λ t. absurd cc, tt))
asked_by true false = (λ t. absurd cc, (λ t. absurd cc, (λ t. absurd cc, (λ t. absurd cc, (λ t. absurd cc, (λ t. absurd cc, tt))))))
asked_by true true = (λ t. absurd cc, (λ t. absurd cc, (λ t. absurd cc, (λ t. absurd cc, (λ t. absurd cc, (λ t. absurd cc, (λ t. t, tt)))))))

pub row_asked : (p : PlainPlan) (n : ℕ) → IsTrue (row_of p n).unsafe_too → IsTrue p.request.include_unsafe
row_asked p n =
    let u = p.request.include_unsafe in
    row_has (IsAsked u) (λ t. absurd cc) (ladder_in p) n (All-from_recursion (IsAsked u) (ladder_in p) (asked_by p.request.zero_conf u))

-- ---- results

-- where a result of a plan comes from
pub record IsFoundIn (p : PlainPlan) (f : PlainFound) : Type 0 where
  pub searched : is_given p ≡ false
  pub row : Row
  pub turn : Turn
  pub in_ladder : Contains (ladder_in p) row
  pub row_is : row_of p f.row ≡ row
  pub some_row : f.row ≢ 0
  pub stage_is : f.stage ≡ turn.stage
  pub admissible : IsAdmissible (problem_at p row turn.stage) f.places
  pub is : f ≡ found_at (step_by (terms_in p row) (row_in (basis_of p) row) turn) f.places

pub found_in : (p : PlainPlan) (f : PlainFound) → IsResultOf (steps_of p) f → IsFoundIn p f
found_in p f h =
    let there : Contains (steps_of p) h.step = subst (λ (xs : List PlainStep). Contains xs h.step) (sym h.parts) (Contains-append_right h.front (h.step ∷ h.rest) h.step (head_in h.step h.rest)) in
    let at = step_of p h.step there in
    let number : f.row ≡ at.row.number = ap (λ (g : PlainFound). g.row) h.is ∙ ap (λ (x : PlainStep). x.row) at.is in
    let known = numbered p at.row at.in_ladder in
    record {
      searched = at.searched;
      row = at.row;
      turn = at.turn;
      in_ladder = at.in_ladder;
      row_is = ap (row_among (ladder_in p)) number ∙ known.0;
      some_row = λ e. known.1 (sym number ∙ e);
      stage_is = ap (λ (g : PlainFound). g.stage) h.is ∙ ap (λ (x : PlainStep). x.stage) at.is;
      admissible = subst (λ (x : PlainStep). IsAdmissible x.problem f.places) at.is h.admissible;
      is = h.is ∙ ap (λ (x : PlainStep). found_at x f.places) at.is;
    }

-- the items of a pool are those of its groups
pub items_of : (p : PlainPlan) (row : Row) → length (pool_in p row).items ≡ length (pool_in p row).groups
unfolding pool_of
items_of p row = length-map _ _
