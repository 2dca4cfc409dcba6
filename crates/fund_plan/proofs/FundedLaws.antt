-- The payment of a result, made part by part.
use Rattle.std.specs.Prelude.{ℕ, ◌≡◌, ◌≤◌, ◌++◌, List, length, sum_by, Option, IfSome}
use Rattle.std.proofs.Common.{sym, ap, subst, ◌∙◌}
use Rattle.std.proofs.lemmas.List.Elements.{All-contains}
use Rattle.closing_log.specs.declared.log.Stage.{Stage}
use Rattle.closing_log.specs.declared.mark.Mark.{Mark}
use Rattle.fee_rates.specs.declared.terms.PaymentLoad.{PaymentLoad}
use Rattle.fee_rates.specs.declared.terms.Rates.{Rates}
use Rattle.coin_candidates.specs.declared.candidate.Candidate.{Candidate}
use Rattle.output_groups.specs.PlainPool.{PlainPool}
use Rattle.output_groups.specs.declared.rows.Row.{Row}
use Rattle.pick_problem.specs.Problem.{Rising}
use Rattle.search_run.specs.Found.{IsResultOf, PlainFound}
use Rattle.fund_steps.specs.Amounts.{AreWithin}
use Rattle.fund_steps.specs.Basis.{basis_of, load_alone}
use Rattle.fund_steps.specs.Listed.{presets_in}
use Rattle.fund_steps.specs.Plan.{IsPlan, IsRoomy, PlainPlan, ladder_in}
use Rattle.fund_steps.specs.Searches.{load_with}
use Rattle.fund_steps.specs.Selection.{in_order}
use Rattle.fund_steps.specs.Terms.{rates_of}
use Rattle.fund_plan.specs.Chosen.{change_at, change_with, chosen_at, coins_at, funded_at, members, row_of}
use Rattle.fund_plan.specs.Figures.{waste_of}
use Rattle.fund_plan.specs.Pays.{payment_weight}
use Rattle.fund_plan.specs.Selection.{PlainFunded}
use Rattle.fund_plan.specs.Steps.{load_in, pool_in, steps_of}
use Rattle.fund_plan.proofs.FoundLaws.{chosen_fit, found_fit, named}
use Rattle.fund_plan.proofs.OutcomeLaws.{found_selection}

-- What is at hand for the payment of a result: its row, the pool of that row, and what the payment is to carry.
pub record IsMade (p : PlainPlan) (f : PlainFound) (pool : PlainPool) (load : PaymentLoad) : Type 0 where
  pub plan : IsPlan p
  pub result : IsResultOf (steps_of p) f
  pub pool_is : pool ≡ pool_in p (row_of p f.row)
  pub load_is : load ≡ load_in p (row_of p f.row)

-- of a row of that number
pub made : (p : PlainPlan) (f g : PlainFound) (row : Row) (pool : PlainPool) (load : PaymentLoad) → IsPlan p → IsResultOf (steps_of p) f → g ≡ f → row ≡ row_of p g.row → pool ≡ pool_in p row
    → load ≡ load_with (load_alone (basis_of p)) (sum_by (λ (x : List Candidate). length x) pool.groups) → IsMade p f pool load
made p f g row pool load h result is number from carried =
    let here = from ∙ ap (pool_in p) (number ∙ ap (λ (x : PlainFound). row_of p x.row) is) in
    record {
      plan = h;
      result = result;
      pool_is = here;
      load_is = carried ∙ ap (λ (q : PlainPool). load_with (load_alone (basis_of p)) (sum_by (λ (x : List Candidate). length x) q.groups)) here;
    }

pub row_roomy : (p : PlainPlan) (f g : PlainFound) (row : Row) → IsPlan p → IsResultOf (steps_of p) f → g ≡ f → row ≡ row_of p g.row → IsRoomy p row
row_roomy p f g row h result is number =
    let here = number ∙ ap (λ (x : PlainFound). row_of p x.row) is in
    subst (IsRoomy p) (sym here) (All-contains (IsRoomy p) (ladder_in p) (row_of p f.row) h.roomy (named p f result).roomy)

pub places_rise : (p : PlainPlan) (f : PlainFound) (pool : PlainPool) (load : PaymentLoad) (groups : List (List Candidate)) (places : List ℕ) → IsMade p f pool load → groups ≡ pool.groups → places ≡ f.places → Rising (length groups) 0 places
places_rise p f pool load groups places m g at =
    let here = g ∙ ap (λ (x : PlainPool). x.groups) m.pool_is in
    subst (λ (js : List ℕ). Rising (length groups) 0 js) (sym at) (subst (λ (x : List (List Candidate)). Rising (length x) 0 f.places) (sym here) (named p f m.result).rising)

pub chosen_is : (p : PlainPlan) (f : PlainFound) (pool : PlainPool) (load : PaymentLoad) (groups : List (List Candidate)) (places : List ℕ) (chosen : List Candidate) → IsMade p f pool load → groups ≡ pool.groups → places ≡ f.places → chosen ≡ members groups places
    → chosen ≡ chosen_at p (row_of p f.row) f.places
chosen_is p f pool load groups places chosen m g at is =
    let here = g ∙ ap (λ (x : PlainPool). x.groups) m.pool_is in
    is ∙ ap (λ (x : List (List Candidate)). members x places) here ∙ ap (members (pool_in p (row_of p f.row)).groups) at

pub chosen_within : (p : PlainPlan) (f : PlainFound) (pool : PlainPool) (load : PaymentLoad) (chosen : List Candidate) → IsMade p f pool load → chosen ≡ chosen_at p (row_of p f.row) f.places → AreWithin chosen
chosen_within p f pool load chosen m is = subst AreWithin (sym is) (chosen_fit p (row_of p f.row) f.places m.plan (named p f m.result).rising)

pub coins_within : (p : PlainPlan) (f : PlainFound) (pool : PlainPool) (load : PaymentLoad) (coins : List Candidate) → IsMade p f pool load → coins ≡ coins_at p (row_of p f.row) f.places → AreWithin coins
coins_within p f pool load coins m is = subst AreWithin (sym is) (found_fit p f m.plan m.result)

pub change_is : (p : PlainPlan) (f : PlainFound) (pool : PlainPool) (load : PaymentLoad) (rates : Rates) (chosen : List Candidate) (s : Stage) → IsMade p f pool load → rates ≡ rates_of p.request → chosen ≡ chosen_at p (row_of p f.row) f.places → s ≡ f.stage
    → change_with rates load chosen s ≡ change_at p (row_of p f.row) f.stage f.places
change_is p f pool load rates chosen s m r is at =
    let row = row_of p f.row in
    ap (λ (x : Rates). change_with x load chosen s) r
    ∙ ap (λ (l : PaymentLoad). change_with (rates_of p.request) l chosen s) m.load_is
    ∙ ap (λ (cs : List Candidate). change_with (rates_of p.request) (load_in p row) cs s) is
    ∙ ap (change_with (rates_of p.request) (load_in p row) (chosen_at p row f.places)) at

pub change_within : (p : PlainPlan) (f : PlainFound) (pool : PlainPool) (load : PaymentLoad) (change : Option ℕ) (mark : Mark) → IsMade p f pool load → change ≡ change_at p (row_of p f.row) f.stage f.places → IfSome change (λ n. n ≤ 2_100_000_000_000_000)
change_within p f pool load change mark m is = subst (λ (o : Option ℕ). IfSome o (λ n. n ≤ 2_100_000_000_000_000)) (sym is) (found_selection p mark f m.plan m.result).change

-- a payment from its parts
abbrev pub payment_in : PlainPlan → Mark → ℕ → Stage → PaymentLoad → List Candidate → Option ℕ → PlainFunded
payment_in p mark n s l coins change =
    record {
      mark = mark;
      row = n;
      stage = s;
      coins = coins;
      change = change;
      waste = waste_of p.request l coins change;
      weight = payment_weight l coins change;
    }

pub funded_is : (p : PlainPlan) (mark : Mark) (f g : PlainFound) (pool : PlainPool) (load : PaymentLoad) (coins : List Candidate) (change : Option ℕ) → IsMade p f pool load → g ≡ f → coins ≡ coins_at p (row_of p f.row) f.places → change ≡ change_at p (row_of p f.row) f.stage f.places
    → payment_in p mark g.row g.stage load coins change ≡ funded_at p mark f
funded_is p mark f g pool load coins change m is c o =
    ap (λ (x : PlainFound). payment_in p mark x.row x.stage load coins change) is
    ∙ ap (λ (l : PaymentLoad). payment_in p mark f.row f.stage l coins change) m.load_is
    ∙ ap (λ (cs : List Candidate). payment_in p mark f.row f.stage (load_in p (row_of p f.row)) cs change) c
    ∙ ap (payment_in p mark f.row f.stage (load_in p (row_of p f.row)) (coins_at p (row_of p f.row) f.places)) o

pub coins_are : (p : PlainPlan) (f : PlainFound) (presets chosen coins : List Candidate) → presets ≡ presets_in p → chosen ≡ chosen_at p (row_of p f.row) f.places → coins ≡ in_order (presets ++ chosen) → coins ≡ coins_at p (row_of p f.row) f.places
coins_are p f presets chosen coins given is made =
    made ∙ ap (λ (cs : List Candidate). in_order (cs ++ chosen)) given ∙ ap (λ (cs : List Candidate). in_order (presets_in p ++ cs)) is
