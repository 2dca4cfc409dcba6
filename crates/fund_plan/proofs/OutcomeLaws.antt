-- What an outcome of a plan pays.
use Rattle.std.specs.Prelude.{ℕ, ◌≡◌, ◌<◌, Bool, true, false, List, [], ◌∷◌, All, length, slice_index_or, Option, Some, None, if◌then◌else◌}
use Rattle.std.proofs.Common.{refl, arith}
use Rattle.std.proofs.lemmas.List.{length-append}
use Rattle.std.proofs.lemmas.List.Elements.{All-contains, All-contains_itself, Contains-get_or}
use Rattle.closing_log.specs.declared.mark.Mark.{Mark}
use Rattle.closing_log.specs.declared.mark.Mark.TheVariants as mark
use Rattle.coin_candidates.specs.declared.candidate.Candidate.{Candidate}
use Rattle.output_groups.specs.Measures.{IsGroup}
use Rattle.pick_problem.specs.Problem.{Rising}
use Rattle.search_run.specs.Found.{IsResultOf, PlainFound}
use Rattle.search_run.specs.Stands.{IsEndOf}
use Rattle.search_run.specs.declared.ending.End.{End}
use Rattle.search_run.specs.declared.ending.End.TheVariants as ends
use Rattle.fund_steps.proofs.BumpLaws.{presets_are, presets_fit, presets_held, presets_sorted}
use Rattle.fund_steps.specs.Listed.{burden_in, presets_in}
use Rattle.fund_steps.specs.Plan.{IsPlan, PlainPlan}
use Rattle.fund_steps.specs.Presets.{presets_of}
use Rattle.fund_steps.specs.Terms.{load_of, rates_of}
use Rattle.fund_steps.specs.declared.presets.Presets.{Presets}
use Rattle.fund_steps.specs.declared.presets.Presets.TheVariants.{Short, Plain, Change}
use Rattle.fund_plan.specs.Answer.{ArePayments, HasSelection, IsPayment, IsSelection, PaysAlone, given_from}
use Rattle.fund_plan.specs.Chosen.{chosen_at, coins_at, funded_at, load_for, mark_of, members, row_of}
use Rattle.fund_plan.specs.Outcome.{by_end, by_presets, given_of}
use Rattle.fund_plan.specs.Pays.{payment_from, payment_of}
use Rattle.fund_plan.specs.Steps.{is_given, pool_in, steps_of}
use Rattle.fund_plan.specs.declared.outcome.Outcome.{Outcome}
use Rattle.fund_plan.specs.declared.outcome.Outcome.TheVariants.{Funded, NoSelection}
use Rattle.fund_plan.proofs.FoundLaws.{found_pays, named, together}
use Rattle.fund_plan.proofs.BringLaws.{groups_in}
use Rattle.fund_plan.proofs.PaysLaws.{pays_change, pays_plain, pays_some, selection_is}
use Rattle.fund_plan.proofs.SpendLaws.{ones}

-- ---- the presets alone

given_pays : (p : PlainPlan) (change : Option ℕ) → IsPlan p → PaysAlone p (presets_in p) change (payment_from p.request p.change (presets_in p) change) → IsPayment p (given_from p (presets_in p) change)
given_pays p change h pays = record {
  candidates = presets_held p h;
  presets = All-contains_itself (presets_in p);
  at_hand = All-contains_itself (presets_in p);
  coins = presets_fit p h;
  pays = pays;
  weight_is = refl;
  waste_is = refl;
}

-- a payment that can be written
pub record IsDone (p : PlainPlan) (o : Outcome) : Type 0 where
  pub payments : ArePayments p o
  pub selection : HasSelection p.request o

given_done : (p : PlainPlan) (change : Option ℕ) → IsPlan p → PaysAlone p (presets_in p) change (payment_from p.request p.change (presets_in p) change) → IsDone p (Funded (given_from p (presets_in p) change))
given_done p change h pays =
    let given = presets_in p in
    record {
      payments = given_pays p change h pays;
      selection = selection_is p.request p.change (load_of p.request p.change given (burden_in p)) (given_from p given change) (payment_from p.request p.change given change) (presets_fit p h) (pays_some p.request p.change given (burden_in p) change (payment_from p.request p.change given change) pays) pays;
    }

given_by : (p : PlainPlan) (way : Presets) → IsPlan p → presets_of (rates_of p.request) (load_of p.request p.change (presets_in p) (burden_in p)) ≡ way → IsDone p (by_presets p way)
given_by p Short h e = record { payments = tt; selection = tt }
given_by p Plain h e = given_done p None h (pays_plain p.request p.change (presets_in p) (burden_in p) (presets_sorted p (presets_in p) (presets_are p h)) e)
given_by p (Change n) h e = given_done p (Some n) h (pays_change p.request p.change (presets_in p) (burden_in p) n (presets_sorted p (presets_in p) (presets_are p h)) e)

presets_done : (p : PlainPlan) → IsPlan p → IsDone p (given_of p)
unfolding given_of
presets_done p h = given_by p (presets_of (rates_of p.request) (load_of p.request p.change (presets_in p) (burden_in p))) h refl

-- ---- results

some_members : (rate : ℕ) (groups : List (List Candidate)) (t : ℕ) (places : List ℕ) → All (IsGroup rate) groups → Rising (length groups) t places → 0 < length places → 0 < length (members groups places)
some_members rate groups t [] fit rising some = absurd (omega (arith, some))
some_members rate groups t (j ∷ places) fit rising some =
    let first = All-contains (IsGroup rate) groups (slice_index_or groups j []) fit (Contains-get_or groups j [] rising.1) in
    omega (arith, first.some, length-append (slice_index_or groups j []) (members groups places))

-- it has a coin, its coins are within their bounds, and its change is within what they are worth
pub found_selection : (p : PlainPlan) (mark : Mark) (f : PlainFound) → IsPlan p → IsResultOf (steps_of p) f → IsSelection p.request (funded_at p mark f)
found_selection p mark f h result =
    let a = found_pays p mark f h result in
    let at = named p f result in
    let row = row_of p f.row in
    let chosen = chosen_at p row f.places in
    let some = some_members p.request.rate (pool_in p row).groups 0 f.places (groups_in p row h) at.rising at.admissible.some in
    let all = together (λ (c : Candidate). 1) p row f.places h at.rising in
    selection_is p.request p.change (load_for p f.row) (funded_at p mark f) (payment_of p.request p.change (funded_at p mark f)) a.coins
    (omega (arith, some, all, ones chosen, ones (coins_at p row f.places)))
    a.pays

-- ---- ends of a run

when : (p : PlainPlan) (b : Bool) → IsPlan p → IsDone p (if b then given_of p else NoSelection)
when p true h = presets_done p h
when p false h = record { payments = tt; selection = tt }

pub end_done : (p : PlainPlan) (e : End) → IsPlan p → IsEndOf (steps_of p) e → IsDone p (by_end p e)
end_done p (ends.Ended None) h is = when p (is_given p) h
end_done p (ends.Ended (Some f)) h is = record { payments = found_pays p (mark_of f.stage) f h is; selection = found_selection p (mark_of f.stage) f h is }
end_done p (ends.Partial f) h is = record { payments = found_pays p mark.Partial f h is; selection = found_selection p mark.Partial f h is }
end_done p ends.Unfinished h is = record { payments = tt; selection = tt }
