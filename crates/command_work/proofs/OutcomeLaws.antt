-- What a workload comes to.
use Rattle.std.proofs.Common.{◌≡◌, ◌∙◌, ℕ, ◌≤◌, [], Option, Some, None, refl, sym, ap}
use Rattle.std.specs.Prelude.{List, codes}
use Rattle.fund_plan.specs.Outcome.{outcome_at}
use Rattle.fund_plan.specs.declared.outcome.Outcome.{Outcome as Answer}
use Rattle.fund_plan.specs.declared.outcome.Outcome.TheVariants as answers
use Rattle.wallet_text.specs.WalletRules.{AreDistinctEarlier}
use Rattle.wallet_text.specs.WalletText.{earlier_txids, repeat_from}
use Rattle.command_work.specs.Load.{earlier_of, request_of, wallet_of}
use Rattle.command_end.specs.Names.{Sources}
use Rattle.command_inputs.proofs.OutcomeLaws.{due_is, inputs_due}
use Rattle.command_inputs.specs.Cause.{Cause}
use Rattle.command_inputs.specs.Outcome as payments
use Rattle.command_inputs.specs.Inputs.{AreInputs}
use Rattle.command_inputs.specs.Names.{Payment}
use Rattle.command_work.specs.Outcome.{IsCollision, Outcome, Refused, by_repeat, outcome_of, load_of, load_plan, repeat_cause, run_of, summed}
use Rattle.command_work.proofs.PlanLaws.{load_keeps}
use Rattle.command_work.proofs.RepeatLaws.{distinct_where_none, none_found, repeat_first, repeat_found}

pub collision_due : (number count : ℕ) (cause : Cause) → IsCollision number count cause → outcome_of number count ≡ Refused cause
unfolding outcome_of
collision_due number count cause h = ap (by_repeat number count) (repeat_found (earlier_of number count) h.place h.first) ∙ ap (λ (x : Cause). Refused x) (sym h.cause_is)

pub distinct_due : (number count : ℕ) → AreDistinctEarlier (earlier_of number count) → outcome_of number count ≡ summed number count (run_of number count)
unfolding outcome_of
distinct_due number count distinct = ap (by_repeat number count) (none_found (earlier_of number count) distinct)

-- the run of a workload whose plan keeps its rules
run_is : (number count : ℕ) (o : Answer) → 1 ≤ count → count ≤ 10_000 → AreDistinctEarlier (earlier_of number count) → outcome_at (load_plan number count) 100_000 ≡ o → run_of number count ≡ payments.by_answer (load_of number count) (request_of number count) o
run_is number count o some most distinct is = due_is (load_of number count) (request_of number count) o (load_keeps number count some most distinct) is

pub answer_due : (number count : ℕ) (o : Answer) → 1 ≤ count → count ≤ 10_000 → AreDistinctEarlier (earlier_of number count) → outcome_at (load_plan number count) 100_000 ≡ o → outcome_of number count ≡ summed number count (payments.by_answer (load_of number count) (request_of number count) o)
answer_due number count o some most distinct is = distinct_due number count distinct ∙ ap (summed number count) (run_is number count o some most distinct is)

-- what a run comes to is no refusal
none_refused : (number count : ℕ) (cause : Cause) (o : Answer) → summed number count (payments.by_answer (load_of number count) (request_of number count) o) ≡ Refused cause → ⊥
none_refused number count cause answers.Unfinished e = absurd cc
none_refused number count cause answers.NoSelection e = absurd cc
none_refused number count cause (answers.Funded f) e = absurd cc

pub only_collision : (number count : ℕ) (cause : Cause) → 1 ≤ count → count ≤ 10_000 → outcome_of number count ≡ Refused cause → IsCollision number count cause
unfolding outcome_of
only_collision number count cause some most is = by (repeat_from [] (earlier_txids (earlier_of number count))) refl is
  where
    by : (o : Option ℕ) → repeat_from [] (earlier_txids (earlier_of number count)) ≡ o → by_repeat number count o ≡ Refused cause → IsCollision number count cause
    by (Some place) found e =
        let whole : ◌≡◌ {A = Outcome} (Refused (repeat_cause place)) (Refused cause) = e in
        let same : repeat_cause place ≡ cause = cc in
        record { place = place; first = repeat_first (earlier_of number count) place found; cause_is = sym same }
    by None found e =
        let distinct : AreDistinctEarlier (earlier_of number count) = distinct_where_none (earlier_of number count) found in
        let run = run_is number count (outcome_at (load_plan number count) 100_000) some most distinct refl in
        absurd (none_refused number count cause (outcome_at (load_plan number count) 100_000) (sym (ap (summed number count) run) ∙ e))

-- files that hold the same come to the same
pub files_due : (files : List ℕ → List ℕ) (s : Sources) (p : Payment) (number count : ℕ) → AreInputs files s p (wallet_of number count) [] (request_of number count) → AreDistinctEarlier (earlier_of number count) → outcome_of number count ≡ summed number count (payments.outcome_of files s p)
files_due files s p number count has distinct =
    distinct_due number count distinct ∙ ap (summed number count) (sym (inputs_due files s p (wallet_of number count) [] (request_of number count) has))
