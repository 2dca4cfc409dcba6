-- Where the plan of a job stands, turn by turn.
use Rattle.std.specs.Prelude.{ℕ, ◌≡◌, ◌≤◌, ◌+◌, Bool, true, false, List, Option, None, Some, IfSome}
use Rattle.std.proofs.Common.{refl, sym, ap, ◌∙◌, subst, inl, inr, arith, add_assoc, cond}
use Rattle.fund_plan.proofs.ClaimLaws.{funded_claims, none_claims, open_claims}
use Rattle.fund_plan.proofs.EndLaws.{new_told}
use Rattle.fund_plan.proofs.GoingLaws.{cut_goes, cut_stays, pieces_add, taken_stays}
use Rattle.fund_plan.specs.Outcome.{outcome_at}
use Rattle.fund_plan.specs.State.{IsCutShort, PlanState, moved, told}
use Rattle.fund_plan.specs.Steps.{steps_of}
use Rattle.fund_plan.specs.declared.outcome.Outcome.{Outcome}
use Rattle.fund_plan.specs.declared.outcome.Outcome.TheVariants.{Funded, NoSelection, Unfinished}
use Rattle.fund_steps.specs.Plan.{IsPlan, PlainPlan}
use Rattle.search_run.specs.Found.{PlainFound}
use Rattle.search_run.specs.Step.{AreSteps}
use Rattle.desk_machine.proofs.RunLaws.{moved_plan}
use Rattle.desk_machine.specs.Does.{IsLagging}
use Rattle.desk_machine.specs.State.{Job, new_job, new_plan}
use Rattle.desk_machine.specs.Turns.{is_spent, turned}
use Rattle.desk_laws.specs.Claimed.{AreClaims, IsClaimed, IsComeTo, StandsAfter}

-- ---- a state

-- where it stands behind some tries more
record IsMoved (p : PlainPlan) (least : ℕ) (s : PlanState) : Type 0 where
  tries : ℕ
  more : least ≤ tries
  is : s ≡ moved (new_plan p) tries

moved_after : (p : PlainPlan) (n m : ℕ) (s : PlanState) → StandsAfter p n s → IsMoved p n (moved s m)
moved_after p n m s (inr h) = record { tries = n + m; more = omega arith; is = h.1 m }
moved_after p n m s (inl h) = by s.partial refl
  where
    by : (o : Option PlainFound) → s.partial ≡ o → IsMoved p n (moved s m)
    by None none = record {
      tries = n + m;
      more = omega arith;
      is = ap (λ (t : PlanState). moved t m) h ∙ pieces_add (new_plan p) n m (ap (λ (t : PlanState). t.partial) (sym h) ∙ none);
    }
    by (Some f) some = record { tries = n; more = omega arith; is = taken_stays s f m some ∙ h }

-- and where one that ran out of memory does
record IsCutAfter (p : PlainPlan) (least : ℕ) (s : PlanState) : Type 0 where
  tries : ℕ
  more : least ≤ tries
  stands : StandsAfter p tries s

cut_after : (p : PlainPlan) (n m : ℕ) (s t : PlanState) → StandsAfter p n s → IsCutShort s m t → IsCutAfter p n t
cut_after p n m s t stands cut = by s.partial refl stands
  where
    by : (o : Option PlainFound) → s.partial ≡ o → StandsAfter p n s → IsCutAfter p n t
    by (Some f) some stands = record { tries = n; more = omega arith; stands = subst (StandsAfter p n) (sym (cut_stays s t f m some cut)) stands }
    by None none (inl h) =
        let g = cut_goes s t m none cut in
        record {
          tries = n + g.made;
          more = omega arith;
          stands = inr (
            cut.partial ∙ none,
            λ k.
                g.goes k
                ∙ ap (λ (x : PlanState). moved x (g.made + k)) h
                ∙ pieces_add (new_plan p) n (g.made + k) (ap (λ (x : PlanState). x.partial) (sym h) ∙ none)
                ∙ ap (moved (new_plan p)) (sym (add_assoc n g.made k)),
          );
        }
    by None none (inr h) =
        let g = cut_goes s t m none cut in
        record {
          tries = n + g.made;
          more = omega arith;
          stands = inr (cut.partial ∙ none, λ k. g.goes k ∙ h.1 (g.made + k) ∙ ap (moved (new_plan p)) (sym (add_assoc n g.made k)));
        }

-- ---- what it comes to

claims_of : (p : PlainPlan) (n : ℕ) (o : Outcome) → IsPlan p → AreSteps (steps_of p) → outcome_at p n ≡ o → AreClaims p n o
claims_of p n (Funded f) rules steps is = funded_claims p n f rules steps is
claims_of p n NoSelection rules steps is = none_claims p n rules steps is
claims_of p n Unfinished rules steps is = open_claims p n is

come_to : (p : PlainPlan) (n most : ℕ) (o : Outcome) → IsPlan p → AreSteps (steps_of p) → n ≤ most → outcome_at p n ≡ o → IsComeTo p most o
come_to p n most o rules steps few is = record { tries = n; few = few; comes = is; claims = claims_of p n o rules steps is }

more_tries : (p : PlainPlan) (few most : ℕ) (o : Option Outcome) → few ≤ most → IfSome o (IsComeTo p few) → IfSome o (IsComeTo p most)
more_tries p few most None le h = tt
more_tries p few most (Some o) le h = let low = h.few in record { tries = h.tries; few = omega (arith, le, low); comes = h.comes; claims = h.claims }

-- ---- a job

-- its plan is this one, of which all is claimed
pub record Follows (p : PlainPlan) (j : Job) : Type 0 where
  pub plan : j.state.plan ≡ p
  pub rules : IsPlan p
  pub steps : AreSteps (steps_of p)
  pub tries : ℕ
  pub stands : StandsAfter p tries j.state
  pub answered : IfSome j.answer (IsComeTo p tries)

pub as_claimed : (p : PlainPlan) (j : Job) → Follows p j → IsClaimed j
as_claimed p j f =
    let h = subst (λ (q : PlainPlan). Follows q j) (sym f.plan) f in
    record { rules = h.rules; steps = h.steps; tries = h.tries; stands = h.stands; answered = h.answered }

follows : (j : Job) → IsClaimed j → Follows j.state.plan j
follows j h = record { plan = refl; rules = h.rules; steps = h.steps; tries = h.tries; stands = h.stands; answered = h.answered }

pub new_claimed : (name : List ℕ) (p : PlainPlan) → IsPlan p → AreSteps (steps_of p) → IsClaimed (new_job name p)
new_claimed name p rules steps = record {
  rules = rules;
  steps = steps;
  tries = 0;
  stands = inr (refl, λ m. ap (moved (new_plan p)) (zero_add m));
  answered = tt;
}
  where
    zero_add : (m : ℕ) → m ≡ 0 + m
    zero_add m = omega arith

pub turned_claimed : (j : Job) (n : ℕ) → IsClaimed j → IsClaimed (turned j n)
turned_claimed j n h =
    let p = j.state.plan in
    let m = moved_after p h.tries n j.state h.stands in
    let comes : outcome_at p m.tries ≡ told (moved j.state n) = sym (ap told m.is ∙ new_told (new_plan p) m.tries refl refl) in
    as_claimed p (turned j n)
    (record {
      plan = moved_plan j.state n;
      rules = h.rules;
      steps = h.steps;
      tries = m.tries;
      stands = inl m.is;
      answered = by (is_spent j.state n) (more_tries p h.tries m.tries j.answer m.more h.answered) (come_to p m.tries m.tries (told (moved j.state n)) h.rules h.steps (omega arith) comes);
    })
  where
    by : {most : ℕ} (b : Bool) → IfSome j.answer (IsComeTo j.state.plan most) → IsComeTo j.state.plan most (told (moved j.state n)) → IfSome (cond b j.answer (Some (told (moved j.state n)))) (IsComeTo j.state.plan most)
    by true old new = old
    by false old new = new

pub lagging_claimed : (j k : Job) (n : ℕ) → IsClaimed j → IsLagging j n k → IsClaimed k
lagging_claimed j k n h lag =
    let p = j.state.plan in
    let m = cut_after p h.tries n j.state k.state h.stands lag.state in
    as_claimed p k
    (record {
      plan = lag.state.plan;
      rules = h.rules;
      steps = h.steps;
      tries = m.tries;
      stands = m.stands;
      answered = subst (λ (o : Option Outcome). IfSome o (IsComeTo p m.tries)) (sym lag.answer) (more_tries p h.tries m.tries j.answer m.more h.answered);
    })
