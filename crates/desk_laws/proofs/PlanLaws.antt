-- The plan of a job that is opened keeps the rules of a plan.
use Rattle.std.specs.Prelude.{ℕ, ◌≡◌, ◌≤◌, nat_lt, List, [], ◌∷◌, All, Bool, true, false, not, Option, None, Some, Result, Ok, Err, is_some}
use Rattle.std.proofs.Common.{refl, sym, ap, subst, cond, arith}
use Rattle.std.proofs.lemmas.Bool.{ltb-false}
use Rattle.std.proofs.lemmas.List.Elements.{All-cons, All-nil}
use Rattle.std.proofs.lemmas.Option.{none-some}
use Rattle.coin_candidates.specs.Candidates.{AreCandidates}
use Rattle.coin_candidates.specs.declared.candidate.Candidate.{Candidate}
use Rattle.fund_base.specs.declared.outpoint.OutPoint.{OutPoint}
use Rattle.fund_desk.proofs.LookLaws.{candidates_filter}
use Rattle.fund_files.specs.declared.chain.Chain.{Chain}
use Rattle.fund_steps.proofs.BumpLaws.{no_bump}
use Rattle.fund_steps.proofs.PresetLaws.{all_eligible}
use Rattle.fund_steps.specs.Amounts.{value_of}
use Rattle.fund_steps.specs.Faults.{by_missing, crowded_among, fault_of, kept_in}
use Rattle.fund_steps.specs.Listed.{listed_in}
use Rattle.fund_steps.specs.Plan.{HasEligible, IsPlan, IsRoomy, IsWithin, PlainPlan, coins_in, ladder_in}
use Rattle.fund_steps.specs.Selection.{first_missing, unlisted}
use Rattle.fund_steps.specs.declared.fault.PlanFault.{PlanFault}
use Rattle.fund_steps.specs.declared.fault.PlanFault.TheVariants.{Total, TooMany}
use Rattle.output_groups.proofs.CountLaws.{one_count}
use Rattle.output_groups.proofs.FormedLaws.{counts}
use Rattle.output_groups.specs.declared.rows.Row.{Row}
use Rattle.payment_states.proofs.FitSteps.{fit}
use Rattle.payment_states.specs.BookOf.{IsBookOf}
use Rattle.request_text.specs.PlainRequest.{IsRequest, PlainRequest}
use Rattle.request_text.specs.RequestText.{request_of}
use Rattle.request_text.specs.declared.fault.Refusal as requests
use Rattle.desk_machine.specs.Machine.{by_fault, plan_by, plan_for, plan_in}
use Rattle.desk_machine.specs.Replies.{HasBump}
use Rattle.desk_machine.specs.State.{PlainDesk, candidates_at, free_at, is_reserved}
use Rattle.desk_laws.specs.Claimed.{IsBooked}

-- ---- a plan without a fault

-- none of its rows keeps too many groups
rows_roomy : (p : PlainPlan) (rows : List Row) → crowded_among p rows ≡ None → All (IsRoomy p) rows
rows_roomy p [] e = All-nil (IsRoomy p)
rows_roomy p (row ∷ rows) e = by (nat_lt 10_000 (kept_in p row)) refl e (rows_roomy p rows)
  where
    by : (b : Bool) → nat_lt 10_000 (kept_in p row) ≡ b → cond b (Some (TooMany row.number (kept_in p row))) (crowded_among p rows) ≡ None → (crowded_among p rows ≡ None → All (IsRoomy p) rows) → All (IsRoomy p) (row ∷ rows)
    by true is h more = absurd (none-some _ (sym h))
    by false is h more =
        let coins = unlisted p.request.coins p.candidates in
        let few : kept_in p row ≤ 10_000 = ltb-false 10_000 (kept_in p row) is in
        All-cons (IsRoomy p) row rows (λ n keeps. let same = one_count p.request.group row p.request.rate coins n (kept_in p row) keeps (counts p.request.group row p.request.rate coins) in omega (arith, same, few)) (more h)

record IsFine (p : PlainPlan) : Type 0 where
  within : IsWithin p
  eligible : All (HasEligible p) p.request.coins
  roomy : All (IsRoomy p) (ladder_in p)

none_wrong : (p : PlainPlan) → fault_of p ≡ None → IsFine p
none_wrong p e = by (nat_lt 2_100_000_000_000_000 (value_of (coins_in p))) (first_missing (listed_in p) p.request.coins) refl refl e
  where
    by : (b : Bool) (o : Option OutPoint) → nat_lt 2_100_000_000_000_000 (value_of (coins_in p)) ≡ b → first_missing (listed_in p) p.request.coins ≡ o → cond b (Some (Total (value_of (coins_in p)))) (by_missing p o) ≡ None → IsFine p
    by true o is there h = absurd (none-some _ (sym h))
    by false (Some point) is there h = absurd (none-some _ (sym h))
    by false None is there h = record { within = ltb-false 2_100_000_000_000_000 (value_of (coins_in p)) is; eligible = all_eligible p there; roomy = rows_roomy p (ladder_in p) h }

-- ---- the coins

book_of : (k : Chain) → IsBooked k → IsBookOf k.wallet k.book
book_of k h =
    let is = h.held.is in
    record {
      blocks = h.held.blocks;
      texts = h.held.texts;
      scripts = ap (λ (x : Chain). x.book.scripts) is;
      confirmed = ap (λ (x : Chain). x.book.confirmed) is;
      pending = ap (λ (x : Chain). x.book.pending) is;
    }

pub fit_at : (k : Chain) (rate : ℕ) → IsBooked k → AreCandidates (candidates_at k rate)
fit_at k rate h = fit k.wallet k.book h.held.rules (book_of k h) h.sound k.tip.height rate

free_fit : (d : PlainDesk) (rate : ℕ) → IsBooked d.held → AreCandidates (free_at d rate)
free_fit d rate h = candidates_filter (λ (c : Candidate). not (is_reserved d.committed c.coin)) (candidates_at d.held rate) (fit_at d.held rate h)

-- ---- the plan

no_txid : (o : Option (List ℕ)) → is_some o ≡ false → o ≡ None
no_txid None e = refl
no_txid (Some txid) e = absurd cc

in_plan : (d : PlainDesk) (r : PlainRequest) → IsBooked d.held → IsRequest r → is_some r.bump ≡ false → fault_of (plan_in d r) ≡ None → IsPlan (plan_in d r)
in_plan d r h rules none e =
    let fine = none_wrong (plan_in d r) e in
    record {
      request = rules;
      bump = no_bump r (free_at d r.rate) (no_txid r.bump none);
      change = h.held.rules.change;
      candidates = free_fit d r.rate h;
      within = fine.within;
      eligible = fine.eligible;
      roomy = fine.roomy;
    }

-- a plan that is made is of a request of the file, which replaces nothing, and has no fault
pub record IsMadeOf (d : PlainDesk) (request : List ℕ) (p : PlainPlan) : Type 0 where
  pub asked : PlainRequest
  pub read : request_of request ≡ Ok asked
  pub none : is_some asked.bump ≡ false
  pub fine : fault_of (plan_in d asked) ≡ None
  pub is : p ≡ plan_in d asked

pub made_of : (d : PlainDesk) (request : List ℕ) (p : PlainPlan) → plan_for d request ≡ Ok p → IsMadeOf d request p
made_of d request p e = by (request_of request) refl e
  where
    by_last : (r : PlainRequest) (o : Option PlanFault) → request_of request ≡ Ok r → is_some r.bump ≡ false → fault_of (plan_in d r) ≡ o → by_fault (plan_in d r) o ≡ Ok p → IsMadeOf d request p
    by_last r (Some f) read none is h = absurd cc
    by_last r None read none is h = let same : plan_in d r ≡ p = cc in record { asked = r; read = read; none = none; fine = is; is = sym same }

    by_bump : (r : PlainRequest) (b : Bool) → request_of request ≡ Ok r → is_some r.bump ≡ b → cond b (Err HasBump) (by_fault (plan_in d r) (fault_of (plan_in d r))) ≡ Ok p → IsMadeOf d request p
    by_bump r true read is h = absurd cc
    by_bump r false read is h = by_last r (fault_of (plan_in d r)) read is refl h

    by : (x : Result PlainRequest requests.Refusal) → request_of request ≡ x → plan_by d x ≡ Ok p → IsMadeOf d request p
    by (Err f) is h = absurd cc
    by (Ok r) is h = by_bump r (is_some r.bump) is refl h

pub made_rules : (d : PlainDesk) (request : List ℕ) (p : PlainPlan) → IsBooked d.held → ((r : PlainRequest) → request_of request ≡ Ok r → IsRequest r) → plan_for d request ≡ Ok p → IsPlan p
made_rules d request p h keeps e =
    let m = made_of d request p e in
    subst IsPlan (sym m.is) (in_plan d m.asked h (keeps m.asked m.read) m.none m.fine)
