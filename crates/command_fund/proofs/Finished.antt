-- How the writing and the printing end is how the command ends.
use Rattle.std.proofs.Common.{◌≡◌, ◌∙◌, ◌++◌, ℕ, List, [], Option, Some, None, inl, inr, refl, sym, ap, subst}
use Rattle.std.specs.Prelude.{◌⊎◌}
use Rattle.fund_shelf.specs.Causes.{OnlyReads, ShelfView, SinkView, Rose}
use Rattle.block_feed.specs.Block.{ChainBlock}
use Rattle.fund_outside.specs.Kept.{KeeperView}
use Rattle.fund_plan.specs.State.{PlanState, moved}
use Rattle.fund_plan.specs.Steps.{steps_of}
use Rattle.request_text.specs.PlainRequest.{PlainRequest}
use Rattle.search_run.specs.Step.{AreSteps}
use Rattle.wallet_text.specs.PlainWallet.{PlainWallet}
use Rattle.fund_files.specs.Chain.{chain_from}
use Rattle.kept_job.proofs.SavingLaws.{first_kept}
use Rattle.kept_job.specs.Kept.{new_of}
use Rattle.kept_job.specs.Saving.{IsSavedBehind}
use Rattle.command_inputs.specs.Digest.{HasDigest}
use Rattle.command_fund.specs.Jobs.{IsLeft}
use Rattle.command_fund.specs.Leaving.{HasLeft, IsNotLeft, IsSavedAnew}
use Rattle.command_inputs.specs.PlanEnds.{IsLeftAt}
use Rattle.command_inputs.specs.declared.funding.Left.{Left}
use Rattle.command_end.specs.declared.status.Status.{Status}
use Rattle.command_end.specs.declared.status.Status.TheVariants as statuses
use Rattle.command_fund.specs.Statuses.{Ends, EndsUnwritten, EndsWithoutMemory, IsReport}
use Rattle.command_inputs.specs.Results.{IsLogLost, IsUnfinished}
use Rattle.command_inputs.specs.Outcome.{Refused, outcome_of, plan_of}
use Rattle.command_end.specs.Printed.{IsEnd, IsPut, IsUnwritten, IsWithoutMemory}
use Rattle.command_end.specs.Names.{Sources}
use Rattle.command_inputs.specs.Names.{Payment}
use Rattle.command_end.specs.AnswerLines.{IsWanting}
use Rattle.command_end.specs.Lines.{GotLine, fault_line}
use Rattle.command_inputs.specs.Cause.{Cause, cause_of, status_of_cause}
use Rattle.command_inputs.specs.Meant.{AreRefusedFor}
use Rattle.command_inputs.specs.Stops.{StopsFor}
use Rattle.command_inputs.specs.Words.{IsStopped, refusal_words}
use Rattle.command_inputs.specs.declared.refusal.Refusal.{Refusal}
use Rattle.command_inputs.specs.declared.refusal.Stop.{Stop}
use Rattle.command_inputs.specs.declared.refusal.Stop.TheVariants as stops
use Rattle.command_inputs.proofs.StopLaws.{refusal_status}

-- what a report is of isn't refused
pub report_due : (told_files : Type 0) (files : List ℕ → List ℕ) (s : Sources) (p : Payment) (report : List ℕ) (log : Option (List ℕ)) → IsReport told_files files s p report log → told_files → (cause : Cause) → outcome_of files s p ≡ Refused cause → ⊥
report_due told_files files s p report (Some log) (inl f) t cause is = let e = sym (f.comes_to t) ∙ is in cc
report_due told_files files s p report (Some log) (inr n) t cause is = let e = sym (n.comes_to t) ∙ is in cc
report_due told_files files s p report None u t cause is = let e = sym (u.comes_to t) ∙ is in cc

-- where a log is lost its writing failed
pub log_lost : (p : Payment) (log : Option (List ℕ)) (shelf shelf' : ShelfView) → IsLogLost p log shelf shelf' → Rose (shelf.writes p.log) (shelf'.writes p.log)
log_lost p (Some log) shelf shelf' h = h
log_lost p None shelf shelf' h = absurd h

unwritten : (told_files told told_jobs : Type 0) (s : Sources) (p : Payment) (job : Option (List ℕ)) (keeper : KeeperView) (report log : List ℕ) (shelf middle shelf' : ShelfView) (sink sink' : SinkView) → middle.writes ≡ shelf.writes → IsReport told_files shelf.files s p report (Some log)
    → IsUnwritten told_files told p.log log report middle shelf' sink sink' → EndsUnwritten told_files told told_jobs s p job shelf shelf' sink sink' keeper keeper
unwritten told_files told told_jobs s p job keeper report log shelf middle shelf' sink sink' writes is (inl h) = (report, Some log, is, inl (subst (λ (w : List ℕ → ℕ). Rose (w p.log) (shelf'.writes p.log)) writes h.0, h.1, λ t. refl))
unwritten told_files told told_jobs s p job keeper report log shelf middle shelf' sink sink' writes is (inr h) = (report, Some log, is, inr (h.0, h.1, h.2, λ t. refl))

without_memory : (told_files told told_jobs : Type 0) (s : Sources) (p : Payment) (job : Option (List ℕ)) (keeper : KeeperView) (report log : List ℕ) (shelf middle shelf' : ShelfView) (sink sink' : SinkView) → middle.writes ≡ shelf.writes → (told_files → middle.files ≡ shelf.files)
    → IsReport told_files shelf.files s p report (Some log) → IsWithoutMemory told_files told p.log log report middle shelf' sink sink' → EndsWithoutMemory told_files told told_jobs s p job shelf shelf' sink sink' keeper keeper
without_memory told_files told told_jobs s p job keeper report log shelf middle shelf' sink sink' writes same is (inl h) = inl (h.0, λ t. refl, λ f. h.1 f ∙ same f)
without_memory told_files told told_jobs s p job keeper report log shelf middle shelf' sink sink' writes same is (inr h) = inr (report, Some log, is, h.0, h.1, h.2, λ t. refl)

pub finish_ends : (told_files told told_jobs : Type 0) (s : Sources) (p : Payment) (job : Option (List ℕ)) (keeper : KeeperView) (report log : List ℕ) (status : Status) (shelf middle shelf' : ShelfView) (sink sink' : SinkView) (result : Status) → IsEnd status → middle.writes ≡ shelf.writes → (told_files → middle.files ≡ shelf.files)
    → IsReport told_files shelf.files s p report (Some log)
    → ((told_files → shelf'.files p.log ≡ log) → (told → sink'.written ≡ sink.written ++ report) → Ends told_files told told_jobs s p job shelf shelf' sink sink' keeper keeper status)
    → (result ≡ status) ⊎ ((result ≡ statuses.WriteFault) ⊎ (result ≡ statuses.Memory))
    → (told_files → result ≡ status → IsEnd status → shelf'.files p.log ≡ log)
    → (told → result ≡ status → IsEnd status → sink'.written ≡ sink.written ++ report)
    → (result ≡ statuses.WriteFault → IsEnd status → IsUnwritten told_files told p.log log report middle shelf' sink sink')
    → (result ≡ statuses.Memory → IsEnd status → IsWithoutMemory told_files told p.log log report middle shelf' sink sink')
    → Ends told_files told told_jobs s p job shelf shelf' sink sink' keeper keeper result
finish_ends told_files told told_jobs s p job keeper report log status shelf middle shelf' sink sink' result end writes same is whole (inl e) written put fault memory =
    subst (λ (x : Status). Ends told_files told told_jobs s p job shelf shelf' sink sink' keeper keeper x) (sym e) (whole (λ f. written f e end) (λ t. put t e end))
finish_ends told_files told told_jobs s p job keeper report log status shelf middle shelf' sink sink' result end writes same is whole (inr (inl e)) written put fault memory =
    subst (λ (x : Status). Ends told_files told told_jobs s p job shelf shelf' sink sink' keeper keeper x) (sym e) (unwritten told_files told told_jobs s p job keeper report log shelf middle shelf' sink sink' writes is (fault e end))
finish_ends told_files told told_jobs s p job keeper report log status shelf middle shelf' sink sink' result end writes same is whole (inr (inr e)) written put fault memory =
    subst (λ (x : Status). Ends told_files told told_jobs s p job shelf shelf' sink sink' keeper keeper x) (sym e) (without_memory told_files told told_jobs s p job keeper report log shelf middle shelf' sink sink' writes same is (memory e end))

-- ---- a run that goes on

-- what is saved anew of the run's plan is kept as the run was left, with the digest of the files
left_is : (told_files told_jobs : Type 0) (files : List ℕ → List ℕ) (s : Sources) (p : Payment) (job digest : Option (List ℕ)) (left : Left (Unit {0})) (keeper keeper' : KeeperView) (w : PlainWallet) (blocks : List ChainBlock) (r : PlainRequest) → HasDigest told_files files s p job digest
    → IsLeftAt (chain_from w blocks) r left.plan → AreSteps (steps_of (plan_of (chain_from w blocks) r)) → IsSavedAnew told_jobs left.plan job digest keeper keeper' → told_jobs → IsLeft told_files files s p (plan_of (chain_from w blocks) r) r.tries job keeper keeper'
left_is told_files told_jobs files s p None digest left keeper keeper' w blocks r named at steps saved t = ap (λ (k : KeeperView). k.jobs) saved
left_is told_files told_jobs files s p (Some job) None left keeper keeper' w blocks r named at steps saved t = absurd named
left_is told_files told_jobs files s p (Some job) (Some digest) left keeper keeper' w blocks r named at steps saved t =
    let plan = plan_of (chain_from w blocks) r in
    let behind : IsSavedBehind digest (moved (new_of plan) r.tries) 0 [] (keeper.jobs job) (keeper'.jobs job) = subst (λ (x : PlanState). IsSavedBehind digest x 0 [] (keeper.jobs job) (keeper'.jobs job)) at.stands (saved t).1 in
    ((saved t).0, (digest, named, first_kept plan r.tries digest (keeper.jobs job) (keeper'.jobs job) steps behind, behind))

module _ (told_files told told_jobs : Type 0) (s : Sources) (p : Payment) (job digest : Option (List ℕ)) (left : Left (Unit {0})) (shelf shelf' : ShelfView) (sink sink' : SinkView) (keeper keeper' : KeeperView) (result : Status)
    (read : OnlyReads told_files shelf shelf') (u : IsUnfinished told_files shelf.files s p left.report.items) where
  put_ends : (told_jobs → IsLeft told_files shelf.files s p (plan_of (chain_from u.wallet u.blocks) u.asked) u.asked.tries job keeper keeper') → IsPut told left.report.items statuses.Unfinished sink sink' result
      → Ends told_files told told_jobs s p job shelf shelf' sink sink' keeper keeper' result
  put_ends kept (inl h) = subst (λ (x : Status). Ends told_files told told_jobs s p job shelf shelf' sink sink' keeper keeper' x) (sym h.0) (left.report.items, u, read.same, h.1, kept)
  put_ends kept (inr (inl h)) = subst (λ (x : Status). Ends told_files told told_jobs s p job shelf shelf' sink sink' keeper keeper' x) (sym h.0) (left.report.items, None, u, inr (h.1, read.same, h.2, kept))
  put_ends kept (inr (inr h)) = subst (λ (x : Status). Ends told_files told told_jobs s p job shelf shelf' sink sink' keeper keeper' x) (sym h.0) (inr (left.report.items, None, u, h.1, read.same, h.2, kept))

  not_left_ends : IsNotLeft told job sink sink' keeper keeper' result → (told_jobs → keeper'.jobs ≡ keeper.jobs) → Ends told_files told told_jobs s p job shelf shelf' sink sink' keeper keeper' result
  not_left_ends (inl h) same = subst (λ (x : Status). Ends told_files told told_jobs s p job shelf shelf' sink sink' keeper keeper' x) (sym h.0) (left.report.items, u, h.1, h.2, h.3)
  not_left_ends (inr h) same = subst (λ (x : Status). Ends told_files told told_jobs s p job shelf shelf' sink sink' keeper keeper' x) (sym h.0) (inl (h.1, same, read.same))

  pub leave_ends : AreSteps (steps_of (plan_of (chain_from u.wallet u.blocks) u.asked)) → IsLeftAt (chain_from u.wallet u.blocks) u.asked left.plan → HasDigest told_files shelf.files s p job digest
      → HasLeft told told_jobs job digest left sink sink' keeper keeper' result → Ends told_files told told_jobs s p job shelf shelf' sink sink' keeper keeper' result
  leave_ends steps at named (inl h) = put_ends (left_is told_files told_jobs shelf.files s p job digest left keeper keeper' u.wallet u.blocks u.asked named at steps h.1) h.0
  leave_ends steps at named (inr h) = not_left_ends h.0 h.1

-- ---- a stop

refused_ends : (told_files told told_jobs : Type 0) (s : Sources) (p : Payment) (job : Option (List ℕ)) (keeper : KeeperView) (refusal : Refusal) (shelf shelf' : ShelfView) (sink sink' : SinkView) → (told_files → AreRefusedFor shelf.files s p (cause_of refusal)) → (told → GotLine (fault_line (refusal_words refusal)) sink sink')
    → (status_of_cause (cause_of refusal) ≡ statuses.Input) ⊎ (status_of_cause (cause_of refusal) ≡ statuses.Limit) → Ends told_files told told_jobs s p job shelf shelf' sink sink' keeper keeper (status_of_cause (cause_of refusal))
refused_ends told_files told told_jobs s p job keeper refusal shelf shelf' sink sink' due line (inl e) = subst (λ (x : Status). Ends told_files told told_jobs s p job shelf shelf' sink sink' keeper keeper x) (sym e) (refusal, e, due, line)
refused_ends told_files told told_jobs s p job keeper refusal shelf shelf' sink sink' due line (inr e) = subst (λ (x : Status). Ends told_files told told_jobs s p job shelf shelf' sink sink' keeper keeper x) (sym e) (refusal, e, due, line)

wanting_ends : (told_files told told_jobs : Type 0) (s : Sources) (p : Payment) (job : Option (List ℕ)) (keeper : KeeperView) (shelf shelf' : ShelfView) (sink sink' : SinkView) (result : Status) → (told_files → shelf'.files ≡ shelf.files) → IsWanting told sink sink' result → Ends told_files told told_jobs s p job shelf shelf' sink sink' keeper keeper result
wanting_ends told_files told told_jobs s p job keeper shelf shelf' sink sink' result same w = subst (λ (x : Status). Ends told_files told told_jobs s p job shelf shelf' sink sink' keeper keeper x) (sym w.0) (inl (w.1, λ t. refl, same))

pub stop_ends : (told_files told told_jobs : Type 0) (s : Sources) (p : Payment) (job : Option (List ℕ)) (keeper : KeeperView) (stop : Stop) (shelf shelf' : ShelfView) (sink sink' : SinkView) (result : Status) → StopsFor told_files s p shelf shelf' stop → (told_files → shelf'.files ≡ shelf.files) → IsStopped told s p stop sink sink' result
    → Ends told_files told told_jobs s p job shelf shelf' sink sink' keeper keeper result
stop_ends told_files told told_jobs s p job keeper (stops.Read file) shelf shelf' sink sink' result h same a = subst (λ (x : Status). Ends told_files told told_jobs s p job shelf shelf' sink sink' keeper keeper x) (sym a.0) (file, h.0, h.1, a.1)
stop_ends told_files told told_jobs s p job keeper (stops.Refused refusal) shelf shelf' sink sink' result h same a =
    subst (λ (x : Status). Ends told_files told told_jobs s p job shelf shelf' sink sink' keeper keeper x) (sym a.0) (refused_ends told_files told told_jobs s p job keeper refusal shelf shelf' sink sink' h a.1 (refusal_status (cause_of refusal)))
stop_ends told_files told told_jobs s p job keeper stops.Keep shelf shelf' sink sink' result h same w = absurd h
stop_ends told_files told told_jobs s p job keeper stops.Memory shelf shelf' sink sink' result h same w = wanting_ends told_files told told_jobs s p job keeper shelf shelf' sink sink' result same w
