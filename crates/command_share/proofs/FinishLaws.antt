-- How the writing and the printing end is how the command ends.
use Rattle.std.specs.Prelude.{ℕ, ◌≡◌, ◌⊎◌, ◌++◌, List, Option, Some, None}
use Rattle.std.proofs.Common.{inl, inr, refl, sym, ap, subst, ◌∙◌}
use Rattle.fund_shelf.specs.Causes.{OnlyReads, Rose, ShelfView, SinkView}
use Rattle.command_end.specs.Lines.{GotLine, fault_line}
use Rattle.command_end.specs.Names.{Sources}
use Rattle.command_end.specs.Printed.{IsEnd, IsPut, IsUnwritten, IsWithoutMemory}
use Rattle.command_end.specs.declared.status.Status.{Status}
use Rattle.command_end.specs.declared.status.Status.TheVariants as statuses
use Rattle.command_inputs.proofs.StopLaws.{refusal_status}
use Rattle.command_inputs.specs.Cause.{cause_of, status_of_cause}
use Rattle.command_inputs.specs.Names.{Payment}
use Rattle.command_inputs.specs.Results.{IsLogLost}
use Rattle.command_inputs.specs.Words.{refusal_words}
use Rattle.command_inputs.specs.declared.refusal.Refusal.{Refusal}
use Rattle.command_inputs.specs.declared.refusal.Stop.TheVariants as payments
use Rattle.command_share.specs.Inputs.{AreRefusedFor}
use Rattle.command_share.specs.Outcome.{IsRefusal, outcome_of, status_of}
use Rattle.command_share.specs.Results.{IsUnfinished}
use Rattle.command_share.specs.Statuses.{Ends, EndsUnwritten, EndsWithoutMemory, IsReport, NoneFailed, NoneUnread}
use Rattle.command_share.specs.Stops.{IsStoppedWith, StopsFor}
use Rattle.command_share.specs.declared.stop.Stop.{Stop}
use Rattle.command_share.specs.declared.stop.Stop.TheVariants as stops

module _ (told_files told : Type 0) (s : Sources) (p : Payment) where
  -- ---- a log and a report

  unwritten : (report log : List ℕ) (shelf middle shelf' : ShelfView) (sink sink' : SinkView) → middle.writes ≡ shelf.writes → IsReport told_files shelf.files s p report (Some log)
      → IsUnwritten told_files told p.log log report middle shelf' sink sink' → EndsUnwritten told_files told s p shelf shelf' sink sink'
  unwritten report log shelf middle shelf' sink sink' writes is (inl h) = (report, Some log, is, inl (subst (λ (w : List ℕ → ℕ). Rose (w p.log) (shelf'.writes p.log)) writes h.0, h.1))
  unwritten report log shelf middle shelf' sink sink' writes is (inr h) = (report, Some log, is, inr (h.0, h.1, h.2))

  without_memory : (report log : List ℕ) (shelf middle shelf' : ShelfView) (sink sink' : SinkView) → (told_files → middle.files ≡ shelf.files) → IsReport told_files shelf.files s p report (Some log)
      → IsWithoutMemory told_files told p.log log report middle shelf' sink sink' → EndsWithoutMemory told_files told s p shelf shelf' sink sink'
  without_memory report log shelf middle shelf' sink sink' same is (inl h) = inl (h.0, λ f. h.1 f ∙ same f)
  without_memory report log shelf middle shelf' sink sink' same is (inr h) = inr (report, Some log, is, h.0, h.1, h.2)

  pub finish_ends : (report log : List ℕ) (status : Status) (shelf middle shelf' : ShelfView) (sink sink' : SinkView) (result : Status) → IsEnd status → OnlyReads told_files shelf middle → IsReport told_files shelf.files s p report (Some log)
      → ((told_files → shelf'.files p.log ≡ log) → (told → sink'.written ≡ sink.written ++ report) → Ends told_files told s p shelf shelf' sink sink' status)
      → (result ≡ status) ⊎ ((result ≡ statuses.WriteFault) ⊎ (result ≡ statuses.Memory))
      → (told_files → result ≡ status → IsEnd status → shelf'.files p.log ≡ log)
      → (told → result ≡ status → IsEnd status → sink'.written ≡ sink.written ++ report)
      → (result ≡ statuses.WriteFault → IsEnd status → IsUnwritten told_files told p.log log report middle shelf' sink sink')
      → (result ≡ statuses.Memory → IsEnd status → IsWithoutMemory told_files told p.log log report middle shelf' sink sink')
      → Ends told_files told s p shelf shelf' sink sink' result
  finish_ends report log status shelf middle shelf' sink sink' result end read is whole (inl e) written put fault memory =
      subst (λ (x : Status). Ends told_files told s p shelf shelf' sink sink' x) (sym e) (whole (λ f. written f e end) (λ t. put t e end))
  finish_ends report log status shelf middle shelf' sink sink' result end read is whole (inr (inl e)) written put fault memory =
      subst (λ (x : Status). Ends told_files told s p shelf shelf' sink sink' x) (sym e) (unwritten report log shelf middle shelf' sink sink' read.writes is (fault e end))
  finish_ends report log status shelf middle shelf' sink sink' result end read is whole (inr (inr e)) written put fault memory =
      subst (λ (x : Status). Ends told_files told s p shelf shelf' sink sink' x) (sym e) (without_memory report log shelf middle shelf' sink sink' read.same is (memory e end))

  -- ---- a report alone

  pub put_ends : (report : List ℕ) (shelf shelf' : ShelfView) (sink sink' : SinkView) (result : Status) → OnlyReads told_files shelf shelf' → IsUnfinished told_files shelf.files s p report → IsPut told report statuses.Unfinished sink sink' result → Ends told_files told s p shelf shelf' sink sink' result
  put_ends report shelf shelf' sink sink' result read u (inl h) = subst (λ (x : Status). Ends told_files told s p shelf shelf' sink sink' x) (sym h.0) (report, u, read.same, h.1)
  put_ends report shelf shelf' sink sink' result read u (inr (inl h)) = subst (λ (x : Status). Ends told_files told s p shelf shelf' sink sink' x) (sym h.0) (report, None, u, inr (h.1, read.same, h.2))
  put_ends report shelf shelf' sink sink' result read u (inr (inr h)) = subst (λ (x : Status). Ends told_files told s p shelf shelf' sink sink' x) (sym h.0) (inr (report, None, u, h.1, read.same, h.2))

  -- ---- a stop

  refused_ends : (refusal : Refusal) (shelf shelf' : ShelfView) (sink sink' : SinkView) → (told_files → AreRefusedFor shelf.files s p (cause_of refusal)) → (told → GotLine (fault_line (refusal_words refusal)) sink sink')
      → (status_of_cause (cause_of refusal) ≡ statuses.Input) ⊎ (status_of_cause (cause_of refusal) ≡ statuses.Limit) → Ends told_files told s p shelf shelf' sink sink' (status_of_cause (cause_of refusal))
  refused_ends refusal shelf shelf' sink sink' due line (inl e) = subst (λ (x : Status). Ends told_files told s p shelf shelf' sink sink' x) (sym e) (inl (refusal, e, due, line))
  refused_ends refusal shelf shelf' sink sink' due line (inr e) = subst (λ (x : Status). Ends told_files told s p shelf shelf' sink sink' x) (sym e) (refusal, e, due, line)

  pub stop_ends : (stop : Stop) (shelf shelf' : ShelfView) (sink sink' : SinkView) (result : Status) → StopsFor told_files s p shelf shelf' stop → (told_files → shelf'.files ≡ shelf.files) → IsStoppedWith told s p stop sink sink' result → Ends told_files told s p shelf shelf' sink sink' result
  stop_ends (stops.AsPayment (payments.Read file)) shelf shelf' sink sink' result h same a = subst (λ (x : Status). Ends told_files told s p shelf shelf' sink sink' x) (sym a.0) (file, h.0, h.1, a.1)
  stop_ends (stops.AsPayment (payments.Refused refusal)) shelf shelf' sink sink' result h same a =
      subst (λ (x : Status). Ends told_files told s p shelf shelf' sink sink' x) (sym a.0) (refused_ends refusal shelf shelf' sink sink' h a.1 (refusal_status (cause_of refusal)))
  stop_ends (stops.AsPayment payments.Keep) shelf shelf' sink sink' result h same a = absurd h
  stop_ends (stops.AsPayment payments.Memory) shelf shelf' sink sink' result h same a = subst (λ (x : Status). Ends told_files told s p shelf shelf' sink sink' x) (sym a.0) (inl (a.1, same))
  stop_ends stops.NotShare shelf shelf' sink sink' result h same a = subst (λ (x : Status). Ends told_files told s p shelf shelf' sink sink' x) (sym a.0) (inr (inl (h, a.1)))
  stop_ends (stops.ShareDust index) shelf shelf' sink sink' result h same a = subst (λ (x : Status). Ends told_files told s p shelf shelf' sink sink' x) (sym a.0) (inr (inr (index, h, a.1)))

  -- ---- where nothing failed

  -- what a report is of isn't refused
  report_due : (files : List ℕ → List ℕ) (report : List ℕ) (log : Option (List ℕ)) → IsReport told_files files s p report log → told_files → IsRefusal (outcome_of files s p) → ⊥
  report_due files report (Some log) (inl f) t refusal = subst IsRefusal (f.comes_to t) refusal
  report_due files report (Some log) (inr n) t refusal = subst IsRefusal (n.comes_to t) refusal
  report_due files report None u t refusal = subst IsRefusal (u.comes_to t) refusal

  log_lost : (log : Option (List ℕ)) (shelf shelf' : ShelfView) → IsLogLost p log shelf shelf' → Rose (shelf.writes p.log) (shelf'.writes p.log)
  log_lost (Some log) shelf shelf' h = h
  log_lost None shelf shelf' h = absurd h

  abbrev IsDue : (files : List ℕ → List ℕ) → Status → Type 0
  IsDue files result = (result ≡ status_of (outcome_of files s p)) ⊎ (result ≡ statuses.Memory)

  input_due : (files : List ℕ → List ℕ) (status : Status) (refusal : Refusal) → status_of_cause (cause_of refusal) ≡ status → AreRefusedFor files s p (cause_of refusal) → IsDue files status
  input_due files status refusal e due = inl (sym (ap status_of due.0 ∙ e))

  pub ends_refused : (shelf shelf' : ShelfView) (sink sink' : SinkView) → told_files → NoneUnread s p shelf shelf' → IsRefusal (outcome_of shelf.files s p) → (result : Status) → Ends told_files told s p shelf shelf' sink sink' result → IsDue shelf.files result
  ends_refused shelf shelf' sink sink' t read refusal statuses.Done h = absurd (subst IsRefusal (h.2.comes_to t) refusal)
  ends_refused shelf shelf' sink sink' t read refusal statuses.NoSelection h = absurd (subst IsRefusal (h.2.comes_to t) refusal)
  ends_refused shelf shelf' sink sink' t read refusal statuses.Unfinished h = absurd (subst IsRefusal (h.1.comes_to t) refusal)
  ends_refused shelf shelf' sink sink' t read refusal statuses.Usage h = absurd h
  ends_refused shelf shelf' sink sink' t read refusal statuses.Input (inl h) = input_due shelf.files statuses.Input h.0 h.1 (h.2 t)
  ends_refused shelf shelf' sink sink' t read refusal statuses.Input (inr (inl h)) = inl (sym (ap status_of (h.0 t).0))
  ends_refused shelf shelf' sink sink' t read refusal statuses.Input (inr (inr h)) = inl (sym (ap status_of (h.1 t).0))
  ends_refused shelf shelf' sink sink' t read refusal statuses.Limit h = input_due shelf.files statuses.Limit h.0 h.1 (h.2 t)
  ends_refused shelf shelf' sink sink' t read refusal statuses.ReadFault h = absurd (read h.0 h.1)
  ends_refused shelf shelf' sink sink' t read refusal statuses.WriteFault h = absurd (report_due shelf.files h.0 h.1 h.2 t refusal)
  ends_refused shelf shelf' sink sink' t read refusal statuses.Memory h = inr refl
  ends_refused shelf shelf' sink sink' t read refusal statuses.KeepFault h = absurd h
  ends_refused shelf shelf' sink sink' t read refusal statuses.Saved h = absurd h
  ends_refused shelf shelf' sink sink' t read refusal statuses.CheckRefused h = absurd h
  ends_refused shelf shelf' sink sink' t read refusal statuses.Settle h = absurd h

  pub ends_complete : (shelf shelf' : ShelfView) (sink sink' : SinkView) → told_files → NoneFailed s p shelf shelf' sink sink' → (result : Status) → Ends told_files told s p shelf shelf' sink sink' result → IsDue shelf.files result
  ends_complete shelf shelf' sink sink' t none statuses.Done h = inl (sym (ap status_of (h.2.comes_to t)))
  ends_complete shelf shelf' sink sink' t none statuses.NoSelection h = inl (sym (ap status_of (h.2.comes_to t)))
  ends_complete shelf shelf' sink sink' t none statuses.Unfinished h = inl (sym (ap status_of (h.1.comes_to t)))
  ends_complete shelf shelf' sink sink' t none statuses.Usage h = absurd h
  ends_complete shelf shelf' sink sink' t none statuses.Input (inl h) = input_due shelf.files statuses.Input h.0 h.1 (h.2 t)
  ends_complete shelf shelf' sink sink' t none statuses.Input (inr (inl h)) = inl (sym (ap status_of (h.0 t).0))
  ends_complete shelf shelf' sink sink' t none statuses.Input (inr (inr h)) = inl (sym (ap status_of (h.1 t).0))
  ends_complete shelf shelf' sink sink' t none statuses.Limit h = input_due shelf.files statuses.Limit h.0 h.1 (h.2 t)
  ends_complete shelf shelf' sink sink' t none statuses.ReadFault h = absurd (none.reads h.0 h.1)
  ends_complete shelf shelf' sink sink' t none statuses.WriteFault (report, log, is, inl h) = absurd (none.log (log_lost log shelf shelf' h.0))
  ends_complete shelf shelf' sink sink' t none statuses.WriteFault (report, log, is, inr h) = absurd (none.sinks h.0)
  ends_complete shelf shelf' sink sink' t none statuses.Memory h = inr refl
  ends_complete shelf shelf' sink sink' t none statuses.KeepFault h = absurd h
  ends_complete shelf shelf' sink sink' t none statuses.Saved h = absurd h
  ends_complete shelf shelf' sink sink' t none statuses.CheckRefused h = absurd h
  ends_complete shelf shelf' sink sink' t none statuses.Settle h = absurd h
