-- How a check ends, by how its parts do.
use Rattle.std.proofs.Common.{◌≡◌, ◌∙◌, ℕ, List, inl, inr, refl, sym, ap, subst}
use Rattle.std.specs.Prelude.{◌⊎◌, ◌++◌, codes}
use Rattle.fund_shelf.specs.Causes.{ShelfView, SinkView, Rose}
use Rattle.command_end.proofs.WholeLaws.{answered_stops, wanting_stops}
use Rattle.command_end.specs.AnswerLines.{IsWanting}
use Rattle.command_end.specs.Lines.{GotLine, fault_line}
use Rattle.command_end.specs.Names.{Sources}
use Rattle.command_end.specs.Printed.{IsPut, TellsWhole}
use Rattle.command_end.specs.declared.status.Status.{Status}
use Rattle.command_end.specs.declared.status.Status.TheVariants as statuses
use Rattle.command_inputs.proofs.StopLaws as payment_laws
use Rattle.command_inputs.proofs.StopLaws.{refusal_status}
use Rattle.command_inputs.specs.Cause.{cause_of, status_of_cause}
use Rattle.command_inputs.specs.Names.{Payment}
use Rattle.command_inputs.specs.Stops as payment_stops
use Rattle.command_inputs.specs.Words as payment_words
use Rattle.command_inputs.specs.Words.{refusal_words}
use Rattle.command_inputs.specs.Meant.{AreRefusedFor}
use Rattle.command_inputs.specs.declared.refusal.Refusal.{Refusal}
use Rattle.command_inputs.specs.declared.refusal.Stop.{Stop as PaymentStop}
use Rattle.command_inputs.specs.declared.refusal.Stop.TheVariants as payments
use Rattle.command_check.proofs.OutcomeLaws.{one_outcome}
use Rattle.command_check.specs.Evidence.{evidence_name}
use Rattle.command_check.specs.Outcome.{Accepted, Broken, ComesTo, IsAnAcceptance, Outcome, Refused, TooLong, status_of}
use Rattle.command_check.specs.Statuses.{Ends, IsVouched, NoneFailed, NoneUnread}
use Rattle.command_check.specs.Stops.{StopsFor}
use Rattle.command_check.specs.Words.{IsStopped, check_fault_words, evidence_word}
use Rattle.command_check.specs.declared.stop.Stop.{Stop}
use Rattle.command_check.specs.declared.stop.Stop.TheVariants as stops

module _ (told_files told : Type 0) (s : Sources) (p : Payment) (report : List ℕ) (shelf shelf' : ShelfView) (sink sink' : SinkView) where
  EndsAs : Status → Type 0
  EndsAs result = Ends told_files told s p report shelf shelf' sink sink' result

  -- ---- the printing

  pub vouched_ends : (text : List ℕ) (result : Status) → IsVouched told_files shelf.files s p report text → IsPut told text statuses.Done sink sink' result → Ends told_files told s p report shelf shelf' sink sink' result
  unfolding EndsAs
  vouched_ends text result v (inl e) = subst EndsAs (sym e.0) (text, v, e.1)
  vouched_ends text result v (inr (inl e)) = subst EndsAs (sym e.0) (text, v, e.1, e.2)
  vouched_ends text result v (inr (inr e)) = subst EndsAs (sym e.0) (inr (text, v, e.1, e.2))

  -- ---- a stop

  wanting_ends : (result : Status) → IsWanting told sink sink' result → EndsAs result
  unfolding EndsAs
  wanting_ends result w = subst EndsAs (sym w.0) (inl w.1)

  refused_ends : (refusal : Refusal) → (told_files → AreRefusedFor shelf.files s p (cause_of refusal)) → (told → GotLine (fault_line (refusal_words refusal)) sink sink')
      → (status_of_cause (cause_of refusal) ≡ statuses.Input) ⊎ (status_of_cause (cause_of refusal) ≡ statuses.Limit) → EndsAs (status_of_cause (cause_of refusal))
  unfolding EndsAs
  refused_ends refusal due line (inl e) = subst EndsAs (sym e) (refusal, e, due, line)
  refused_ends refusal due line (inr e) = subst EndsAs (sym e) (inl (refusal, e, due, line))

  payment_ends : (stop : PaymentStop) (result : Status) → payment_stops.StopsFor told_files s p shelf shelf' stop → payment_words.IsStopped told s p stop sink sink' result → EndsAs result
  unfolding EndsAs
  payment_ends (payments.Read file) result h a = subst EndsAs (sym a.0) (inl (file, h.0, h.1, a.1))
  payment_ends (payments.Refused refusal) result h a = subst EndsAs (sym a.0) (refused_ends refusal h a.1 (refusal_status (cause_of refusal)))
  payment_ends payments.Keep result h w = absurd h
  payment_ends payments.Memory result h w = wanting_ends result w

  pub stop_ends : (stop : Stop) (result : Status) → StopsFor told_files s p report shelf shelf' stop → IsStopped told s p report stop sink sink' result → Ends told_files told s p report shelf shelf' sink sink' result
  unfolding EndsAs
  stop_ends (stops.Payment stop) result h a = payment_ends stop result h a
  stop_ends (stops.Read file) result h a = subst EndsAs (sym a.0) (inr (file, h.0, h.1, a.1))
  stop_ends (stops.TooLong file) result h a = subst EndsAs (sym a.0) (inr (file, h, a.1))
  stop_ends (stops.Broken fault) result h a = subst EndsAs (sym a.0) (fault, h.0, h.1, a.1)
  stop_ends stops.Memory result h w = wanting_ends result w

  -- ---- what is due

  module _ (t : told_files) (o : Outcome) (due : ComesTo shelf.files s p report o) where
    status_by : (a : Outcome) → ComesTo shelf.files s p report a → status_of a ≡ status_of o
    status_by a h = ap status_of (one_outcome shelf.files s p report a o h due)

    accepted_by : (text : List ℕ) → IsVouched told_files shelf.files s p report text → IsAnAcceptance o
    accepted_by text v = subst IsAnAcceptance (one_outcome shelf.files s p report (Accepted v.found) o (v.comes_to t) due) tt

    -- the status is that of what the files come to; or memory was short; or the report is accepted and the sink failed
    pub ends_due : NoneUnread s p report shelf shelf' → (result : Status) → Ends told_files told s p report shelf shelf' sink sink' result
        → ((result ≡ status_of o) ⊎ (result ≡ statuses.Memory)) ⊎ (IsAnAcceptance o × Rose sink.faults sink'.faults)
    ends_due none statuses.Done h = inl (inl (status_by (Accepted h.1.found) (h.1.comes_to t)))
    ends_due none statuses.Usage h = absurd h
    ends_due none statuses.Input h = inl (inl (sym h.1 ∙ status_by (Refused (cause_of h.0)) (h.2 t)))
    ends_due none statuses.ReadFault (inl h) = absurd (none.payment h.0 h.1)
    ends_due none statuses.ReadFault (inr h) = absurd (none.evidence h.0 h.1)
    ends_due none statuses.WriteFault h = inr (accepted_by h.0 h.1, h.2)
    ends_due none statuses.KeepFault h = absurd h
    ends_due none statuses.Memory h = inl (inr refl)
    ends_due none statuses.Saved h = absurd h
    ends_due none statuses.Limit (inl h) = inl (inl (sym h.1 ∙ status_by (Refused (cause_of h.0)) (h.2 t)))
    ends_due none statuses.Limit (inr h) = inl (inl (status_by (TooLong h.0) (h.1 t)))
    ends_due none statuses.Unfinished h = absurd h
    ends_due none statuses.NoSelection h = absurd h
    ends_due none statuses.CheckRefused h = inl (inl (status_by (Broken h.0) (h.2 t)))
    ends_due none statuses.Settle h = absurd h

    or_less : (result : Status) → ((result ≡ status_of o) ⊎ (result ≡ statuses.Memory)) ⊎ (IsAnAcceptance o × Rose sink.faults sink'.faults) → (IsAnAcceptance o → Rose sink.faults sink'.faults → ⊥) → (result ≡ status_of o) ⊎ (result ≡ statuses.Memory)
    or_less result (inl h) not = h
    or_less result (inr h) not = absurd (not h.0 h.1)

    pub ends_refused : NoneUnread s p report shelf shelf' → (IsAnAcceptance o → ⊥) → (result : Status) → Ends told_files told s p report shelf shelf' sink sink' result → (result ≡ status_of o) ⊎ (result ≡ statuses.Memory)
    ends_refused none not result h = or_less result (ends_due none result h) (λ a rose. not a)

    pub ends_complete : NoneFailed s p report shelf shelf' sink sink' → (result : Status) → Ends told_files told s p report shelf shelf' sink sink' result → (result ≡ status_of o) ⊎ (result ≡ statuses.Memory)
    ends_complete none result h = or_less result (ends_due none.reads result h) (λ a rose. none.sinks rose)

-- no stop is told as an acceptance
pub stop_untold : (told : Type 0) (s : Sources) (p : Payment) (report : List ℕ) (stop : Stop) (sink sink' : SinkView) (result : Status) → IsStopped told s p report stop sink sink' result → TellsWhole result → ⊥
stop_untold told s p report (stops.Payment stop) sink sink' result a whole = payment_laws.stop_untold told s p stop sink sink' result a whole
stop_untold told s p report (stops.Read file) sink sink' result a whole = answered_stops told (codes "read " ++ evidence_name p report file) statuses.ReadFault sink sink' result (λ w. w) a whole
stop_untold told s p report (stops.TooLong file) sink sink' result a whole = answered_stops told (codes "limit " ++ evidence_word file) statuses.Limit sink sink' result (λ w. w) a whole
stop_untold told s p report (stops.Broken fault) sink sink' result a whole = answered_stops told (codes "check " ++ check_fault_words fault) statuses.CheckRefused sink sink' result (λ w. w) a whole
stop_untold told s p report stops.Memory sink sink' result a whole = wanting_stops told sink sink' result a whole
