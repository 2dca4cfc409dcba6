-- How the command ends, by how its parts do.
use Rattle.std.proofs.Common.{◌≡◌, ◌∙◌, ℕ, List, inl, inr, refl, sym, ap, subst}
use Rattle.std.specs.Prelude.{◌⊎◌, ◌++◌, codes}
use Rattle.fund_shelf.specs.Causes.{ShelfView, SinkView, Rose}
use Rattle.command_end.proofs.WholeLaws.{answered_stops, file_stops, wanting_stops}
use Rattle.command_end.specs.Lines.{GotLine, fault_line, status_of_file}
use Rattle.command_end.specs.Printed.{IsPut, TellsWhole}
use Rattle.command_end.specs.declared.status.Status.{Status}
use Rattle.command_end.specs.declared.status.Status.TheVariants as statuses
use Rattle.fund_files.specs.Cause.{FileCause}
use Rattle.fund_files.specs.Cause as files
use Rattle.command_settle.proofs.OutcomeLaws.{one_outcome}
use Rattle.command_settle.specs.Files.{Cause, File, LongReport, LongTx, NotHex, NotTx, Unsettled}
use Rattle.command_settle.specs.Names.{Names, name_of}
use Rattle.command_settle.specs.Outcome.{ComesTo, IsASettlement, IsSettled, Outcome, Refused, Settled, status_of, status_of_cause}
use Rattle.command_settle.specs.Statuses.{Ends, NoneFailed, NoneUnread}
use Rattle.command_settle.specs.Stops.{IsStopped, StopsFor, cause_of}
use Rattle.command_settle.specs.Words.{refusal_words}
use Rattle.command_settle.specs.declared.stop.Refusal.{Refusal}
use Rattle.command_settle.specs.declared.stop.Stop.{Stop}
use Rattle.command_settle.specs.declared.stop.Stop.TheVariants as stops

-- a cause has one of three statuses
abbrev HasStatus : Cause → Type 0
HasStatus cause = (status_of_cause cause ≡ statuses.Input) ⊎ ((status_of_cause cause ≡ statuses.Limit) ⊎ (status_of_cause cause ≡ statuses.Settle))

file_status : (cause : FileCause) → (status_of_file cause ≡ statuses.Input) ⊎ (status_of_file cause ≡ statuses.Limit)
file_status (files.TooLong file) = inr refl
file_status (files.BadWallet fault) = inl refl
file_status (files.BadBlocks fault) = inl refl
file_status (files.RepeatCoin coin) = inl refl
file_status files.ManyCoins = inr refl
file_status (files.BadRequest fault) = inl refl

or_limit : (status : Status) → (status ≡ statuses.Input) ⊎ (status ≡ statuses.Limit) → (status ≡ statuses.Input) ⊎ ((status ≡ statuses.Limit) ⊎ (status ≡ statuses.Settle))
or_limit status (inl e) = inl e
or_limit status (inr e) = inr (inl e)

cause_status : (cause : Cause) → HasStatus cause
cause_status (File cause) = or_limit (status_of_cause (File cause)) (file_status cause)
cause_status LongReport = inr (inl refl)
cause_status LongTx = inr (inl refl)
cause_status NotHex = inl refl
cause_status (NotTx fault) = inl refl
cause_status (Unsettled fault) = inr (inr refl)

module _ (told_files told : Type 0) (n : Names) (shelf shelf' : ShelfView) (sink sink' : SinkView) where
  EndsAs : Status → Type 0
  EndsAs result = Ends told_files told n shelf shelf' sink sink' result

  -- ---- the printing

  pub settled_ends : (text : List ℕ) (result : Status) → (told_files → IsSettled shelf.files n text) → IsPut told text statuses.Done sink sink' result → Ends told_files told n shelf shelf' sink sink' result
  unfolding EndsAs
  settled_ends text result v (inl e) = subst EndsAs (sym e.0) (text, v, e.1)
  settled_ends text result v (inr (inl e)) = subst EndsAs (sym e.0) (text, v, e.1, e.2)
  settled_ends text result v (inr (inr e)) = subst EndsAs (sym e.0) (inr (text, v, e.1, e.2))

  -- ---- a stop

  refused_ends : (refusal : Refusal) → (told_files → ComesTo shelf.files n (Refused (cause_of refusal))) → (told → GotLine (fault_line (refusal_words refusal)) sink sink') → HasStatus (cause_of refusal) → EndsAs (status_of_cause (cause_of refusal))
  unfolding EndsAs
  refused_ends refusal due line (inl e) = subst EndsAs (sym e) (refusal, e, due, line)
  refused_ends refusal due line (inr (inl e)) = subst EndsAs (sym e) (refusal, e, due, line)
  refused_ends refusal due line (inr (inr e)) = subst EndsAs (sym e) (refusal, e, due, line)

  pub stop_ends : (stop : Stop) (result : Status) → StopsFor told_files n shelf shelf' stop → IsStopped told n stop sink sink' result → Ends told_files told n shelf shelf' sink sink' result
  unfolding EndsAs
  stop_ends (stops.Read file) result h a = subst EndsAs (sym a.0) (file, h.0, h.1, a.1)
  stop_ends (stops.Refused refusal) result h a = subst EndsAs (sym a.0) (refused_ends refusal h a.1 (cause_status (cause_of refusal)))
  stop_ends stops.Memory result h a = subst EndsAs (sym a.0) (inl a.1)

  -- ---- what is due

  module _ (t : told_files) (o : Outcome) (due : ComesTo shelf.files n o) where
    status_by : (a : Outcome) → ComesTo shelf.files n a → status_of a ≡ status_of o
    status_by a h = ap status_of (one_outcome shelf.files n a o h due)

    settled_by : (text : List ℕ) → IsSettled shelf.files n text → IsASettlement o
    settled_by text v = subst IsASettlement (one_outcome shelf.files n (Settled text) o v due) tt

    -- the status is that of what the files come to; or memory was short; or the payment is settled and the sink failed
    ends_due : NoneUnread n shelf shelf' → (result : Status) → Ends told_files told n shelf shelf' sink sink' result
        → ((result ≡ status_of o) ⊎ (result ≡ statuses.Memory)) ⊎ (IsASettlement o × Rose sink.faults sink'.faults)
    ends_due none statuses.Done h = inl (inl (status_by (Settled h.0) (h.1 t)))
    ends_due none statuses.Usage h = absurd h
    ends_due none statuses.Input h = inl (inl (sym h.1 ∙ status_by (Refused (cause_of h.0)) (h.2 t)))
    ends_due none statuses.ReadFault h = absurd (none h.0 h.1)
    ends_due none statuses.WriteFault h = inr (settled_by h.0 (h.1 t), h.2)
    ends_due none statuses.KeepFault h = absurd h
    ends_due none statuses.Memory h = inl (inr refl)
    ends_due none statuses.Saved h = absurd h
    ends_due none statuses.Limit h = inl (inl (sym h.1 ∙ status_by (Refused (cause_of h.0)) (h.2 t)))
    ends_due none statuses.Unfinished h = absurd h
    ends_due none statuses.NoSelection h = absurd h
    ends_due none statuses.CheckRefused h = absurd h
    ends_due none statuses.Settle h = inl (inl (sym h.1 ∙ status_by (Refused (cause_of h.0)) (h.2 t)))

    or_less : (result : Status) → ((result ≡ status_of o) ⊎ (result ≡ statuses.Memory)) ⊎ (IsASettlement o × Rose sink.faults sink'.faults) → (IsASettlement o → Rose sink.faults sink'.faults → ⊥) → (result ≡ status_of o) ⊎ (result ≡ statuses.Memory)
    or_less result (inl h) not = h
    or_less result (inr h) not = absurd (not h.0 h.1)

    pub ends_refused : NoneUnread n shelf shelf' → (IsASettlement o → ⊥) → (result : Status) → Ends told_files told n shelf shelf' sink sink' result → (result ≡ status_of o) ⊎ (result ≡ statuses.Memory)
    ends_refused none not result h = or_less result (ends_due none result h) (λ a rose. not a)

    pub ends_complete : NoneFailed n shelf shelf' sink sink' → (result : Status) → Ends told_files told n shelf shelf' sink sink' result → (result ≡ status_of o) ⊎ (result ≡ statuses.Memory)
    ends_complete none result h = or_less result (ends_due none.reads result h) (λ a rose. none.sinks rose)

-- no cause is told as a settlement
cause_untold : (cause : Cause) → TellsWhole (status_of_cause cause) → ⊥
cause_untold (File cause) whole = file_stops cause whole
cause_untold LongReport whole = whole
cause_untold LongTx whole = whole
cause_untold NotHex whole = whole
cause_untold (NotTx fault) whole = whole
cause_untold (Unsettled fault) whole = whole

pub stop_untold : (told : Type 0) (n : Names) (stop : Stop) (sink sink' : SinkView) (result : Status) → IsStopped told n stop sink sink' result → TellsWhole result → ⊥
stop_untold told n (stops.Read file) sink sink' result a whole = answered_stops told (codes "read " ++ name_of n file) statuses.ReadFault sink sink' result (λ w. w) a whole
stop_untold told n (stops.Refused refusal) sink sink' result a whole = answered_stops told (refusal_words refusal) (status_of_cause (cause_of refusal)) sink sink' result (cause_untold (cause_of refusal)) a whole
stop_untold told n stops.Memory sink sink' result a whole = wanting_stops told sink sink' result a whole
