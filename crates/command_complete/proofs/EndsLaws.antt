-- How the command ends, by how its parts do.
use Rattle.std.proofs.Common.{◌≡◌, ◌∙◌, ℕ, List, inl, inr, refl, sym, ap, subst}
use Rattle.std.specs.Prelude.{◌⊎◌, ◌++◌, codes}
use Rattle.fund_shelf.specs.Causes.{ShelfView, SinkView, Rose}
use Rattle.fund_files.specs.Cause as causes
use Rattle.fund_files.specs.Cause.{FileCause, cause_of}
use Rattle.fund_files.specs.FileStops as chain_stops
use Rattle.fund_files.specs.declared.refusal.FileRefusal.{FileRefusal}
use Rattle.fund_files.specs.declared.stop.Stop.{Stop as ChainStop}
use Rattle.fund_files.specs.declared.stop.Stop.TheVariants as chains
use Rattle.command_end.proofs.ChainLaws as chain_laws
use Rattle.command_end.specs.ChainAnswer as chain_answers
use Rattle.command_end.proofs.WholeLaws.{answered_stops, not_whole, wanting_stops}
use Rattle.command_end.specs.AnswerLines.{IsWanting}
use Rattle.command_end.specs.Lines.{GotLine, fault_line, file_refusal_words, status_of_file}
use Rattle.command_end.specs.Names.{Sources}
use Rattle.command_end.specs.Printed.{IsPut, TellsWhole}
use Rattle.command_end.specs.declared.status.Status.{Status}
use Rattle.command_end.specs.declared.status.Status.TheVariants as statuses
use Rattle.command_complete.proofs.OutcomeLaws.{one_outcome}
use Rattle.command_complete.specs.Outcome.{BadPsbt, ComesTo, Completed, IsACompletion, Outcome, Refused, TooLong, status_of}
use Rattle.command_complete.specs.Statuses.{Ends, IsPrinted, NoneFailed, NoneUnread}
use Rattle.command_complete.specs.Stops.{StopsFor}
use Rattle.command_complete.specs.Words.{IsStopped, refusal_words}
use Rattle.command_complete.specs.declared.stop.Stop.{Stop}
use Rattle.command_complete.specs.declared.stop.Stop.TheVariants as stops

-- a file is refused as an input, or for a limit
file_status : (cause : FileCause) → (status_of_file cause ≡ statuses.Input) ⊎ (status_of_file cause ≡ statuses.Limit)
file_status (causes.TooLong file) = inr refl
file_status (causes.BadWallet fault) = inl refl
file_status (causes.BadBlocks fault) = inl refl
file_status (causes.RepeatCoin coin) = inl refl
file_status causes.ManyCoins = inr refl
file_status (causes.BadRequest fault) = inl refl

module _ (told_files told : Type 0) (s : Sources) (name : List ℕ) (shelf shelf' : ShelfView) (sink sink' : SinkView) where
  EndsAs : Status → Type 0
  EndsAs result = Ends told_files told s name shelf shelf' sink sink' result

  -- ---- the printing

  pub printed_ends : (text : List ℕ) (result : Status) → IsPrinted told_files shelf.files s name text → IsPut told text statuses.Done sink sink' result → Ends told_files told s name shelf shelf' sink sink' result
  unfolding EndsAs
  printed_ends text result v (inl e) = subst EndsAs (sym e.0) (text, v, e.1)
  printed_ends text result v (inr (inl e)) = subst EndsAs (sym e.0) (text, v, e.1, e.2)
  printed_ends text result v (inr (inr e)) = subst EndsAs (sym e.0) (inr (text, v, e.1, e.2))

  -- ---- a stop

  wanting_ends : (result : Status) → IsWanting told sink sink' result → EndsAs result
  unfolding EndsAs
  wanting_ends result w = subst EndsAs (sym w.0) (inl w.1)

  refused_ends : (refusal : FileRefusal) → (told_files → ComesTo shelf.files s name (Refused (cause_of refusal))) → (told → GotLine (fault_line (file_refusal_words refusal)) sink sink')
      → (status_of_file (cause_of refusal) ≡ statuses.Input) ⊎ (status_of_file (cause_of refusal) ≡ statuses.Limit) → EndsAs (status_of_file (cause_of refusal))
  unfolding EndsAs
  refused_ends refusal due line (inl e) = subst EndsAs (sym e) (inl (refusal, e, due, line))
  refused_ends refusal due line (inr e) = subst EndsAs (sym e) (inl (refusal, e, due, line))

  chain_ends : (stop : ChainStop) (result : Status) → chain_stops.StopsChain told_files s.wallet s.blocks shelf shelf' stop → chain_answers.IsStopped told s stop sink sink' result → EndsAs result
  unfolding EndsAs
  chain_ends (chains.Read file) result h a = subst EndsAs (sym a.0) (inl (file, h.0, h.1, a.1))
  chain_ends (chains.Refused refusal) result h a = subst EndsAs (sym a.0) (refused_ends refusal h a.1 (file_status (cause_of refusal)))
  chain_ends chains.Memory result h w = wanting_ends result w

  pub stop_ends : (stop : Stop) (result : Status) → StopsFor told_files s name shelf shelf' stop → IsStopped told s name stop sink sink' result → Ends told_files told s name shelf shelf' sink sink' result
  unfolding EndsAs
  stop_ends (stops.Chain stop) result h a = chain_ends stop result h a
  stop_ends stops.Read result h a = subst EndsAs (sym a.0) (inr (h.0, h.1, a.1))
  stop_ends stops.TooLong result h a = subst EndsAs (sym a.0) (inr (h, a.1))
  stop_ends (stops.Refused refusal) result h a = subst EndsAs (sym a.0) (inr (refusal, h, a.1))
  stop_ends stops.Memory result h w = wanting_ends result w

  -- ---- what is due

  module _ (t : told_files) (o : Outcome) (due : ComesTo shelf.files s name o) where
    status_by : (a : Outcome) → ComesTo shelf.files s name a → status_of a ≡ status_of o
    status_by a h = ap status_of (one_outcome shelf.files s name a o h due)

    completed_by : (text : List ℕ) → IsPrinted told_files shelf.files s name text → IsACompletion o
    completed_by text v = subst IsACompletion (one_outcome shelf.files s name (Completed v.made.after) o (v.comes_to t) due) tt

    -- the status is that of what the files come to; or memory was short; or the PSBT is made whole and the sink failed
    pub ends_due : NoneUnread s name shelf shelf' → (result : Status) → Ends told_files told s name shelf shelf' sink sink' result
        → ((result ≡ status_of o) ⊎ (result ≡ statuses.Memory)) ⊎ (IsACompletion o × Rose sink.faults sink'.faults)
    ends_due none statuses.Done h = inl (inl (status_by (Completed h.1.made.after) (h.1.comes_to t)))
    ends_due none statuses.Usage h = absurd h
    ends_due none statuses.Input (inl h) = inl (inl (sym h.1 ∙ status_by (Refused (cause_of h.0)) (h.2 t)))
    ends_due none statuses.Input (inr h) = inl (inl (status_by (BadPsbt h.0) (h.1 t)))
    ends_due none statuses.ReadFault (inl h) = absurd (none.chain h.0 h.1)
    ends_due none statuses.ReadFault (inr h) = absurd (none.psbt h.0)
    ends_due none statuses.WriteFault h = inr (completed_by h.0 h.1, h.2)
    ends_due none statuses.KeepFault h = absurd h
    ends_due none statuses.Memory h = inl (inr refl)
    ends_due none statuses.Saved h = absurd h
    ends_due none statuses.Limit (inl h) = inl (inl (sym h.1 ∙ status_by (Refused (cause_of h.0)) (h.2 t)))
    ends_due none statuses.Limit (inr h) = inl (inl (status_by TooLong (h.0 t)))
    ends_due none statuses.Unfinished h = absurd h
    ends_due none statuses.NoSelection h = absurd h
    ends_due none statuses.CheckRefused h = absurd h
    ends_due none statuses.Settle h = absurd h

    or_less : (result : Status) → ((result ≡ status_of o) ⊎ (result ≡ statuses.Memory)) ⊎ (IsACompletion o × Rose sink.faults sink'.faults) → (IsACompletion o → Rose sink.faults sink'.faults → ⊥) → (result ≡ status_of o) ⊎ (result ≡ statuses.Memory)
    or_less result (inl h) not = h
    or_less result (inr h) not = absurd (not h.0 h.1)

    pub ends_refused : NoneUnread s name shelf shelf' → (IsACompletion o → ⊥) → (result : Status) → Ends told_files told s name shelf shelf' sink sink' result → (result ≡ status_of o) ⊎ (result ≡ statuses.Memory)
    ends_refused none not result h = or_less result (ends_due none result h) (λ a rose. not a)

    pub ends_complete : NoneFailed s name shelf shelf' sink sink' → (result : Status) → Ends told_files told s name shelf shelf' sink sink' result → (result ≡ status_of o) ⊎ (result ≡ statuses.Memory)
    ends_complete none result h = or_less result (ends_due none.reads result h) (λ a rose. none.sinks rose)

-- no stop is told as a PSBT made whole
pub stop_untold : (told : Type 0) (s : Sources) (name : List ℕ) (stop : Stop) (sink sink' : SinkView) (result : Status) → IsStopped told s name stop sink sink' result → TellsWhole result → ⊥
stop_untold told s name (stops.Chain stop) sink sink' result a whole = chain_laws.stop_untold told s stop sink sink' result a whole
stop_untold told s name stops.Read sink sink' result a whole = answered_stops told (codes "read " ++ name) statuses.ReadFault sink sink' result (λ w. w) a whole
stop_untold told s name stops.TooLong sink sink' result a whole = not_whole statuses.Limit result (λ w. w) a.0 whole
stop_untold told s name (stops.Refused refusal) sink sink' result a whole = answered_stops told (refusal_words refusal) statuses.Input sink sink' result (λ w. w) a whole
stop_untold told s name stops.Memory sink sink' result a whole = wanting_stops told sink sink' result a whole
