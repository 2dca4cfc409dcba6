-- How the printing of a summary, or of a fault line, ends is how the command ends.
use Rattle.std.proofs.Common.{◌≡◌, ◌∙◌, ◌++◌, ℕ, List, inl, inr, refl, sym, ap, subst}
use Rattle.std.specs.Prelude.{◌⊎◌}
use Rattle.fund_shelf.specs.Causes.{SinkView}
use Rattle.command_end.proofs.WholeLaws.{answered_stops, wanting_stops}
use Rattle.command_end.specs.AnswerLines.{IsAnswered, IsWanting}
use Rattle.command_end.specs.Lines.{GotLine, fault_line}
use Rattle.command_end.specs.Printed.{IsPut, TellsWhole}
use Rattle.command_end.specs.declared.status.Status.{Status}
use Rattle.command_end.specs.declared.status.Status.TheVariants as statuses
use Rattle.command_inputs.proofs.StopLaws.{cause_untold}
use Rattle.command_inputs.specs.Cause.{cause_of, status_of_cause}
use Rattle.command_inputs.specs.Words.{refusal_words}
use Rattle.command_inputs.specs.declared.refusal.Refusal.{Refusal}
use Rattle.command_inputs.specs.declared.refusal.Stop.{Stop}
use Rattle.command_inputs.specs.declared.refusal.Stop.TheVariants as stops
use Rattle.command_work.specs.Outcome.{IsCollision}
use Rattle.command_work.specs.Statuses.{Ends, IsSummary}
use Rattle.command_work.specs.Stops.{IsStopped, ReadsNone, StopsLoad}
use Rattle.command_work.proofs.OutcomeLaws.{collision_due}

-- ---- a summary

whole : (told : Type 0) (number count : ℕ) (status : Status) (summary : List ℕ) (sink sink' : SinkView) → IsSummary number count status summary → (told → sink'.written ≡ sink.written ++ summary) → Ends told number count sink sink' status
whole told number count statuses.Done summary sink sink' h put = (summary, h, put)
whole told number count statuses.NoSelection summary sink sink' h put = (summary, h, put)
whole told number count statuses.Unfinished summary sink sink' h put = (summary, h, put)
whole told number count statuses.Usage summary sink sink' h put = absurd h
whole told number count statuses.Input summary sink sink' h put = absurd h
whole told number count statuses.Limit summary sink sink' h put = absurd h
whole told number count statuses.ReadFault summary sink sink' h put = absurd h
whole told number count statuses.WriteFault summary sink sink' h put = absurd h
whole told number count statuses.KeepFault summary sink sink' h put = absurd h
whole told number count statuses.Memory summary sink sink' h put = absurd h
whole told number count statuses.Saved summary sink sink' h put = absurd h
whole told number count statuses.CheckRefused summary sink sink' h put = absurd h
whole told number count statuses.Settle summary sink sink' h put = absurd h

pub run_ends : (told : Type 0) (number count : ℕ) (status : Status) (summary : List ℕ) (sink sink' : SinkView) (result : Status) → IsSummary number count status summary → IsPut told summary status sink sink' result → Ends told number count sink sink' result
run_ends told number count status summary sink sink' result h (inl e) = subst (λ (x : Status). Ends told number count sink sink' x) (sym e.0) (whole told number count status summary sink sink' h e.1)
run_ends told number count status summary sink sink' result h (inr (inl e)) = subst (λ (x : Status). Ends told number count sink sink' x) (sym e.0) (status, summary, h, e.1, e.2)
run_ends told number count status summary sink sink' result h (inr (inr e)) = subst (λ (x : Status). Ends told number count sink sink' x) (sym e.0) (inr (status, summary, h, e.1, e.2))

-- ---- a stop

pub reads_none : (number count : ℕ) (stop : Stop) → StopsLoad number count stop → ReadsNone stop
reads_none number count (stops.Read file) h = h
reads_none number count (stops.Refused refusal) h = tt
reads_none number count stops.Keep h = h
reads_none number count stops.Memory h = tt

wanting : (told : Type 0) (number count : ℕ) (sink sink' : SinkView) (result : Status) → IsWanting told sink sink' result → Ends told number count sink sink' result
wanting told number count sink sink' result h = subst (λ (x : Status). Ends told number count sink sink' x) (sym h.0) (inl h.1)

collided : (told : Type 0) (number count : ℕ) (refusal : Refusal) (sink sink' : SinkView) (result : Status) → IsCollision number count (cause_of refusal) → IsAnswered told (refusal_words refusal) (status_of_cause (cause_of refusal)) sink sink' result → Ends told number count sink sink' result
collided told number count refusal sink sink' result h e =
    subst (λ (x : Status). Ends told number count sink sink' x) (sym (e.0 ∙ ap status_of_cause h.cause_is)) (refusal, h, collision_due number count (cause_of refusal) h, e.1)

pub stop_ends : (told : Type 0) (number count : ℕ) (stop : Stop) (sink sink' : SinkView) (result : Status) → StopsLoad number count stop → IsStopped told stop sink sink' result → Ends told number count sink sink' result
stop_ends told number count (stops.Read file) sink sink' result h answered = absurd h
stop_ends told number count (stops.Refused refusal) sink sink' result h answered = collided told number count refusal sink sink' result h answered
stop_ends told number count stops.Keep sink sink' result h answered = absurd h
stop_ends told number count stops.Memory sink sink' result h answered = wanting told number count sink sink' result answered

-- no stop is told as a summary that is printed whole
pub stop_untold : (told : Type 0) (stop : Stop) (sink sink' : SinkView) (result : Status) → IsStopped told stop sink sink' result → TellsWhole result → ⊥
stop_untold told (stops.Read file) sink sink' result answered whole = answered
stop_untold told (stops.Refused refusal) sink sink' result answered whole = answered_stops told (refusal_words refusal) (status_of_cause (cause_of refusal)) sink sink' result (cause_untold (cause_of refusal)) answered whole
stop_untold told stops.Keep sink sink' result answered whole = answered
stop_untold told stops.Memory sink sink' result answered whole = wanting_stops told sink sink' result answered whole
