-- What the status tells of how a command ended.
use Rattle.std.proofs.Common.{◌≡◌, sym, subst}
use Rattle.std.specs.Prelude.{◌⊎◌}
use Rattle.fund_shelf.specs.Causes.{Rose, ShelfView, SinkView}
use Rattle.command_end.specs.declared.status.Status.{Status}
use Rattle.command_end.specs.declared.status.Status.TheVariants as statuses
use Rattle.command_sweep.specs.Asked.{asked_by}
use Rattle.command_wide.proofs.FinishLaws as wide_laws
use Rattle.command_settle.proofs.EndsLaws as settle_payment_laws
use Rattle.command_share.proofs.FinishLaws as share_laws
use Rattle.command_sweep.proofs.FinishLaws as sweep_laws
use Rattle.further_commands.specs.Command.{FurtherCommand, Wide, Settle, Share, Sweep}
use Rattle.further_commands.specs.Outcome.{ComesTo, IsRefusal, Outcome, status_of}
use Rattle.further_commands.specs.Statuses.{Ends, EndsInput, EndsUnsettled, IsLogUnwritten, NoneUnread}

-- ---- what doesn't look at the files afterwards

pub input_alone : (told_files told : Type 0) (c : FurtherCommand) (shelf shelf' : ShelfView) (sink sink' : SinkView) → Ends told_files told c shelf shelf' sink sink' statuses.Input → EndsInput told_files told c shelf sink sink'
input_alone told_files told (Wide s p) shelf shelf' sink sink' h = h
input_alone told_files told (Settle n) shelf shelf' sink sink' h = h
input_alone told_files told (Share s p) shelf shelf' sink sink' h = h
input_alone told_files told (Sweep s request) shelf shelf' sink sink' h = h

pub input_back : (told_files told : Type 0) (c : FurtherCommand) (shelf shelf' : ShelfView) (sink sink' : SinkView) → EndsInput told_files told c shelf sink sink' → Ends told_files told c shelf shelf' sink sink' statuses.Input
input_back told_files told (Wide s p) shelf shelf' sink sink' h = h
input_back told_files told (Settle n) shelf shelf' sink sink' h = h
input_back told_files told (Share s p) shelf shelf' sink sink' h = h
input_back told_files told (Sweep s request) shelf shelf' sink sink' h = h

pub settle_alone : (told_files told : Type 0) (c : FurtherCommand) (shelf shelf' : ShelfView) (sink sink' : SinkView) → Ends told_files told c shelf shelf' sink sink' statuses.Settle → EndsUnsettled told_files told c shelf sink sink'
settle_alone told_files told (Wide s p) shelf shelf' sink sink' h = h
settle_alone told_files told (Settle n) shelf shelf' sink sink' h = h
settle_alone told_files told (Share s p) shelf shelf' sink sink' h = h
settle_alone told_files told (Sweep s request) shelf shelf' sink sink' h = h

pub settle_back : (told_files told : Type 0) (c : FurtherCommand) (shelf shelf' : ShelfView) (sink sink' : SinkView) → EndsUnsettled told_files told c shelf sink sink' → Ends told_files told c shelf shelf' sink sink' statuses.Settle
settle_back told_files told (Wide s p) shelf shelf' sink sink' h = h
settle_back told_files told (Settle n) shelf shelf' sink sink' h = h
settle_back told_files told (Share s p) shelf shelf' sink sink' h = h
settle_back told_files told (Sweep s request) shelf shelf' sink sink' h = h

-- ---- with what no command ends

pub never_usage : (told_files told : Type 0) (c : FurtherCommand) (shelf shelf' : ShelfView) (sink sink' : SinkView) → Ends told_files told c shelf shelf' sink sink' statuses.Usage → ⊥
never_usage told_files told (Wide s p) shelf shelf' sink sink' h = h
never_usage told_files told (Settle n) shelf shelf' sink sink' h = h
never_usage told_files told (Share s p) shelf shelf' sink sink' h = h
never_usage told_files told (Sweep s request) shelf shelf' sink sink' h = h

pub never_keeps : (told_files told : Type 0) (c : FurtherCommand) (shelf shelf' : ShelfView) (sink sink' : SinkView) → Ends told_files told c shelf shelf' sink sink' statuses.KeepFault → ⊥
never_keeps told_files told (Wide s p) shelf shelf' sink sink' h = h
never_keeps told_files told (Settle n) shelf shelf' sink sink' h = h
never_keeps told_files told (Share s p) shelf shelf' sink sink' h = h
never_keeps told_files told (Sweep s request) shelf shelf' sink sink' h = h

pub never_saves : (told_files told : Type 0) (c : FurtherCommand) (shelf shelf' : ShelfView) (sink sink' : SinkView) → Ends told_files told c shelf shelf' sink sink' statuses.Saved → ⊥
never_saves told_files told (Wide s p) shelf shelf' sink sink' h = h
never_saves told_files told (Settle n) shelf shelf' sink sink' h = h
never_saves told_files told (Share s p) shelf shelf' sink sink' h = h
never_saves told_files told (Sweep s request) shelf shelf' sink sink' h = h

pub never_checks : (told_files told : Type 0) (c : FurtherCommand) (shelf shelf' : ShelfView) (sink sink' : SinkView) → Ends told_files told c shelf shelf' sink sink' statuses.CheckRefused → ⊥
never_checks told_files told (Wide s p) shelf shelf' sink sink' h = h
never_checks told_files told (Settle n) shelf shelf' sink sink' h = h
never_checks told_files told (Share s p) shelf shelf' sink sink' h = h
never_checks told_files told (Sweep s request) shelf shelf' sink sink' h = h

-- ---- which status is due

-- a status is that of an outcome, or memory was short
abbrev IsOf : Status → Outcome → Type 0
IsOf status due = (status ≡ status_of due) ⊎ (status ≡ statuses.Memory)

pub ends_complete : (told_files told : Type 0) (c : FurtherCommand) (shelf shelf' : ShelfView) (sink sink' : SinkView) (status : Status) → Ends told_files told c shelf shelf' sink sink' status → told_files → NoneUnread c shelf shelf' → (IsLogUnwritten c shelf shelf' → ⊥) → (Rose sink.faults sink'.faults → ⊥) → (due : Outcome) → ComesTo shelf.files c due
    → (status ≡ status_of due) ⊎ (status ≡ statuses.Memory)
ends_complete told_files told (Wide s p) shelf shelf' sink sink' status h t reads log sinks due is =
    subst (λ (x : Outcome). IsOf status x) (sym is) (wide_laws.ends_complete told_files told s p shelf shelf' sink sink' t (record { reads = reads; log = log; sinks = sinks }) status h)
ends_complete told_files told (Settle n) shelf shelf' sink sink' status h t reads log sinks due is =
    subst (λ (x : Outcome). IsOf status x) (sym is.2) (settle_payment_laws.ends_complete told_files told n shelf shelf' sink sink' t is.0 is.1 (record { reads = reads; sinks = sinks }) status h)
ends_complete told_files told (Share s p) shelf shelf' sink sink' status h t reads log sinks due is =
    subst (λ (x : Outcome). IsOf status x) (sym is) (share_laws.ends_complete told_files told s p shelf shelf' sink sink' t (record { reads = reads; log = log; sinks = sinks }) status h)
ends_complete told_files told (Sweep s request) shelf shelf' sink sink' status h t reads log sinks due is =
    subst (λ (x : Outcome). IsOf status x) (sym is) (sweep_laws.ends_complete told_files told s (asked_by request) shelf shelf' sink sink' t (record { reads = reads; sinks = sinks }) status h)

pub ends_refused : (told_files told : Type 0) (c : FurtherCommand) (shelf shelf' : ShelfView) (sink sink' : SinkView) (status : Status) → Ends told_files told c shelf shelf' sink sink' status → told_files → NoneUnread c shelf shelf' → (due : Outcome) → IsRefusal due → ComesTo shelf.files c due
    → (status ≡ status_of due) ⊎ (status ≡ statuses.Memory)
ends_refused told_files told (Wide s p) shelf shelf' sink sink' status h t reads due refusal is =
    subst (λ (x : Outcome). IsOf status x) (sym is) (wide_laws.ends_refused told_files told s p shelf shelf' sink sink' t reads (subst IsRefusal is refusal) status h)
ends_refused told_files told (Settle n) shelf shelf' sink sink' status h t reads due refusal is =
    subst (λ (x : Outcome). IsOf status x) (sym is.2) (settle_payment_laws.ends_refused told_files told n shelf shelf' sink sink' t is.0 is.1 reads (subst IsRefusal is.2 refusal) status h)
ends_refused told_files told (Share s p) shelf shelf' sink sink' status h t reads due refusal is =
    subst (λ (x : Outcome). IsOf status x) (sym is) (share_laws.ends_refused told_files told s p shelf shelf' sink sink' t reads (subst IsRefusal is refusal) status h)
ends_refused told_files told (Sweep s request) shelf shelf' sink sink' status h t reads due refusal is =
    subst (λ (x : Outcome). IsOf status x) (sym is) (sweep_laws.ends_refused told_files told s (asked_by request) shelf shelf' sink sink' t reads (subst IsRefusal is refusal) status h)
