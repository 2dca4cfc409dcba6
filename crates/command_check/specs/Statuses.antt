-- How a check ends, by its status.
use Rattle.std.specs.Prelude.{ℕ, ◌≡◌, ◌≢◌, ◌⊎◌, List, ◌++◌, codes}
use Rattle.block_feed.specs.Block.{ChainBlock}
use Rattle.fund_shelf.specs.Causes.{ShelfView, SinkView, Rose, HasPart}
use Rattle.coin_candidates.specs.declared.candidate.Candidate.{Candidate}
use Rattle.fund_files.specs.Chain.{history_of}
use Rattle.fund_files.specs.declared.refusal.File.{File}
use Rattle.fund_plan.specs.Selection as plans
use Rattle.fund_report.specs.PlainFunded.{PlainFunded}
use Rattle.fund_report.specs.ReportText.{IsReportText}
use Rattle.fund_report.specs.declared.report.Report.{Report}
use Rattle.fund_report.specs.declared.report.Report.TheVariants as reports
use Rattle.fund_steps.specs.Plan.{PlainPlan}
use Rattle.psbt_codec.specs.PartialTransaction.{PartialTransaction}
use Rattle.psbt_codec.specs.Text.{IsPsbtText}
use Rattle.report_check.specs.Payment.{PaysBy}
use Rattle.report_check.specs.Verdict.{HasLog, IsAccepted, IsPaid}
use Rattle.report_check.specs.Vouched.{Vouches}
use Rattle.report_check.specs.declared.fault.CheckFault.{CheckFault}
use Rattle.report_check.specs.declared.fault.CheckFault.TheVariants as faults
use Rattle.request_text.specs.PlainRequest.{PlainRequest}
use Rattle.wallet_text.specs.PlainWallet.{PlainWallet}
use Rattle.command_end.specs.Lines.{GotLine, fault_line}
use Rattle.command_end.specs.Names.{Sources}
use Rattle.command_end.specs.declared.status.Status.{Status}
use Rattle.command_end.specs.declared.status.Status.TheVariants as statuses
use Rattle.command_inputs.specs.Inputs as inputs
use Rattle.command_inputs.specs.Names.{Payment}
use Rattle.command_inputs.specs.Replacing.{ReplacesIf}
use Rattle.command_inputs.specs.Results as payments
use Rattle.command_check.specs.Outcome.{Accepted, Broken, ComesTo, IsAnAcceptance, Outcome, TooLong, status_of}
use Rattle.command_check.specs.Evidence.{IsPlanOf, IsReached, IsUnread, evidence_name}
use Rattle.command_check.specs.Words.{accepted_text, check_fault_words, evidence_word}
use Rattle.command_check.specs.declared.stop.CheckedFile.{CheckedFile}

-- ---- an accepted report

-- the payment of a report, from these coins
abbrev pub payment_in : PlainFunded → List Candidate → plans.PlainFunded
payment_in f coins = record { mark = f.mark; row = f.row; stage = f.stage; coins = coins; change = f.change; waste = f.waste; weight = f.weight }

-- The PSBT of a report pays as the report says; and where the request names a payment, this one replaces it by the rules of
-- BIP 125.
pub record ReplacesAsSaid (w : PlainWallet) (blocks : List ChainBlock) (r : PlainRequest) (plan : PlainPlan) (f : PlainFunded) : Type 0 where
  pub psbt : PartialTransaction
  pub text : IsPsbtText f.text psbt
  pub pays : PaysBy plan f psbt
  pub replaces : ReplacesIf w (history_of w blocks) r (payment_in f pays.coins)

-- so it is of a report of a payment
abbrev pub Replaced : PlainWallet → List ChainBlock → PlainRequest → PlainPlan → Report → Type 0
Replaced w blocks r plan (reports.Funded f) = ReplacesAsSaid w blocks r plan f
Replaced w blocks r plan (reports.NoSelection tries) = Unit {0}
Replaced w blocks r plan (reports.Unfinished tries row stage) = Unit {0}

-- A report that is accepted with the bytes of its log, for the plan of a wallet, blocks and a request; and what it vouches
-- for, in words of pools, problems, best selections and payments: it names the plan's answer of all that there is to find,
-- unless it is partial or of an unfinished run. A payment is paid as the report says, from presets and from candidates that
-- meet its row. Where the request names a payment, this one replaces it by the rules of BIP 125. This is what is printed of
-- it. Where the files are told, they hold all of this; the log is asked for where the report has one.
pub record IsVouched (told_files : Type 0) (files : List ℕ → List ℕ) (s : Sources) (p : Payment) (report text : List ℕ) : Type 0 where
  pub plan : PlainPlan
  pub inputs : IsPlanOf told_files files s p plan
  pub found : Report
  pub log : List ℕ
  pub form : told_files → IsReportText (files report) found
  pub beside : told_files → HasLog found → log ≡ files p.log
  pub accepted : IsAccepted plan found log
  pub pays : IsPaid plan found
  pub vouches : Vouches plan found
  pub replaces : Replaced inputs.wallet inputs.blocks inputs.asked plan found
  pub prints : text ≡ accepted_text found
  pub comes_to : told_files → ComesTo files s p report (Accepted found)

-- ---- by the status

-- accepted: behind what was in the sink stands that the report is, and its first line
abbrev pub EndsAccepted : Type 0 → Type 0 → Sources → Payment → (report : List ℕ) → ShelfView → SinkView → SinkView → Type 0
EndsAccepted told_files told s p report shelf sink sink' =
    (text : List ℕ) × IsVouched told_files shelf.files s p report text × (told → sink'.written ≡ sink.written ++ text)

-- a file that is judged is too long, which the files come to where they are told, with its line
abbrev pub EndsTooLong : Type 0 → Type 0 → Sources → Payment → (report : List ℕ) → ShelfView → SinkView → SinkView → Type 0
EndsTooLong told_files told s p report shelf sink sink' =
    (file : CheckedFile) × (told_files → ComesTo shelf.files s p report (TooLong file)) × (told → GotLine (fault_line (codes "limit " ++ evidence_word file)) sink sink')

-- a limit: of the payment, or of a file that is judged
abbrev pub EndsLimited : Type 0 → Type 0 → Sources → Payment → (report : List ℕ) → ShelfView → SinkView → SinkView → Type 0
EndsLimited told_files told s p report shelf sink sink' =
    payments.EndsRefused statuses.Limit told_files told s p shelf sink sink' ⊎ EndsTooLong told_files told s p report shelf sink sink'

-- the first rule that the report breaks, which the files come to where they are told, with its line; it isn't being out of memory
abbrev pub EndsBroken : Type 0 → Type 0 → Sources → Payment → (report : List ℕ) → ShelfView → SinkView → SinkView → Type 0
EndsBroken told_files told s p report shelf sink sink' =
    (fault : CheckFault) × (fault ≢ faults.Memory) × (told_files → ComesTo shelf.files s p report (Broken fault))
    × (told → GotLine (fault_line (codes "check " ++ check_fault_words fault)) sink sink')

-- a file wasn't read, those before it being in order, and the line names it: one of the payment, or one that is judged
abbrev pub EndsUnread : Type 0 → Type 0 → Sources → Payment → (report : List ℕ) → ShelfView → ShelfView → SinkView → SinkView → Type 0
EndsUnread told_files told s p report shelf shelf' sink sink' =
    payments.EndsUnread told_files told s p shelf shelf' sink sink'
    ⊎ ((file : CheckedFile) × IsUnread p report file shelf shelf' × (told_files → IsReached shelf.files s p report file)
    × (told → GotLine (fault_line (codes "read " ++ evidence_name p report file)) sink sink'))

-- the report is accepted, and the sink failed and has got a part of what is due
abbrev pub EndsUnwritten : Type 0 → Type 0 → Sources → Payment → (report : List ℕ) → ShelfView → SinkView → SinkView → Type 0
EndsUnwritten told_files told s p report shelf sink sink' =
    (text : List ℕ) × IsVouched told_files shelf.files s p report text × Rose sink.faults sink'.faults × (told → HasPart sink.written text sink'.written)

-- There was not enough memory, and the line says so; or the report is accepted, and the sink found none and has got a part of
-- what is due.
abbrev pub EndsWithoutMemory : Type 0 → Type 0 → Sources → Payment → (report : List ℕ) → ShelfView → SinkView → SinkView → Type 0
EndsWithoutMemory told_files told s p report shelf sink sink' =
    (told → GotLine (fault_line (codes "memory")) sink sink')
    ⊎ ((text : List ℕ) × IsVouched told_files shelf.files s p report text × Rose sink.refusals sink'.refusals × (told → HasPart sink.written text sink'.written))

abbrev pub Ends : Type 0 → Type 0 → Sources → Payment → (report : List ℕ) → ShelfView → ShelfView → SinkView → SinkView → Status → Type 0
Ends told_files told s p report shelf shelf' sink sink' statuses.Done = EndsAccepted told_files told s p report shelf sink sink'
Ends told_files told s p report shelf shelf' sink sink' statuses.NoSelection = ⊥
Ends told_files told s p report shelf shelf' sink sink' statuses.Unfinished = ⊥
Ends told_files told s p report shelf shelf' sink sink' statuses.Usage = ⊥
Ends told_files told s p report shelf shelf' sink sink' statuses.Input = payments.EndsRefused statuses.Input told_files told s p shelf sink sink'
Ends told_files told s p report shelf shelf' sink sink' statuses.Limit = EndsLimited told_files told s p report shelf sink sink'
Ends told_files told s p report shelf shelf' sink sink' statuses.ReadFault = EndsUnread told_files told s p report shelf shelf' sink sink'
Ends told_files told s p report shelf shelf' sink sink' statuses.WriteFault = EndsUnwritten told_files told s p report shelf sink sink'
Ends told_files told s p report shelf shelf' sink sink' statuses.KeepFault = ⊥
Ends told_files told s p report shelf shelf' sink sink' statuses.Memory = EndsWithoutMemory told_files told s p report shelf sink sink'
Ends told_files told s p report shelf shelf' sink sink' statuses.Saved = ⊥
Ends told_files told s p report shelf shelf' sink sink' statuses.CheckRefused = EndsBroken told_files told s p report shelf sink sink'
Ends told_files told s p report shelf shelf' sink sink' statuses.Settle = ⊥

-- ---- where nothing failed

-- no read of a file failed
pub record NoneUnread (s : Sources) (p : Payment) (report : List ℕ) (shelf shelf' : ShelfView) : Type 0 where
  pub payment : (file : File) → inputs.IsUnread s p file shelf shelf' → ⊥
  pub evidence : (file : CheckedFile) → IsUnread p report file shelf shelf' → ⊥

-- nor did the sink fail
pub record NoneFailed (s : Sources) (p : Payment) (report : List ℕ) (shelf shelf' : ShelfView) (sink sink' : SinkView) : Type 0 where
  pub reads : NoneUnread s p report shelf shelf'
  pub sinks : Rose sink.faults sink'.faults → ⊥

-- ---- the status that is due

-- What the files come to is told, or that there was not enough memory.
pub record IsDueStatus (told : Type 0) (s : Sources) (p : Payment) (report : List ℕ) (shelf shelf' : ShelfView) (sink sink' : SinkView) (status : Status) : Type 0 where
  -- Where the report isn't accepted and the files were read, the status is that of the refusal, even if the sink fails.
  pub refused : told → NoneUnread s p report shelf shelf' → (o : Outcome) → ComesTo shelf.files s p report o → (IsAnAcceptance o → ⊥) → (status ≡ status_of o) ⊎ (status ≡ statuses.Memory)
  -- Where no count rose, the status is that of what the files come to, or out of memory.
  pub complete : told → NoneFailed s p report shelf shelf' sink sink' → (o : Outcome) → ComesTo shelf.files s p report o → (status ≡ status_of o) ⊎ (status ≡ statuses.Memory)
