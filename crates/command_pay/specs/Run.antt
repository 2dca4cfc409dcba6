-- The run of a command for what is asked.
use Rattle.std.specs.Prelude.{ℕ, ◌≡◌, List, codes, None, string_bytes}
use Rattle.fund_shelf.specs.Causes.{ShelfView}
use Rattle.amount_reports.specs.SharedText.{IsSharedText, PlainShared}
use Rattle.fund_report.specs.PlainFunded.{PlainFunded}
use Rattle.fund_report.specs.ReportText.{IsReportText}
use Rattle.fund_report.specs.declared.report.Report.TheVariants as kinds
use Rattle.wide_report.specs.WideText.{IsWideText}
use Rattle.request_making.specs.Asked.{asked_of}
use Rattle.request_making.specs.Written.{request_bytes}
use Rattle.request_text.specs.RequestText.{request_of}
use Rattle.command_end.specs.Names.{Sources}
use Rattle.command_end.specs.declared.status.Status.{Status}
use Rattle.command_end.specs.declared.status.Status.TheVariants as statuses
use Rattle.command_inputs.specs.Names.{Payment}
use Rattle.further_commands.specs.Command.{Share, Wide}
use Rattle.fund_top.specs.Words.{Command, Fund, Further, names_stand}
use Rattle.held_run.specs.Held.{log_name, request_name}
use Rattle.held_run.specs.Run.{IsRunOf}
use Rattle.pay_words.specs.declared.asked.Asked.{Asked}
use Rattle.pay_words.specs.declared.way.Way.{Way}
use Rattle.pay_words.specs.declared.way.Way.TheVariants as ways
use Rattle.command_pay.specs.declared.report.PaidReport.{PaidReport}
use Rattle.command_pay.specs.declared.report.PaidReport.TheVariants.{Whole, Shared}

-- the files from which its coins are told
abbrev pub sources_of : Asked → Sources
sources_of a = record { wallet = string_bytes a.names.wallet; blocks = string_bytes a.names.blocks }

-- the names under which its request and its log are held in memory
abbrev pub held_names : Payment
held_names = record { request = request_name; log = log_name }

-- the word of the command by which a payment is made
abbrev pub verb_of : Way → List ℕ
verb_of ways.Fund = codes "fund"
verb_of ways.Wide = codes "wide"
verb_of ways.Share = codes "share"

-- that command with these files: `fund WALLET BLOCKS REQUEST LOG`, or `wide` or `share` with the same names
abbrev pub command_by : Way → Sources → Payment → Command
command_by ways.Fund s p = Fund s p None
command_by ways.Wide s p = Further (Wide s p)
command_by ways.Share s p = Further (Share s p)

-- the command that is run
abbrev pub command_for : Asked → Command
command_for a = command_by a.way (sources_of a) held_names

-- A run of that command, over the files with one more: the request, which says exactly what is asked, by the bytes of the request
-- file of it. It had this status, these bytes were printed, and this is the log that it left. Its words are no command exactly where a
-- name of a file is empty, or is that of the log.
pub record IsRun (told : Type 0) (a : Asked) (files after : ShelfView) (status : Status) (said log : List ℕ) : Type 0 where
  pub request : List ℕ
  pub asks : request_of request ≡ asked_of a.payments.items a.coins.items a.settings
  pub bytes : request ≡ request_bytes a.payments.items a.coins.items a.settings
  pub ran : IsRunOf told (names_stand (sources_of a) held_names) (command_for a) request files after status said log

-- The text is the report of this payment, as the command of this way prints it. A text is the report of one payment.
abbrev pub IsReportBy : Way → List ℕ → PaidReport → Type 0
IsReportBy ways.Fund text (Whole f) = IsReportText text (kinds.Funded f)
IsReportBy ways.Fund text (Shared f) = ⊥
IsReportBy ways.Wide text (Whole f) = IsWideText text f
IsReportBy ways.Wide text (Shared f) = ⊥
IsReportBy ways.Share text (Whole f) = ⊥
IsReportBy ways.Share text (Shared f) = IsSharedText text f

-- the text is the report of some payment
abbrev pub IsSomeReport : Way → List ℕ → Type 0
IsSomeReport ways.Fund text = (f : PlainFunded) × IsReportText text (kinds.Funded f)
IsSomeReport ways.Wide text = (f : PlainFunded) × IsWideText text f
IsSomeReport ways.Share text = (f : PlainShared) × IsSharedText text f

-- The payment that such a run came to: it is done, and what it printed is the report of this payment.
pub record IsPayment (told : Type 0) (a : Asked) (files after : ShelfView) (f : PaidReport) (log : List ℕ) : Type 0 where
  pub said : List ℕ
  pub run : IsRun told a files after statuses.Done said log
  pub report : IsReportBy a.way said f
