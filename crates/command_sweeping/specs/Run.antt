-- The run of `sweep` for what is asked.
use Rattle.std.specs.Prelude.{ℕ, Bool, ◌≡◌, ◌&&◌, nat_lt, List, length}
use Rattle.amount_reports.specs.SweptText.{IsSweptText, PlainSwept}
use Rattle.fund_shelf.specs.Causes.{ShelfView}
use Rattle.request_making.specs.Asked.{asked_of}
use Rattle.request_making.specs.Written.{request_bytes}
use Rattle.request_text.specs.RequestText.{request_of}
use Rattle.command_end.specs.declared.status.Status.{Status}
use Rattle.command_end.specs.declared.status.Status.TheVariants as statuses
use Rattle.further_commands.specs.Command.{Sweep}
use Rattle.fund_top.specs.Words.{Command, Further, are_named}
use Rattle.held_run.specs.Held.{request_name}
use Rattle.held_run.specs.Run.{IsRunOf}
use Rattle.pay_words.specs.declared.asked.Asked.{Asked}
use Rattle.command_pay.specs.Run.{sources_of}

-- the names of the files stand: none is empty
abbrev pub stands_for : Asked → Bool
stands_for a = are_named (sources_of a) && nat_lt 0 (length request_name)

-- the command that is run: `sweep WALLET BLOCKS` with the request that is held in memory
abbrev pub command_for : Asked → Command
command_for a = Further (Sweep (sources_of a) request_name)

-- A run of that command, over the files with one more: the request, which says exactly what is asked, by the bytes of the request
-- file of it. It had this status, and these bytes were printed. All that is promised of that command is true of it.
pub record IsRun (told : Type 0) (a : Asked) (files after : ShelfView) (status : Status) (said : List ℕ) : Type 0 where
  pub request : List ℕ
  pub log : List ℕ
  pub asks : request_of request ≡ asked_of a.payments.items a.coins.items a.settings
  pub bytes : request ≡ request_bytes a.payments.items a.coins.items a.settings
  pub run : IsRunOf told (stands_for a) (command_for a) request files after status said log

-- The payment that such a run came to: it is done, and what it printed is the report of this payment. A text has one report.
pub record IsPayment (told : Type 0) (a : Asked) (files after : ShelfView) (r : PlainSwept) : Type 0 where
  pub said : List ℕ
  pub run : IsRun told a files after statuses.Done said
  pub report : IsSweptText said r
