-- The commands of the calls.
use Rattle.std.specs.Prelude.{ℕ, ◌&&◌, Option, Some, nat_le, nat_lt}
use Rattle.further_commands.specs.Command as further
use Rattle.fund_top.specs.Words.{Command, Check, Coins, Fund, Further, Resume, Work, where_stands}
use Rattle.fund_calls.specs.Names.{checked_payment, job_name, payment, report_name, request_name, settle_names, sources}

abbrev pub coins_command : Command
coins_command = Coins sources

abbrev pub fund_command : Command
fund_command = Fund sources payment (Some job_name)

abbrev pub resume_command : Command
resume_command = Resume sources payment job_name

abbrev pub check_command : Command
check_command = Check sources checked_payment report_name

abbrev pub wide_command : Command
wide_command = Further (further.Wide sources payment)

abbrev pub share_command : Command
share_command = Further (further.Share sources payment)

abbrev pub sweep_command : Command
sweep_command = Further (further.Sweep sources request_name)

abbrev pub settle_command : Command
settle_command = Further (further.Settle settle_names)

-- That of a workload. A number above 9,223,372,036,854,775,807, or a count of no coins or of more than 10,000, is no command.
abbrev pub work_command : (number count : ℕ) → Option Command
work_command number count = where_stands (nat_le number 9_223_372_036_854_775_807 && (nat_lt 0 count && nat_le count 10_000)) (Work number count)
