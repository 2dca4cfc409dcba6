-- A command as its names.
use Rattle.command_end.specs.Names.{plain_sources}
use Rattle.command_inputs.specs.Names.{plain_job, plain_payment}
use Rattle.further_commands.specs.Command.{plain as plain_further}
use Rattle.fund_top.specs.Words as words
use Rattle.fund_top.specs.declared.words.Command.{Command}
use Rattle.fund_top.specs.declared.words.Command.TheVariants.{Coins, Fund, Resume, Check, Work, Desk, Further}

-- a command by its names, without where they lie in memory
abbrev pub plain : Command → words.Command
plain (Coins s) = words.Coins (plain_sources s)
plain (Fund s p job) = words.Fund (plain_sources s) (plain_payment p) (plain_job job)
plain (Resume s p job) = words.Resume (plain_sources s) (plain_payment p) job.now
plain (Check s p report) = words.Check (plain_sources s) (plain_payment p) report.now
plain (Work number count) = words.Work number count
plain (Desk s script) = words.Desk (plain_sources s) script.now
plain (Further c) = words.Further (plain_further c)
