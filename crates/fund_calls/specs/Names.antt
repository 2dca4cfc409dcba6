-- The names under which the bytes of a call are held.
use Rattle.std.specs.Prelude.{ℕ, List, codes}
use Rattle.command_end.specs.Names.{Sources}
use Rattle.command_inputs.specs.Names.{Payment}
use Rattle.command_settle.specs.Names.{Names}

abbrev pub job_name : List ℕ
job_name = codes "job"

-- the log that a command writes, and the one that is checked: so no log is there before one is written
abbrev pub log_name : List ℕ
log_name = codes "log"

abbrev pub checked_name : List ℕ
checked_name = codes "checked"

abbrev pub request_name : List ℕ
request_name = codes "request"

abbrev pub report_name : List ℕ
report_name = codes "report"

abbrev pub sources : Sources
sources = record { wallet = codes "wallet"; blocks = codes "blocks" }

abbrev pub payment : Payment
payment = record { request = request_name; log = log_name }

-- the names of a payment whose report is checked
abbrev pub checked_payment : Payment
checked_payment = record { request = request_name; log = checked_name }

-- the names of what is settled
abbrev pub settle_names : Names
settle_names = record { wallet = codes "wallet"; request = request_name; report = report_name; tx = codes "tx" }
