-- What a run wrote that went on from a job.
use Rattle.std.specs.Prelude.{ℕ, ◌+◌, List, Option}
use Rattle.fund_outside.specs.Kept.{KeptJob}
use Rattle.fund_plan.specs.Outcome.{tries_at}
use Rattle.fund_report.specs.PlainFunded as reports
use Rattle.fund_files.specs.Chain.{chain_from, history_of}
use Rattle.fund_payment.specs.Report.{reported}
use Rattle.command_end.specs.Names.{Sources}
use Rattle.command_inputs.specs.Outcome.{plan_of}
use Rattle.command_inputs.specs.Names.{Payment}
use Rattle.command_resume.specs.Resumed as resumes

-- where the files and the jobs are told
abbrev pub IsFunded : (List ℕ → List ℕ) → Sources → Payment → Option KeptJob → (report log : List ℕ) → Type 0
IsFunded files s p o report log = resumes.IsFunded (Unit {0}) (Unit {0}) files s p o report log

abbrev pub IsNotFunded : (List ℕ → List ℕ) → Sources → Payment → Option KeptJob → (report log : List ℕ) → Type 0
IsNotFunded files s p o report log = resumes.IsNotFunded (Unit {0}) (Unit {0}) files s p o report log

abbrev pub IsUnfinished : (List ℕ → List ℕ) → Sources → Payment → Option KeptJob → (report : List ℕ) → Type 0
IsUnfinished files s p o report = resumes.IsUnfinished (Unit {0}) (Unit {0}) files s p o report

-- what is reported of a payment after n tries that were made before, and the request's
abbrev pub reported_after : (files : List ℕ → List ℕ) (s : Sources) (p : Payment) (o : Option KeptJob) (report log : List ℕ) (n : ℕ) → IsFunded files s p o report log → reports.PlainFunded
reported_after files s p o report log n k = reported (history_of k.wallet k.blocks) k.asked k.wallet.change (tries_at (plan_of (chain_from k.wallet k.blocks) k.asked) (n + k.asked.tries)) k.funded
