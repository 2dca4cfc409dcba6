-- What the bytes that a call gave are, where it is done.
use Rattle.std.specs.Prelude.{ℕ, ◌≡◌, List, Some}
use Rattle.fund_outside.specs.Kept.{KeptJob}
use Rattle.packed_jobs.specs.Packed.{IsPackable, packed}
use Rattle.fund_files.specs.Chain.{chain_from}
use Rattle.kept_job.specs.Kept.{IsKeptAt}
use Rattle.command_check.specs.Statuses.{IsVouched}
use Rattle.command_coins.specs.Statuses.{IsListed}
use Rattle.command_inputs.specs.Digest.{digest_in}
use Rattle.command_inputs.specs.Outcome.{plan_of}
use Rattle.command_inputs.specs.Results.{IsFunded, IsNotFunded, IsUnfinished}
use Rattle.command_resume.specs.Resumed as resumed
use Rattle.command_settle.specs.Outcome.{IsSettled}
use Rattle.command_share.specs.Results.{IsShared}
use Rattle.command_sweep.specs.Asked.{asked_by}
use Rattle.command_sweep.specs.Results.{IsSwept}
use Rattle.command_wide.specs.Results as wides
use Rattle.command_work.specs.Statuses as loads
use Rattle.fund_calls.specs.Given.{PlainGiven, files_of}
use Rattle.fund_calls.specs.Names.{checked_payment, payment, report_name, request_name, settle_names, sources}

-- the listing of the wallet on its blocks
abbrev pub IsListing : PlainGiven → List ℕ → Type 0
IsListing g printed = IsListed (Unit {0}) (files_of g) sources printed

-- a report and a log of a payment that keeps all rules of `fund`
abbrev pub IsPayment : PlainGiven → (printed log : List ℕ) → Type 0
IsPayment g printed log = IsFunded (Unit {0}) (files_of g) sources payment printed log

-- a report and a log by which no row has a selection
abbrev pub IsNoPayment : PlainGiven → (printed log : List ℕ) → Type 0
IsNoPayment g printed log = IsNotFunded (Unit {0}) (files_of g) sources payment printed log

-- The report of an open search, and the packed job as which the run of these bytes is kept after the request's tries.
pub record IsOpenPayment (g : PlainGiven) (printed kept : List ℕ) : Type 0 where
  pub unfinished : IsUnfinished (Unit {0}) (files_of g) sources payment printed
  pub job : KeptJob
  pub kept_is : kept ≡ packed job
  pub left : IsKeptAt (plan_of (chain_from unfinished.wallet unfinished.blocks) unfinished.asked) (digest_in (files_of g) sources payment) unfinished.asked.tries (Some job)

-- a report and a log of a payment to which a run came that went on from the packed job
abbrev pub IsResumed : PlainGiven → (job printed log : List ℕ) → Type 0
IsResumed g job printed log = (kept : KeptJob) × IsPackable kept × (job ≡ packed kept) × resumed.IsFunded (Unit {0}) (Unit {0}) (files_of g) sources payment (Some kept) printed log

-- the report and the log that were given are accepted, and this is printed of them
abbrev pub IsAccepted : PlainGiven → (printed : List ℕ) → Type 0
IsAccepted g printed = IsVouched (Unit {0}) (files_of g) sources checked_payment report_name printed

-- a report and a log of a payment of the wide search
abbrev pub IsWide : PlainGiven → (printed log : List ℕ) → Type 0
IsWide g printed log = wides.IsFunded (Unit {0}) (files_of g) sources payment printed log

-- a report and a log of a payment whose recipients bear the fee
abbrev pub IsShare : PlainGiven → (printed log : List ℕ) → Type 0
IsShare g printed log = IsShared (Unit {0}) (files_of g) sources payment printed log

-- the report of a payment of all coins
abbrev pub IsSweep : PlainGiven → (printed : List ℕ) → Type 0
IsSweep g printed = IsSwept (Unit {0}) (files_of g) sources (asked_by request_name) printed

-- the signed transaction is the payment of the report, and this is printed of it
abbrev pub IsSettlement : PlainGiven → (printed : List ℕ) → Type 0
IsSettlement g printed = IsSettled (files_of g) settle_names printed

-- the summary of a payment from a workload
abbrev pub IsWorked : (number count : ℕ) → (printed : List ℕ) → Type 0
IsWorked number count printed = loads.IsFunded number count printed
