-- What the files of a sweep come to.
use Rattle.std.specs.Prelude.{ℕ, ℤ, pos, negsuc, ◌-◌, ◌||◌, ◌==◌, Bool, nat_lt, List, [], ◌∷◌, ◌++◌, codes, length, false, None, Result, Ok, Err, if◌then◌else◌}
use Rattle.std.specs.Fmt.{decimal}
use Rattle.coin_candidates.specs.declared.candidate.Candidate.{Candidate}
use Rattle.output_groups.specs.Counting.{kept_count}
use Rattle.fund_steps.specs.Amounts.{value_of}
use Rattle.fund_steps.specs.declared.fault.PlanFault.TheVariants as plans
use Rattle.fee_sharing.specs.Sweep.{last_row, sweep_amount, sweep_weight, swept_of}
use Rattle.request_text.specs.PlainRequest.{PlainRequest, paid_to}
use Rattle.fund_files.specs.Cause.{FileCause}
use Rattle.fund_files.specs.declared.chain.Chain.{Chain}
use Rattle.command_end.specs.LinesText.{lines_text}
use Rattle.command_end.specs.Names.{Sources}
use Rattle.command_end.specs.declared.status.Status.{Status}
use Rattle.command_end.specs.declared.status.Status.TheVariants as statuses
use Rattle.command_inputs.specs.Cause.{Cause, Files, Plan, status_of_cause}
use Rattle.command_inputs.specs.Names.{Payment}
use Rattle.command_inputs.specs.Outcome.{none_report}
use Rattle.command_amounts.specs.Amounts.{with_amounts}
use Rattle.command_amounts.specs.Coins.{coins_for}
use Rattle.command_amounts.specs.Files.{held_in}
use Rattle.command_amounts.specs.Lines.{figure_lines, in_lines, psbt_line}
use Rattle.command_amounts.specs.Signing.{psbt_text_from}
use Rattle.command_sweep.specs.Asked.{is_for_sweep}

-- A refusal as that of a payment; or of a request that a sweep doesn't take; or of a payment that is too heavy, by its weight in
-- weight units. Or a report: that nothing is left to be paid, or of a payment.
pub data Outcome : Type 0 where
  Refused : Cause → Outcome
  NotSweep : Outcome
  TooHeavy : ℕ → Outcome
  NoSelection : (report : List ℕ) → Outcome
  Swept : (report : List ℕ) → Outcome

-- ---- the report of a payment

-- the request whose recipient gets this amount
abbrev pub swept_request : PlainRequest → (amount : ℕ) → PlainRequest
swept_request r amount = with_amounts r (amount ∷ [])

-- What it takes, the coins that it spends, and what it comes to. Its fee is what the coins are worth less the amount.
unfoldable pub swept_lines : PlainRequest → List Candidate → (amount : ℕ) → List ℕ
swept_lines r coins amount =
    lines_text ((codes "swept " ++ decimal amount) ∷ []) ++ (lines_text (in_lines coins) ++ lines_text (figure_lines (sweep_weight r coins) (value_of coins - amount)))

-- the same, and what a signer gets
abbrev pub sweep_report : Chain → PlainRequest → List Candidate → (amount : ℕ) → List ℕ
sweep_report k r coins amount = swept_lines r coins amount ++ lines_text (psbt_line (psbt_text_from k.book (swept_request r amount) k.wallet.change coins None) ∷ [])

-- ---- what is due

-- by what is left for the recipient, in satoshi, which may be below zero
abbrev pub by_amount : Chain → PlainRequest → List Candidate → ℤ → Outcome
by_amount k r coins (pos amount) = if (length coins == 0) || nat_lt amount (paid_to r.recipients) then NoSelection (none_report 0) else Swept (sweep_report k r coins amount)
by_amount k r coins (negsuc n) = NoSelection (none_report 0)

-- by the coins that are swept
abbrev pub by_coins : Chain → PlainRequest → List Candidate → Outcome
by_coins k r coins = if nat_lt 400_000 (sweep_weight r coins) then TooHeavy (sweep_weight r coins) else by_amount k r coins (sweep_amount r coins)

-- how many coins the last row of the ladder keeps
abbrev pub kept_alone : PlainRequest → List Candidate → ℕ
kept_alone r cs = kept_count false (last_row r) r.rate cs

-- by the coins that may be spent
abbrev pub by_candidates : Chain → PlainRequest → List Candidate → Outcome
by_candidates k r cs = if nat_lt 10_000 (kept_alone r cs) then Refused (Plan (plans.TooMany (last_row r).number (kept_alone r cs))) else by_coins k r (swept_of r cs)

-- what is due for a request that a sweep takes
unfoldable pub swept : Chain → PlainRequest → Outcome
swept k r =
    if nat_lt 2_100_000_000_000_000 (value_of (coins_for k r)) then Refused (Plan (plans.Total (value_of (coins_for k r)))) else by_candidates k r (coins_for k r)

-- by whether it takes the request
abbrev pub by_test : Chain → PlainRequest → Bool → Outcome
by_test k r taken = if taken then swept k r else NotSweep

-- by what the files hold, or the cause for which one is refused
abbrev pub by_files : Result (Chain × PlainRequest) FileCause → Outcome
by_files (Err cause) = Refused (Files cause)
by_files (Ok held) = by_test held.0 held.1 (is_for_sweep held.1)

-- what the files come to
abbrev pub outcome_of : (List ℕ → List ℕ) → Sources → Payment → Outcome
outcome_of files s p = by_files (held_in files s p)

-- the status of that, where nothing fails
abbrev pub status_of : Outcome → Status
status_of (Refused cause) = status_of_cause cause
status_of NotSweep = statuses.Input
status_of (TooHeavy weight) = statuses.Input
status_of (NoSelection report) = statuses.NoSelection
status_of (Swept report) = statuses.Done

-- it is refused
abbrev pub IsRefusal : Outcome → Type 0
IsRefusal (Refused cause) = Unit {0}
IsRefusal NotSweep = Unit {0}
IsRefusal (TooHeavy weight) = Unit {0}
IsRefusal (NoSelection report) = ⊥
IsRefusal (Swept report) = ⊥
