-- Each status is known by its number.
use Rattle.std.proofs.Common.{◌≡◌, ◌∙◌, ℕ, ◌≤◌, Option, Some, ap, lit<, lit≤, refl}
use Rattle.std.specs.Fmt.{decimal}
use Rattle.fund_base.specs.Decimal.{number_of}
use Rattle.fund_base.proofs.Decimals.{only}
use Rattle.command_end.specs.StatusCode.{code_of}
use Rattle.command_end.specs.declared.status.Status.{Status}
use Rattle.command_end.specs.declared.status.Status.TheVariants as statuses
use Rattle.people_advice.specs.Statuses.{status_by, status_numbered}

by_number : (n : ℕ) (s : Status) → n ≤ 255 → status_by (Some n) ≡ Some s → status_numbered (decimal n) ≡ Some s
unfolding status_numbered
by_number n s within is = ap (λ (o : Option ℕ). status_by o) (only 255 n (decimal n) (lit< tt) within refl) ∙ is

pub numbered : (s : Status) → status_numbered (decimal (code_of s)) ≡ Some s
numbered statuses.Done = by_number 0 statuses.Done (lit≤ tt) refl
numbered statuses.Usage = by_number 2 statuses.Usage (lit≤ tt) refl
numbered statuses.Input = by_number 3 statuses.Input (lit≤ tt) refl
numbered statuses.ReadFault = by_number 4 statuses.ReadFault (lit≤ tt) refl
numbered statuses.WriteFault = by_number 5 statuses.WriteFault (lit≤ tt) refl
numbered statuses.KeepFault = by_number 6 statuses.KeepFault (lit≤ tt) refl
numbered statuses.Memory = by_number 7 statuses.Memory (lit≤ tt) refl
numbered statuses.Saved = by_number 8 statuses.Saved (lit≤ tt) refl
numbered statuses.Limit = by_number 9 statuses.Limit (lit≤ tt) refl
numbered statuses.Unfinished = by_number 10 statuses.Unfinished (lit≤ tt) refl
numbered statuses.NoSelection = by_number 11 statuses.NoSelection (lit≤ tt) refl
numbered statuses.CheckRefused = by_number 12 statuses.CheckRefused (lit≤ tt) refl
numbered statuses.Settle = by_number 13 statuses.Settle (lit≤ tt) refl
