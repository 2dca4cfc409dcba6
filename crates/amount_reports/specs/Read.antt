-- What a reader of the code answers, beside reading on lists.
use Rattle.std.specs.Prelude.{ℕ, ◌≡◌, List, Result, Ok, Err}
use Rattle.amount_reports.specs.declared.fault.AmountFault.{AmountFault}
use Rattle.amount_reports.specs.declared.fault.AmountFault.TheVariants as faults

-- What a call returned, seen by view, is what reading gives, and a fault of the form comes only where reading fails.
abbrev pub Agrees : {X Y : Type 0} → (X → Y) → Result X AmountFault → Result Y (List ℕ) → Type 0
Agrees view (Ok x) read = read ≡ Ok (view x)
Agrees view (Err faults.Memory) read = Unit {0}
Agrees view (Err faults.Form) read = (stop : List ℕ) × (read ≡ Err stop)
