-- The greatest fee that is taken.
use Rattle.std.specs.Prelude.{ℕ, ◌/◌, min, List, sum_by, Option, Some, None}
use Rattle.request_making.specs.declared.payment.Payment.{Payment}

-- the amounts of payments together
abbrev pub paid : List Payment → ℕ
paid payments = sum_by (λ (p : Payment). p.amount) payments

-- The greatest fee that is taken: the one that is given, or else the less of 0.01 bitcoin and a tenth of what is paid.
abbrev pub fee_ceiling : Option ℕ → List Payment → ℕ
fee_ceiling (Some most) payments = most
fee_ceiling None payments = min 1_000_000 (paid payments / 10)
