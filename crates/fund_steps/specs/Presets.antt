-- Whether given coins alone pay, and with which change.
use Rattle.std.specs.Prelude.{ℕ, pos, ◌+◌, ◌*◌, ◌-ℤ◌, ◌&&◌, nat_le, int_le, unsigned_abs, if◌then◌else◌}
use Rattle.fee_rates.specs.Terms.{base_of, target_of, hi_of, small_of, change_fee_of}
use Rattle.fee_rates.specs.declared.terms.Rates.{Rates}
use Rattle.fee_rates.specs.declared.terms.PaymentLoad.{PaymentLoad}
use Rattle.fund_steps.specs.declared.presets.Presets.{Presets}
use Rattle.fund_steps.specs.declared.presets.Presets.TheVariants.{Short, Plain, Change}

-- what is left for the change: the coins bring a value of 0 beyond the target, which is below it
abbrev pub change_left : Rates → PaymentLoad → ℕ
change_left r l = unsigned_abs ((pos 0 -ℤ target_of r l) -ℤ pos (change_fee_of r l))

-- They pay without change where they bring the target and no more than its window, and with change where they
-- bring the least change; either way within 400,000 weight units.
unfoldable pub presets_of : Rates → PaymentLoad → Presets
presets_of r l =
    if int_le (target_of r l) (pos 0) && int_le (pos 0) (hi_of r l) && nat_le (base_of l + l.preset_weight) 400_000 then Plain
    else if int_le (small_of r l) (pos 0) && nat_le (base_of l + l.preset_weight + 4 * l.change_size) 400_000 then Change (change_left r l)
    else Short
