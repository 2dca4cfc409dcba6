use Rattle.std.proofs.Common.{◌∙◌, ◌+◌, ℕ, ap, length, refl}
use Rattle.fund_gap.proofs.GapLaws.{gap_is}
use Rattle.fund_gap.proofs.gap.gap_by.Goals as goal

pub returns : goal.returns
returns c =
    let added = c.args.added in
    let presets = c.presets-presets.result.now in
    let coins : ℕ = length presets + added.coins in
    let worth = ap (λ (n : ℕ). n + added.value) (c.from.ensures ∙ c.value.ensures.value) in
    c.gap_from.ensures
    ∙ gap_is c.args.funds.now added c.rates-rates.result c.load-load.result (record c.load-load.result { coins = coins }) presets (c.from.result + added.value) c.charges.result c.need-needs.result coins c.rates-rates.ensures.value c.load-load.ensures.alone
    c.presets-presets.ensures.value refl refl worth c.charges.ensures.value c.need-needs.ensures
