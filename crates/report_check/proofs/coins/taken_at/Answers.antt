use Rattle.std.specs.Prelude.{Option, None, option_copied}
use Rattle.std.proofs.Common.{sym, ap, subst}
use Rattle.std.proofs.lemmas.Bool.{both_ways}
use Rattle.output_groups.specs.declared.rows.Row.{Row}
use Rattle.report_check.specs.Finding.{IsTakenAt}
use Rattle.report_check.proofs.FindingLaws.{no_coin, no_row, not_met}
use Rattle.report_check.proofs.coins.taken_at.Goals as goal

pub returns-in-None-row : goal.returns-in-None-row
returns-in-None-row c =
    subst (λ (o : Option Row). IsTakenAt c.args.presets.now c.args.rest.now o c.args.point.now None) (sym (ap option_copied c.in-None-row.is))
    (no_row c.args.presets.now c.args.rest.now c.args.point.now c.in-None.ensures)

pub returns-in-None-coin_at : goal.returns-in-None-coin_at
returns-in-None-coin_at c = no_coin c.args.presets.now c.args.rest.now (option_copied c.args.row) c.args.point.now c.in-None.ensures c.in-None-coin_at.ensures

pub returns-else-meets : goal.returns-else-meets
returns-else-meets c =
    subst (λ (o : Option Row). IsTakenAt c.args.presets.now c.args.rest.now o c.args.point.now None) (sym (ap option_copied c.in-Some-row.is))
    (not_met c.args.presets.now c.args.rest.now c.in-Some-row.row.now c.args.point.now c.in-Some-coin_at.coin.now c.requires c.in-None.ensures c.in-Some-coin_at.ensures
    (λ m. both_ways c.meets.result c.if-meets.false (c.meets.ensures.meaning.1 m)))
