use Rattle.std.proofs.Common.{◌∙◌}
use Rattle.coin_maximum.proofs.MostLaws.{left_is, passed_on}
use Rattle.coin_maximum.proofs.most.left.Goals as goal

pub returns-clause-value : goal.returns-clause-value
returns-clause-value c =
    passed_on c.left_of.result c.left_of.ensures.low c.left_of.ensures.high
    ∙ c.left_of.ensures.value
    ∙ left_is c.args.funds.now c.rates-rates.result c.load.result c.new-terms.result.base c.presets.result.now c.rates-rates.ensures.value c.load.ensures.value c.new-terms.ensures.base c.presets.ensures.value
