use Rattle.coin_totals.proofs.OnceLaws.{number_once, worth_once}
use Rattle.coin_totals.proofs.laws.coins_count_once.Goals as goal

pub returns-clause-number : goal.returns-clause-number
returns-clause-number c = number_once

pub returns-clause-worth : goal.returns-clause-worth
returns-clause-worth c = worth_once
