use Rattle.command_work.proofs.CoinLaws.{total_within, value_least, value_most}
use Rattle.command_work.proofs.load_laws.coins_are_within.Goals as goal

pub returns-clause-least : goal.returns-clause-least
returns-clause-least c = value_least

pub returns-clause-most : goal.returns-clause-most
returns-clause-most c = value_most

pub returns-clause-all : goal.returns-clause-all
returns-clause-all c = total_within
