use Rattle.settle_table.proofs.HexLaws.{hex_form, hex_held}
use Rattle.settle_table.proofs.laws.hex_is_held_as_hex.Goals as goal

pub returns-clause-form : goal.returns-clause-form
returns-clause-form c = hex_form

pub returns-clause-holds : goal.returns-clause-holds
returns-clause-holds c = hex_held
