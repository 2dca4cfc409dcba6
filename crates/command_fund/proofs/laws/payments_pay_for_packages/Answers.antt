use Rattle.command_inputs.proofs.PackageLaws.{pays_for_packages}
use Rattle.command_fund.proofs.laws.payments_pay_for_packages.Goals as goal

pub returns : goal.returns
returns c = pays_for_packages
