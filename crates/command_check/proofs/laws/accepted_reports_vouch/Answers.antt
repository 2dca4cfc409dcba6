use Rattle.report_check.proofs.VouchedLaws.{accepted_vouches}
use Rattle.command_check.proofs.LineLaws.{starts}
use Rattle.command_check.proofs.StopLaws.{accepted_pays}
use Rattle.command_check.proofs.laws.accepted_reports_vouch.Goals as goal

pub returns-clause-vouches : goal.returns-clause-vouches
returns-clause-vouches c = λ files s p report r k are. accepted_vouches k.plan r (files p.log) k.judged.plan_is.rules are k.accepted

pub returns-clause-pays : goal.returns-clause-pays
returns-clause-pays c = λ files s p report r k. accepted_pays k.plan r (files p.log) k.accepted

pub returns-clause-first : goal.returns-clause-first
returns-clause-first c = starts
