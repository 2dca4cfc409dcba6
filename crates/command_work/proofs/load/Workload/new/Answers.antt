use Rattle.std.proofs.Common.{arith}
use Rattle.command_work.proofs.CoinLaws.{total_within}
use Rattle.command_work.proofs.MakerLaws.{earlier_are}
use Rattle.command_work.proofs.load.Workload.new.Goals as goal

pub judged-requires-clause-each : goal.judged-requires-clause-each
judged-requires-clause-each c = rw c.in-Ok.ensures.earlier (earlier_are c.args.number c.args.count)

pub judged-requires-clause-least : goal.judged-requires-clause-least
judged-requires-clause-least c = omega (arith, c.in-Ok.ensures.total, (total_within c.args.number c.args.count).0, c.requires.some)

pub judged-requires-clause-most : goal.judged-requires-clause-most
judged-requires-clause-most c = omega (arith, c.in-Ok.ensures.total, (total_within c.args.number c.args.count).1, c.requires.most)
