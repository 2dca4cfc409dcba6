use Rattle.std.proofs.Common.{arith}
use Rattle.std.proofs.lemmas.List.{nil_from_length}
use Rattle.fund_report.proofs.ToldLaws.{tell_report}
use Rattle.fund_report.proofs.reading.read_whole.Goals as goal

pub returns-in-empty-clause-agrees : goal.returns-in-empty-clause-agrees
returns-in-empty-clause-agrees c = tell_report c.args.bytes.now c.in-Ok.read.1.now c.in-Ok.read.0 c.in-Ok.ensures.gives (nil_from_length c.in-Ok.read.1.now (omega (arith, c.in-empty.len_below)))
