use Rattle.settle_table.proofs.FormLaws.{hex_only}
use Rattle.settle_table.proofs.signed.from_hex.Goals as goal

pub returns-in-Err-clause-only : goal.returns-in-Err-clause-only
returns-in-Err-clause-only c = λ t e. hex_only c.args.file.now t e c.in-Err.stop c.in-Err.ensures.stop
