use Rattle.signed_psbt.proofs.MapLaws.{shorter_by}
use Rattle.signed_psbt.proofs.strings.bytes_of.Goals as goal

pub returns-clause-shorter : goal.returns-clause-shorter
returns-clause-shorter c = shorter_by c.args.cursor.now c.compact.new.self c.take.new.self c.in_ok-len.len c.in_ok-take.field-0.now c.in_ok-len.ensures.found c.in_ok-take.ensures.moves
