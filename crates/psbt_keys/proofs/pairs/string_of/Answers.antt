use Rattle.signed_psbt.proofs.MapLaws.{shorter_by}
use Rattle.psbt_keys.proofs.pairs.string_of.Goals as goal

pub returns-in-Ok-take-clause-shorter : goal.returns-in-Ok-take-clause-shorter
returns-in-Ok-take-clause-shorter c = shorter_by c.args.cursor.now c.compact.new.self c.take.new.self c.in-Ok.len c.in-Ok-take.bytes.now c.in-Ok.ensures.found c.in-Ok-take.ensures.moves
