use Rattle.std.proofs.Common.{arith}
use Rattle.std.proofs.lemmas.List.{nil_from_length}
use Rattle.search_keep.proofs.ToldLaws.{tell_saved}
use Rattle.search_keep.proofs.reading.read_lines.Goals as goal

pub returns-in-empty : goal.returns-in-empty
returns-in-empty c =
    tell_saved c.args.bytes.now c.in-Ok.read.1.now c.in-Ok-read_position.read.1.now c.in-Ok.read.0 c.in-Ok-read_position.read.0 c.in-Ok.ensures c.in-Ok-read_position.ensures
    (nil_from_length c.in-Ok-read_position.read.1.now (omega (arith, c.in-empty.len_below)))
