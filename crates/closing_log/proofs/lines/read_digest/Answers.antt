use Rattle.closing_log.proofs.Loops.{digest_fails}
use Rattle.closing_log.proofs.lines.read_digest.Goals as goal

pub returns-in-Err : goal.returns-in-Err
returns-in-Err c = digest_fails c.args.bytes.now c.split_at.result.0.now c.split_at-in-Err.result.1.now c.min.result c.hex_len.result c.in-Err.field-0 c.from_hex.result c.from_hex.ensures c.in-Err.is c.split_at.ensures.front c.min.ensures c.split_at-in-Err.ensures.back c.hex_len.ensures.value
