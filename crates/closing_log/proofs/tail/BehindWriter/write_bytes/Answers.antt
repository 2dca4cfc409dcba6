use Rattle.closing_log.proofs.Feeding.{keeps_more}
use Rattle.closing_log.proofs.tail.BehindWriter.write_bytes.Goals as goal

pub returns : goal.returns
returns c = record { feeds = λ m h. rw c.in_ok-extend_from_slice.ensures.items (keeps_more _ _ _ _ _ m c.split_at.ensures.back c.min-pass.ensures h) }
