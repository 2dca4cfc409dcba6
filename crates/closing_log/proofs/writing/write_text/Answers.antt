use Rattle.closing_log.proofs.Feeding.{feeds_text}
use Rattle.closing_log.proofs.writing.write_text.Goals as goal

pub returns : goal.returns
returns g c = feeds_text _ _ _ _ _ _ _ _ c.log.view_is c.deref.ensures.value c.in_ok-write_bytes.ensures c.in_ok-write_closed.ensures c.in_ok-write_ending.ensures
