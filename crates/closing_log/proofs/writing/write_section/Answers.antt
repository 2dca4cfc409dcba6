use Rattle.closing_log.proofs.Feeding.{feeds_section}
use Rattle.closing_log.proofs.writing.write_section.Goals as goal

pub returns : goal.returns
returns g c = feeds_section _ _ _ _ _ _ _ _ c.section.view_is c.as_slice.ensures.value c.in_ok-write_head.ensures c.in_ok-write_bytes.ensures c.in_ok-write_closing.ensures
