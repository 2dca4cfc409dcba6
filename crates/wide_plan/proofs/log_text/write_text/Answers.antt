use Rattle.wide_plan.proofs.WrittenLaws.{feeds_log}
use Rattle.wide_plan.proofs.log_text.write_text.Goals as goal

pub returns : goal.returns
returns g c = feeds_log _ _ _ _ _ _ c.in_ok-write_bytes.ensures c.in_ok-write_rows.ensures c.in_ok-write_bytes-2.ensures
