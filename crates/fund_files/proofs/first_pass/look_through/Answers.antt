use Rattle.fund_shelf.proofs.FrameLaws.{frame_none, memory_not}
use Rattle.fund_files.proofs.first_pass.look_through.Goals as goal

pub returns-in_err-piece : goal.returns-in_err-piece
returns-in_err-piece g c = record { frame = frame_none _ _ _ _ (memory_not c.from_residual.result c.from_residual.ensures.1) }
