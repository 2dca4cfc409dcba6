use Rattle.keys_files.proofs.FileLaws.{whole_unfailed}
use Rattle.keys_files.proofs.keys_file.read_bytes.Goals as goal

pub returns-in-Err-clause-unfailed : goal.returns-in-Err-clause-unfailed
returns-in-Err-clause-unfailed g c = λ other. whole_unfailed c.in-Err.error c.read_stop.result c.read_stop.ensures other c.in-Err.ensures.frame.unfailed
