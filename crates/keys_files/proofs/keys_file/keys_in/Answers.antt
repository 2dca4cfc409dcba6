use Rattle.std.proofs.Common.{subst, sym}
use Rattle.keys_files.specs.KeysFile.{StopsAtBytes}
use Rattle.keys_files.proofs.FileLaws.{bytes_stop}
use Rattle.keys_files.proofs.keys_file.keys_in.Goals as goal

pub returns-in-Err-clause-stop : goal.returns-in-Err-clause-stop
returns-in-Err-clause-stop c = subst (StopsAtBytes c.args.bytes.now) (sym c.fault_stop.ensures) (bytes_stop c.args.bytes.now c.in-Err.fault c.in-Err.ensures.exact)
