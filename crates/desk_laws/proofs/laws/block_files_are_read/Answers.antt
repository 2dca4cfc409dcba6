use Rattle.desk_laws.proofs.ReadLaws.{file_read, file_refused, refused_read}
use Rattle.desk_laws.proofs.laws.block_files_are_read.Goals as goal

pub returns-clause-read : goal.returns-clause-read
returns-clause-read c = file_read

pub returns-clause-refused : goal.returns-clause-refused
returns-clause-refused c = file_refused

pub returns-clause-only : goal.returns-clause-only
returns-clause-only c = refused_read
