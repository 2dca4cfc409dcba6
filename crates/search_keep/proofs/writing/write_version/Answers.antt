use Rattle.search_keep.proofs.writing.write_version.Goals as goal

pub returns-in-None : goal.returns-in-None
returns-in-None g c = rw c.in-None.is c.write_bytes.ensures

pub returns-in-Some : goal.returns-in-Some
returns-in-Some g c = rw c.in-Some.is c.write_bytes-in-Some.ensures
