-- The shelf in memory whose failures are told beforehand.
use Rattle.std.specs.Prelude.{ℕ, ◌||◌, Bool, List, Option, is_none}
use Rattle.fund_shelf.specs.Causes.{ShelfView}
use Rattle.fund_shelf.specs.Failures.{FailurePlan, is_due}
use Rattle.fund_shelf.specs.Files.{file_of, bytes_of, names_in, times}
use Rattle.fund_shelf.specs.declared.mem_shelf.MemShelf.{MemShelf}

-- its files, how often a read and how often a write of each name has failed, and the names that were asked for
abbrev pub view_of : MemShelf → ShelfView
view_of shelf = record {
  files = bytes_of shelf.files.items;
  reads = λ name. times name shelf.failed_reads.items;
  writes = λ name. times name shelf.failed_writes.items;
  asked = names_in shelf.asked.items;
}

-- the bytes of its file of that name
abbrev pub file_in : MemShelf → List ℕ → Option (List ℕ)
file_in shelf = file_of shelf.files.items

-- which of its reads are to fail
abbrev pub read_plan : MemShelf → FailurePlan
read_plan shelf = shelf.reads

-- which of its writes are to fail
abbrev pub write_plan : MemShelf → FailurePlan
write_plan shelf = shelf.writes

-- a read of the name fails now, since this call is to fail or no file has the name
abbrev pub read_fails : MemShelf → List ℕ → Bool
read_fails shelf name = is_due shelf.reads || is_none (file_of shelf.files.items name)
