-- What only reads, and then only reads again, only reads.
use Rattle.std.proofs.Common.{◌∙◌, ℕ, List, arith}
use Rattle.fund_shelf.specs.Causes.{OnlyReads, ReadsOne, ShelfView}

pub only_reads_on : (told : Type 0) (old middle new : ShelfView) → OnlyReads told old middle → OnlyReads told middle new → OnlyReads told old new
only_reads_on told old middle new a b = record {
  same = λ t. b.same t ∙ a.same t;
  reads = λ name. omega (arith, a.reads name, b.reads name);
  writes = b.writes ∙ a.writes;
}

-- so does what reads one file
pub only_one : (told failed : Type 0) (name : List ℕ) (old new : ShelfView) → ReadsOne told failed name old new → OnlyReads told old new
only_one told failed name old new frame = record { same = frame.same; reads = frame.reads; writes = frame.writes }
