use Rattle.std.specs.Prelude.{◌≡◌, ◌-◌, None, codes, length}
use Rattle.fund_shelf.specs.SureShelf.{view_of}
use Rattle.fund_files.specs.Chain.{IsChain}
use Rattle.desk_machine.proofs.RecordLaws.{SoFar}
use Rattle.desk_chain.proofs.records.add_blocks.Given as goal

abbrev pub invariant-reading : goal.invariant-reading
invariant-reading l = record {
  held : IsChain l.held;
  file : (view_of l.shelf).files (codes "blocks") ≡ l.bytes;
  fine : l.feed.fault ≡ None;
  wallet : l.held.wallet ≡ l.initial.held.wallet;
  so_far : SoFar l.bytes l.initial.held l.held l.feed;
}

abbrev pub decreases-reading : goal.decreases-reading
decreases-reading l = length l.bytes - l.feed.place
