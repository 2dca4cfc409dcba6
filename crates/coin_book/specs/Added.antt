-- A block that was added to a book, whichever kind it was.
use Rattle.std.specs.declared.snapshot.Snapshot.{Snapshot}
use Rattle.block_feed.specs.Block.{ChainBlock}
use Rattle.coin_book.specs.declared.added.Kind.{Kind}
use Rattle.coin_book.specs.declared.added.Kind.TheVariants.{Bytes, Lists}

abbrev pub added_as : Kind → Snapshot ChainBlock
added_as (Lists block) = block
added_as (Bytes block) = block
