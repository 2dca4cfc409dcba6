use Rattle.std.proofs.Common.{refl}
use Rattle.fund_files.proofs.WatchedLaws.{none_unwatched}
use Rattle.fund_files.proofs.alone.settled.Goals as goal

pub unreachable-requires : goal.unreachable-requires
unreachable-requires c = none_unwatched c.args.book c.requires (c.in-None.ensures.unwatched.0 refl)
