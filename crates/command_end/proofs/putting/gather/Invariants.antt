use Rattle.std.proofs.Common.{take}
use Rattle.command_end.specs.Puts.{IsGathered}
use Rattle.command_end.proofs.putting.gather.Given as goal

abbrev pub invariant-loop-byte : goal.invariant-loop-byte
invariant-loop-byte g l = IsGathered g.O.Sink.tells (take l.byte-index l.bytes) l.fn.held.items l.held.items (g.O.Sink.view l.fn.out) (g.O.Sink.view l.out)
