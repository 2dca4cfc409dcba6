use Rattle.std.proofs.Common.{take}
use Rattle.std.specs.List.{flat_map}
use Rattle.command_end.specs.Name.{shown_byte}
use Rattle.command_end.specs.Puts.{IsGathered}
use Rattle.command_end.proofs.putting.gather_bytewise.Given as goal

abbrev pub invariant-loop-byte : goal.invariant-loop-byte
invariant-loop-byte g l = IsGathered g.O.Sink.tells (flat_map shown_byte (take l.byte-index l.name)) l.fn.held.items l.held.items (g.O.Sink.view l.fn.out) (g.O.Sink.view l.out)
