use Rattle.std.proofs.Common.{take}
use Rattle.command_end.specs.Parts.{parts_text}
use Rattle.command_end.specs.Puts.{IsGathered}
use Rattle.command_end.proofs.putting.gather_parts.Given as goal

abbrev pub invariant-loop-part : goal.invariant-loop-part
invariant-loop-part g l = IsGathered g.O.Sink.tells (parts_text (take l.part-index l.parts)) l.fn.held.items l.held.items (g.O.Sink.view l.fn.out) (g.O.Sink.view l.out)
