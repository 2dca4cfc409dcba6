use Rattle.std.proofs.Common.{◌≡◌, take, string_bytes}
use Rattle.command_end.specs.Parts.{parts_text}
use Rattle.command_end.proofs.parts.words_of.Given as goal

abbrev pub invariant-loop-part : goal.invariant-loop-part
invariant-loop-part l = string_bytes l.text ≡ parts_text (take l.part-index l.parts)
