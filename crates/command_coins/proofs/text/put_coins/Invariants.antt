use Rattle.std.proofs.Common.{◌≡◌, ◌++◌, map, take, string_bytes}
use Rattle.command_end.specs.LinesText.{lines_text}
use Rattle.command_coins.specs.Listing.{coin_line}
use Rattle.command_coins.proofs.text.put_coins.Given as goal

abbrev pub invariant-loop-candidate : goal.invariant-loop-candidate
invariant-loop-candidate l = string_bytes l.text ≡ string_bytes l.initial.text ++ lines_text (map coin_line (take l.candidate-index l.candidates))
