use Rattle.std.proofs.Common.{◌≡◌, ◌++◌, map, take, string_bytes}
use Rattle.command_end.specs.LinesText.{lines_text}
use Rattle.command_amounts.specs.Lines.{in_line}
use Rattle.command_amounts.proofs.lines.put_coins.Given as goal

abbrev pub invariant-loop-coin : goal.invariant-loop-coin
invariant-loop-coin l = string_bytes l.text ≡ string_bytes l.initial.text ++ lines_text (map in_line (take l.coin-index l.coins))
