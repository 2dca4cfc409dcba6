use Rattle.std.specs.Prelude.{◌≡◌, ◌++◌, length}
use Rattle.command_work.specs.Lines.{short_lines}
use Rattle.command_work.proofs.lines.put_short.Given as goal

-- what is added, and what the rest comes to, are those of the whole text
abbrev pub invariant-loop-rest : goal.invariant-loop-rest
invariant-loop-rest l = l.out.items ++ short_lines l.rest ≡ l.fn.out.items ++ short_lines l.fn.text

abbrev pub decreases-loop-rest : goal.decreases-loop-rest
decreases-loop-rest l = length l.rest
