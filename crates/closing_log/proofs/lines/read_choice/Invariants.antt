use Rattle.std.proofs.Common.{◌≡◌, drop}
use Rattle.closing_log.specs.Reading.{choice_at}
use Rattle.closing_log.proofs.lines.read_choice.Given as goal

abbrev pub invariant-loop-choice : goal.invariant-loop-choice
invariant-loop-choice g l = choice_at g.W.Worded.text (drop l.choice-index l.words) l.stop l.bytes ≡ choice_at g.W.Worded.text l.words l.bytes l.bytes
