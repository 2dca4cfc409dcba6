use Rattle.std.proofs.Common.{◌≡◌, [], take, drop}
use Rattle.keys_text.specs.Judging.{repeat_from}
use Rattle.keys_text.proofs.judging.first_repeat.Given as goal

abbrev pub invariant-loop-i : goal.invariant-loop-i
invariant-loop-i l = repeat_from (take l.i l.keys) (drop l.i l.keys) ≡ repeat_from [] l.keys
