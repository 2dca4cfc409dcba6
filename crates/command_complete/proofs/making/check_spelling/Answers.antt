use Rattle.std.proofs.Common.{◌≡◌, Bool, true, false, not, refl}
use Rattle.std.specs.Cmp.Lexicographic.{other_text}
use Rattle.command_complete.proofs.making.check_spelling.Goals as goal

is_false : (b r : Bool) → r ≡ not b → r ≡ true → false ≡ b
is_false true r e t = absurd (cc (e, t))
is_false false r e t = refl

pub returns-then-ne-clause-other : goal.returns-then-ne-clause-other
returns-then-ne-clause-other c = (refl, other_text c.args.spelling.now c.args.text.now (is_false _ c.ne.result c.ne.ensures c.if-ne.true))
