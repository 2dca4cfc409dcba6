use Rattle.std.proofs.Common.{[], ◌∷◌}
use Rattle.command_end.proofs.PutLaws.{gathered_held}
use Rattle.command_end.proofs.putting.gather_byte.Goals as goal

pub returns-in-Ok-clause-whole : goal.returns-in-Ok-clause-whole
returns-in-Ok-clause-whole g c = gathered_held g.O.Sink.tells (c.args.byte ∷ []) c.args.held.now.items c.try_push.new.self.items (g.O.Sink.view c.args.out.now) c.in-Ok.ensures.ok

pub returns-in-Err-clause-whole : goal.returns-in-Err-clause-whole
returns-in-Err-clause-whole g c = rw c.in-Err.ensures.err at c.gather_anew.ensures.whole

pub returns-in-Err-clause-cut : goal.returns-in-Err-clause-cut
returns-in-Err-clause-cut g c = rw c.in-Err.ensures.err at c.gather_anew.ensures.cut
