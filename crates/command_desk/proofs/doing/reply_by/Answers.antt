use Rattle.std.proofs.Common.{refl, Some, None, string_bytes}
use Rattle.desk_machine.specs.Commands.{plain_command}
use Rattle.command_desk.specs.Lent.{plain_line}
use Rattle.command_desk.specs.ReplyText.{other_line}
use Rattle.command_desk.proofs.ArmLaws.{put_halted, put_replied}
use Rattle.command_desk.proofs.doing.reply_by.Goals as goal

pub returns-in-Ok-clause-halt : goal.returns-in-Ok-clause-halt
returns-in-Ok-clause-halt g c =
    rw c.in-Some.is
    (put_halted g.O.Sink.tells (plain_line c.args.line.now) (Some (plain_command c.in-Some.command)) c.args.desk.now c.reply_to.new.desk (g.O.Sink.view c.args.out.now) (g.O.Sink.view c.put.new.out) (string_bytes c.in-Ok.text) c.in-Ok.ensures c.put.result
    (rw c.as_bytes.ensures.value at c.put.ensures.halt))

pub returns-in-None-clause-done : goal.returns-in-None-clause-done
returns-in-None-clause-done g c =
    rw c.in-None.is
    (put_replied g.O.Sink.tells (plain_line c.args.line.now) None c.args.desk.now c.args.desk.now (g.O.Sink.view c.args.out.now) (g.O.Sink.view c.put-in-None.new.out) other_line (refl, refl) c.put-in-None.result
    (rw (c.as_bytes-in-None.ensures.value, c.other_line.ensures) at c.put-in-None.ensures.all))

pub returns-in-None-clause-halt : goal.returns-in-None-clause-halt
returns-in-None-clause-halt g c =
    rw c.in-None.is
    (put_halted g.O.Sink.tells (plain_line c.args.line.now) None c.args.desk.now c.args.desk.now (g.O.Sink.view c.args.out.now) (g.O.Sink.view c.put-in-None.new.out) other_line (refl, refl) c.put-in-None.result
    (rw (c.as_bytes-in-None.ensures.value, c.other_line.ensures) at c.put-in-None.ensures.halt))
