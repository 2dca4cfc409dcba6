use Rattle.command_desk.specs.Lent.{plain_line}
use Rattle.command_desk.proofs.ArmLaws.{line_done, line_halted}
use Rattle.command_desk.proofs.doing.do_line.Goals as goal

pub returns-in-Ok-clause-done : goal.returns-in-Ok-clause-done
returns-in-Ok-clause-done g c =
    line_done g.H.Shelf.tells g.O.Sink.tells (plain_line c.args.line.now) c.in-Ok.command c.args.desk.now c.reply_by.new.desk (g.H.Shelf.view c.args.shelf.now) (g.H.Shelf.view c.command_of.new.shelf) (g.O.Sink.view c.args.out.now) (g.O.Sink.view c.reply_by.new.out)
    c.in-Ok.ensures.command c.reply_by.result c.reply_by.ensures.done

pub returns-in-Ok-clause-halt : goal.returns-in-Ok-clause-halt
returns-in-Ok-clause-halt g c =
    line_halted g.H.Shelf.tells g.O.Sink.tells (plain_line c.args.line.now) c.in-Ok.command c.args.desk.now c.reply_by.new.desk (g.H.Shelf.view c.args.shelf.now) (g.H.Shelf.view c.command_of.new.shelf) (g.O.Sink.view c.args.out.now) (g.O.Sink.view c.reply_by.new.out)
    c.in-Ok.ensures.command c.reply_by.result c.reply_by.ensures.halt
