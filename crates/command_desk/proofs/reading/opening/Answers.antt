use Rattle.std.proofs.Common.{refl}
use Rattle.command_desk.specs.Line.{Open}
use Rattle.command_desk.proofs.LineLaws.{read_halts}
use Rattle.command_desk.proofs.reading.opening.Goals as goal

pub returns-in-Err-clause-halt : goal.returns-in-Err-clause-halt
returns-in-Err-clause-halt g c = read_halts g.H.Shelf.tells (Open c.args.name.now c.args.file.now) (record { file = c.args.file.now; most = 1048576 }) (g.H.Shelf.view c.args.shelf.now) (g.H.Shelf.view c.read_file.new.shelf) c.in-Err.halt refl c.in-Err.ensures.halt
