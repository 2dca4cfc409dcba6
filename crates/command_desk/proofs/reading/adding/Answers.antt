use Rattle.std.proofs.Common.{refl}
use Rattle.command_desk.specs.Line.{Blocks}
use Rattle.command_desk.proofs.LineLaws.{read_halts}
use Rattle.command_desk.proofs.reading.adding.Goals as goal

pub returns-in-Err-clause-halt : goal.returns-in-Err-clause-halt
returns-in-Err-clause-halt g c = read_halts g.H.Shelf.tells (Blocks c.args.file.now) (record { file = c.args.file.now; most = 67108864 }) (g.H.Shelf.view c.args.shelf.now) (g.H.Shelf.view c.read_file.new.shelf) c.in-Err.halt refl c.in-Err.ensures.halt
