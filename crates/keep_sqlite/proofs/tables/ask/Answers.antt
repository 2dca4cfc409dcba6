use Rattle.keep_sqlite.proofs.tables.ask.Goals as goal

pub returns-in-Load : goal.returns-in-Load
returns-in-Load g c clean = rw c.in-Load.is (c.load.ensures.told clean)

pub returns-in-Part : goal.returns-in-Part
returns-in-Part g c clean = rw c.in-Part.is (c.part.ensures.told clean)
