use Rattle.std.proofs.Common.{false}
use Rattle.sqlite.specs.Held.{state}
use Rattle.sqlite.proofs.InsideLemmas.{inside_keeps}
use Rattle.keep_sqlite.proofs.tables.run.Goals as goal

pub returns-in-Ok-clause-left : goal.returns-in-Ok-clause-left
returns-in-Ok-clause-left g c =
    let old = state g.S.Store c.args.transaction.now.conn.now in
    let new = state g.S.Store c.execute.new.self.conn.now in
    record {
      kept = λ inside clean. inside_keeps old new 0 false _ _ c.execute.result (c.execute.ensures.runs clean inside);
      inside = λ inside clean. (c.in-Ok.ensures.runs clean inside).1.mode;
      survives = c.execute.ensures.survives;
    }

pub returns-in-Err-clause-left : goal.returns-in-Err-clause-left
returns-in-Err-clause-left g c =
    let old = state g.S.Store c.args.transaction.now.conn.now in
    let new = state g.S.Store c.execute.new.self.conn.now in
    record { kept = λ inside clean. inside_keeps old new 0 false _ _ c.execute.result (c.execute.ensures.runs clean inside); inside = λ inside clean. tt; survives = c.execute.ensures.survives }

pub returns-in-Ok-clause-ran : goal.returns-in-Ok-clause-ran
returns-in-Ok-clause-ran g c clean inside = (c.in-Ok.field-0, (c.in-Ok.ensures.runs clean inside).0)
