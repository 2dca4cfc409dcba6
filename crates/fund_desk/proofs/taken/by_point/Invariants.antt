use Rattle.std.specs.Prelude.{◌≡◌, ◌++◌, find}
use Rattle.std.specs.Map.{lookup}
use Rattle.std.specs.Vec.Iter.{into_iter_items}
use Rattle.fund_base.specs.Outpoints.{same_outpoint}
use Rattle.fund_base.specs.declared.outpoint.OutPoint.{OutPoint}
use Rattle.fund_desk.specs.Looked.{is_at}
use Rattle.fund_desk.proofs.taken.by_point.Given as goal

abbrev pub invariant-loop-coin : goal.invariant-loop-coin
invariant-loop-coin l = record {
  found : (o : OutPoint) → lookup (same_outpoint o) l.map.entries ≡ find (is_at o) l.yielded;
  whole : l.yielded ++ into_iter_items l.coin-iterator ≡ l.fn.coins.items;
}
