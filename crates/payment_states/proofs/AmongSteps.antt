-- None is among none.
use Rattle.std.proofs.Common.{◌≡◌, false, List, [], ◌∷◌, length, refl, arith}
use Rattle.std.specs.List.{list_any}
use Rattle.fund_base.specs.Outpoints.{same_outpoint}
use Rattle.fund_base.specs.declared.outpoint.OutPoint.{OutPoint}

pub none_among : (keys : List OutPoint) (o : OutPoint) → length keys ≡ 0 → false ≡ list_any (same_outpoint o) keys
none_among [] o none = refl
none_among (k ∷ keys) o none = absurd (omega arith)
