-- Outpoints as values that are compared and ordered.
use Rattle.std.specs.Prelude.{◌==◌, ◌&&◌, Bool, bytes_eq}
use Rattle.std.specs.Ordering.{nat_cmp, ordering_then}
use Rattle.std.specs.declared.cmp.Ordering.{Ordering}
use Rattle.std.specs.Cmp.Lexicographic.{slice_cmp}
use Rattle.fund_base.specs.declared.outpoint.OutPoint.{OutPoint}

-- both are the same output
abbrev pub same_outpoint : OutPoint → OutPoint → Bool
same_outpoint a b = bytes_eq a.txid b.txid && (a.index == b.index)

-- by the bytes of the txid as stored, then by index
abbrev pub outpoint_cmp : OutPoint → OutPoint → Ordering
outpoint_cmp a b = ordering_then (slice_cmp nat_cmp a.txid b.txid) (nat_cmp a.index b.index)
