use Rattle.std.proofs.Common.{◌++◌, take}
use Rattle.std.specs.List.{flat_map}
use Rattle.sha2.specs.Hashers.{Holds256}
use Rattle.pick_problem.specs.Digest.{head_bytes, item_bytes}
use Rattle.pick_problem.proofs.problem.Problem.digest.Given as goal

abbrev pub invariant-loop-item : goal.invariant-loop-item
invariant-loop-item l = Holds256 l.hasher (head_bytes l.self ++ flat_map item_bytes (take l.item-index l.item-items))
