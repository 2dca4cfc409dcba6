use Rattle.std.proofs.Common.{◌≡◌, ◌++◌, map, take}
use Rattle.psbt_keys.specs.Origins.{path_pair}
use Rattle.psbt_keys.proofs.due.add_paths.Given as goal

abbrev pub invariant-loop-key : goal.invariant-loop-key
invariant-loop-key l = l.due.items ≡ l.fn.due.items ++ map (path_pair l.before l.kind) (take l.key-index l.keys)
