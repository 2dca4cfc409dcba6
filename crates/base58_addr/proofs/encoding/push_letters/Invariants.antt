use Rattle.std.proofs.Common.{◌≡◌, ◌++◌, map, take}
use Rattle.base58_addr.specs.Base58.{letter_of}
use Rattle.base58_addr.proofs.encoding.push_letters.Given as goal

abbrev pub invariant-loop-value : goal.invariant-loop-value
invariant-loop-value l = l.text.items ≡ l.initial.text.items ++ map letter_of (take l.value-index l.values)
