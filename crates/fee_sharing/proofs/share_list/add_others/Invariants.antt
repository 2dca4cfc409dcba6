use Rattle.std.proofs.Common.{◌≡◌, ◌++◌, ◌-◌, map, take}
use Rattle.fee_sharing.proofs.share_list.add_others.Given as goal

abbrev pub invariant-loop-amount : goal.invariant-loop-amount
invariant-loop-amount l = l.left.items ≡ l.initial.left.items ++ map (λ n. n - l.part) (take l.amount-index l.others)
