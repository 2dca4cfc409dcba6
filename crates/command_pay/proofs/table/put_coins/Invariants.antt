use Rattle.std.proofs.Common.{◌≡◌, ◌++◌, take, string_bytes}
use Rattle.std.specs.List.{flat_map}
use Rattle.command_pay.specs.Table.{spends_line}
use Rattle.command_pay.proofs.table.put_coins.Given as goal

abbrev pub invariant-loop-coin : goal.invariant-loop-coin
invariant-loop-coin l = string_bytes l.text ≡ string_bytes l.initial.text ++ flat_map spends_line (take l.coin-index l.coins)
