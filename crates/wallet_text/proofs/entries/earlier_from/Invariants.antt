use Rattle.std.proofs.Common.{◌≡◌, ◌<◌, []}
use Rattle.json_fields.specs.Fields.{each_from}
use Rattle.json_fields.specs.Memory.{StoresFirst}
use Rattle.json_fields.proofs.Loops.{rest_of}
use Rattle.wallet_text.specs.Stores.{StoresEarlier}
use Rattle.wallet_text.specs.WalletText.{earlier_behind}
use Rattle.wallet_text.proofs.entries.earlier_from.Given as goal

abbrev pub invariant-loop-value : goal.invariant-loop-value
invariant-loop-value l = record {
  read : each_from (earlier_behind l.most) l.earlier.items (rest_of l.values l.value-index) ≡ each_from (earlier_behind l.most) [] (rest_of l.values 0);
  stores : 0 < l.value-index → StoresFirst (StoresEarlier l.most) (rest_of l.values 0);
}
