use Rattle.std.proofs.Common.{◌≡◌, ◌<◌, []}
use Rattle.json_fields.specs.Fields.{each_from}
use Rattle.json_fields.specs.Memory.{StoresFirst}
use Rattle.json_fields.proofs.Loops.{rest_of}
use Rattle.wallet_text.specs.Stores.{StoresPending}
use Rattle.wallet_text.specs.WalletText.{pending_behind}
use Rattle.wallet_text.proofs.entries.pending_from.Given as goal

abbrev pub invariant-loop-value : goal.invariant-loop-value
invariant-loop-value l = record {
  read : each_from pending_behind l.pending.items (rest_of l.values l.value-index) ≡ each_from pending_behind [] (rest_of l.values 0);
  stores : 0 < l.value-index → StoresFirst StoresPending (rest_of l.values 0);
}
