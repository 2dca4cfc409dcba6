use Rattle.std.proofs.Common.{◌≡◌, ◌<◌, []}
use Rattle.json_fields.specs.Fields.{each_from}
use Rattle.json_fields.specs.Memory.{StoresFirst}
use Rattle.json_fields.proofs.Loops.{rest_of}
use Rattle.wallet_text.specs.Stores.{StoresScript}
use Rattle.wallet_text.specs.WalletText.{script_behind, scripts_of}
use Rattle.wallet_text.proofs.entries.scripts_from.Given as goal

abbrev pub invariant-loop-value : goal.invariant-loop-value
invariant-loop-value l = record {
  read : each_from script_behind l.watches.items (rest_of l.values l.value-index) ≡ each_from script_behind [] (rest_of l.values 0);
  seen : l.seen ≡ scripts_of l.watches.items;
  stores : 0 < l.value-index → StoresFirst StoresScript (rest_of l.values 0);
}
