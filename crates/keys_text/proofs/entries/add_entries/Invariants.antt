use Rattle.std.proofs.Common.{◌≡◌, ◌<◌, []}
use Rattle.json_fields.specs.Fields.{each_from}
use Rattle.json_fields.specs.Memory.{StoresFirst}
use Rattle.json_fields.proofs.Loops.{rest_of}
use Rattle.keys_text.specs.Entries.{entries_of}
use Rattle.keys_text.specs.KeysText.{entry_behind}
use Rattle.keys_text.specs.Stores.{StoresEntry}
use Rattle.keys_text.proofs.entries.add_entries.Given as goal

abbrev pub invariant-loop-value : goal.invariant-loop-value
invariant-loop-value l = record {
  read : each_from entry_behind (entries_of l.scripts.entries) (rest_of l.values l.value-index) ≡ each_from entry_behind [] (rest_of l.values 0);
  stores : 0 < l.value-index → StoresFirst StoresEntry (rest_of l.values 0);
}
