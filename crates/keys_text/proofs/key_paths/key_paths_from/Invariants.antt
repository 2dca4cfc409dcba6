use Rattle.std.proofs.Common.{◌≡◌, ◌<◌, []}
use Rattle.json_fields.specs.Fields.{each_from}
use Rattle.json_fields.specs.Memory.{StoresFirst}
use Rattle.json_fields.proofs.Loops.{rest_of}
use Rattle.keys_text.specs.KeysText.{key_path_at}
use Rattle.keys_text.specs.Stores.{StoresKey}
use Rattle.keys_text.proofs.key_paths.key_paths_from.Given as goal

abbrev pub invariant-loop-value : goal.invariant-loop-value
invariant-loop-value l = record {
  read : each_from (λ _. key_path_at l.whole l.name) l.keys.items (rest_of l.values l.value-index) ≡ each_from (λ _. key_path_at l.whole l.name) [] (rest_of l.values 0);
  stores : 0 < l.value-index → StoresFirst (StoresKey l.whole l.name) (rest_of l.values 0);
}
