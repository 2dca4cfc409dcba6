use Rattle.std.proofs.Common.{◌≡◌, ◌<◌, [], codes}
use Rattle.std.specs.Prelude.{All, IsOk}
use Rattle.json_fields.proofs.Loops.{rest_of}
use Rattle.json_fields.specs.Fields.{IsPoint, coin_at, each_from}
use Rattle.json_fields.specs.Memory.{StoresFirst}
use Rattle.request_text.proofs.coins.coins_from.Given as goal

abbrev pub invariant-loop-value : goal.invariant-loop-value
invariant-loop-value l = record {
  read : each_from (λ _. coin_at (codes "coins")) l.coins.items (rest_of l.values l.value-index) ≡ each_from (λ _. coin_at (codes "coins")) [] (rest_of l.values 0);
  are : All IsPoint l.coins.items;
  stores : 0 < l.value-index → StoresFirst (λ e. IsOk (coin_at (codes "coins") e)) (rest_of l.values 0);
}
