use Rattle.std.proofs.Common.{◌≡◌, ◌<◌, []}
use Rattle.std.specs.Prelude.{IsOk, codes}
use Rattle.json_fields.specs.Fields.{each_from, coin_at}
use Rattle.json_fields.specs.Memory.{StoresFirst}
use Rattle.json_fields.proofs.Loops.{rest_of}
use Rattle.wallet_text.proofs.entries.locked_from.Given as goal

abbrev pub invariant-loop-value : goal.invariant-loop-value
invariant-loop-value l = record {
  read : each_from (λ _. coin_at (codes "locked")) l.coins.items (rest_of l.values l.value-index) ≡ each_from (λ _. coin_at (codes "locked")) [] (rest_of l.values 0);
  stores : 0 < l.value-index → StoresFirst (λ e. IsOk (coin_at (codes "locked") e)) (rest_of l.values 0);
}
