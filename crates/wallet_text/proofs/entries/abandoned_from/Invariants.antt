use Rattle.std.proofs.Common.{◌≡◌, ◌<◌, []}
use Rattle.std.specs.Prelude.{IsOk, codes}
use Rattle.json_fields.specs.Fields.{each_from, hash_at}
use Rattle.json_fields.specs.Memory.{StoresFirst}
use Rattle.json_fields.proofs.Loops.{rest_of}
use Rattle.wallet_text.proofs.entries.abandoned_from.Given as goal

abbrev pub invariant-loop-value : goal.invariant-loop-value
invariant-loop-value l = record {
  read : each_from (λ _. hash_at (codes "abandoned")) l.txids.items (rest_of l.values l.value-index) ≡ each_from (λ _. hash_at (codes "abandoned")) [] (rest_of l.values 0);
  stores : 0 < l.value-index → StoresFirst (λ e. IsOk (hash_at (codes "abandoned") e)) (rest_of l.values 0);
}
