-- The words of a transaction's faults tell them apart.
use Rattle.std.proofs.Common.{◌≡◌, ℕ, codes, refl, ap}
use Rattle.std.specs.Fmt.{decimal}
use Rattle.tx_codec.specs.declared.fault.TxFault.{TxFault}
use Rattle.tx_codec.specs.declared.fault.TxFault.TheVariants as txs
use Rattle.command_end.specs.Words.{tx_fault_words}
use Rattle.fault_laws.specs.Numbers.{HasTxNumbers}
use Rattle.fault_laws.proofs.WordLaws.{after, decimal_apart, differ}

pub tx_apart : (a b : TxFault) → HasTxNumbers a → HasTxNumbers b → tx_fault_words a ≡ tx_fault_words b → a ≡ b
unfolding tx_fault_words
tx_apart (txs.Truncated m) (txs.Truncated n) p q e = ap (λ (k : ℕ). txs.Truncated k) (decimal_apart m n p q (after (codes "Truncated ") (decimal m) (decimal n) e))
tx_apart (txs.LongCompact m) (txs.LongCompact n) p q e = ap (λ (k : ℕ). txs.LongCompact k) (decimal_apart m n p q (after (codes "LongCompact ") (decimal m) (decimal n) e))
tx_apart (txs.ValueRange m) (txs.ValueRange n) p q e = ap (λ (k : ℕ). txs.ValueRange k) (decimal_apart m n p q (after (codes "ValueRange ") (decimal m) (decimal n) e))
tx_apart (txs.Trailing m) (txs.Trailing n) p q e = ap (λ (k : ℕ). txs.Trailing k) (decimal_apart m n p q (after (codes "Trailing ") (decimal m) (decimal n) e))
tx_apart txs.NoInputs txs.NoInputs p q e = refl
tx_apart txs.NoOutputs txs.NoOutputs p q e = refl
tx_apart txs.BadFlag txs.BadFlag p q e = refl
tx_apart txs.EmptyWitness txs.EmptyWitness p q e = refl
tx_apart txs.Memory txs.Memory p q e = refl
tx_apart a b p q e = absurd (differ (tx_fault_words a) (tx_fault_words b) refl e)
