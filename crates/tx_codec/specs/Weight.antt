-- The weight of a transaction.
use Rattle.std.specs.Prelude.{ℕ, ◌+◌, ◌*◌, ◌-◌, ◌^◌, length, min}
use Rattle.tx_codec.specs.Transaction.{Transaction}
use Rattle.tx_codec.specs.TransactionText.{text_of, bare_text}

-- three times the size without witnesses and the whole size (BIP 141, 'Transaction size calculations'),
-- a greater number than fits 64 bits counting as the greatest that does
unfoldable pub weight_of : Transaction → ℕ
weight_of t = min (3 * length (bare_text t) + length (text_of t)) (2 ^ 64 - 1)
