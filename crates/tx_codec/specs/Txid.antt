-- The name of a transaction.
use Rattle.std.specs.Prelude.{ℕ, List}
use Rattle.sha2.specs.Sha256.{sha256}
use Rattle.tx_codec.specs.Transaction.{Transaction}
use Rattle.tx_codec.specs.TransactionText.{bare_text}

-- the double SHA-256 of the form without marker, flag and witnesses (BIP 141, 'Transaction ID')
unfoldable pub txid_of : Transaction → List ℕ
txid_of t = sha256 (sha256 (bare_text t))
