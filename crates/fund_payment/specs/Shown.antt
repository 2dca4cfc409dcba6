-- What a signer is shown of the coins that a payment spends.
use Rattle.std.specs.Prelude.{◌≡◌, ◌⊎◌, ◌↔◌, List, map, Some, None}
use Rattle.std.specs.List.{AllZip}
use Rattle.fee_rates.specs.Output.{IsProgram}
use Rattle.coin_candidates.specs.declared.candidate.Candidate.{Candidate}
use Rattle.payment_states.specs.Makers.{Makes, output_of}
use Rattle.psbt_codec.specs.PartialTransaction.{PartialTransaction}
use Rattle.psbt_codec.specs.declared.psbt.Spent.{Spent}
use Rattle.tx_codec.specs.Transaction.{Transaction}
use Rattle.tx_codec.specs.declared.tx.TxIn.{TxIn}

-- the input shows the coin's value and script, and nothing else (BIP 174, input type 01)
pub record ShowsOutput (c : Candidate) (s : Spent) : Type 0 where
  pub paid : s.paid ≡ Some (output_of c)
  pub alone : s.whole ≡ None

-- The input shows a whole transaction, and nothing else. It has the coin's txid, and at the coin's index an output of the
-- coin's value and script (BIP 174, input type 00).
pub record ShowsWhole (c : Candidate) (s : Spent) : Type 0 where
  pub maker : Transaction
  pub whole : s.whole ≡ Some maker
  pub makes : Makes maker c
  pub alone : s.paid ≡ None

-- One of the two is shown: the output alone exactly where the coin's script is a witness program (BIP 141, 'Witness
-- program').
pub record ShowsCoin (c : Candidate) (s : Spent) : Type 0 where
  pub shown : ShowsOutput c s ⊎ ShowsWhole c s
  pub program : ShowsOutput c s ↔ IsProgram c.script

-- the inputs spend these coins in this order, and each shows its coin
pub record ShowsCoins (coins : List Candidate) (p : PartialTransaction) : Type 0 where
  pub inputs : map (λ (i : TxIn). i.prev) p.tx.inputs ≡ map (λ (c : Candidate). c.coin) coins
  pub each : AllZip ShowsCoin coins p.spent
