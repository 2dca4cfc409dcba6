-- What the coins of a payment are worth, and what their inputs are declared to weigh, in their order.
use Rattle.std.specs.Prelude.{ℕ, ◌≡◌, List, map}
use Rattle.coin_candidates.specs.declared.candidate.Candidate.{Candidate}
use Rattle.tx_codec.specs.declared.tx.TxOut.{TxOut}

-- the outputs are worth as much as the coins, each as the one at its place, and the weights are those that the coins declare
pub record AreOf (coins : List Candidate) (spent : List TxOut) (declared : List ℕ) : Type 0 where
  pub worth : map (λ (o : TxOut). o.value) spent ≡ map (λ (c : Candidate). c.value) coins
  pub weights : declared ≡ map (λ (c : Candidate). c.weight) coins
