use Rattle.std.proofs.Common.{◌≡◌, true, take}
use Rattle.std.specs.List.{list_all}
use Rattle.tx_codec.specs.declared.tx.TxIn.{TxIn}
use Rattle.coin_book.specs.Coins.{coins_of}
use Rattle.payment_states.specs.Candidates.{is_coin}
use Rattle.payment_states.proofs.own_coins.is_mine.Given as goal

abbrev pub invariant-loop-input : goal.invariant-loop-input
invariant-loop-input l = list_all (λ (i : TxIn). is_coin (coins_of l.book) i.prev) (take l.input-index l.inputs) ≡ true
