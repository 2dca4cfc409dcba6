use Rattle.std.proofs.Common.{◌≡◌, take, true}
use Rattle.std.specs.List.{list_all}
use Rattle.tx_codec.specs.declared.tx.TxIn.{TxIn}
use Rattle.coin_book.specs.Watched.{watches}
use Rattle.coin_book.proofs.watching.inputs_watched.Given as goal

abbrev pub invariant-loop-input : goal.invariant-loop-input
invariant-loop-input l = list_all (λ (i : TxIn). watches l.watched i.prev) (take l.input-index l.inputs) ≡ true
