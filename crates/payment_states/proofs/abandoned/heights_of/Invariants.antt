use Rattle.std.proofs.Common.{◌≡◌, take, map, vec_len}
use Rattle.coin_book.specs.Spends.{height_of}
use Rattle.payment_states.proofs.abandoned.heights_of.Given as goal

abbrev pub invariant-loop-txid : goal.invariant-loop-txid
invariant-loop-txid l = (l.heights.items ≡ map (height_of l.book.confirmed) (take l.txid-index l.txids)) × (vec_len l.heights ≡ l.txid-index)
