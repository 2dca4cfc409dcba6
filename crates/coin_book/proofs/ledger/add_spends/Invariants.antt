use Rattle.std.proofs.Common.{◌≡◌, ◌&&◌, take, ◌++◌, ◌∷◌, []}
use Rattle.std.specs.Prelude.{if◌then◌else◌}
use Rattle.fund_base.specs.declared.outpoint.OutPoint.{OutPoint}
use Rattle.coin_book.specs.Spends.{has_input}
use Rattle.coin_book.specs.Places.{spends_in}
use Rattle.coin_book.specs.Merging.{is_new}
use Rattle.coin_book.proofs.ledger.add_spends.Given as goal

abbrev pub invariant-loop-input : goal.invariant-loop-input
invariant-loop-input l = (o : OutPoint) → spends_in l.spends o ≡ spends_in l.initial.spends o ++ (if has_input o (take l.input-index l.inputs) && is_new l.watched l.base l.initial.spends l.spend.txid o then l.spend ∷ [] else [])
