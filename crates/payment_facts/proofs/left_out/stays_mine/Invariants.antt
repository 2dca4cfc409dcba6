use Rattle.std.proofs.Common.{◌≡◌, true, take}
use Rattle.std.specs.Prelude.{bytes_eq}
use Rattle.std.specs.List.{list_all}
use Rattle.indexmap.specs.IndexSet.{contains}
use Rattle.tx_codec.specs.declared.tx.TxIn.{TxIn}
use Rattle.payment_facts.specs.LeftOut.{stays_coin}
use Rattle.payment_facts.proofs.left_out.stays_mine.Given as goal

abbrev pub invariant-loop-input : goal.invariant-loop-input
invariant-loop-input l = list_all (λ (i : TxIn). stays_coin l.book (contains bytes_eq l.gone) i.prev) (take l.input-index l.inputs) ≡ true
