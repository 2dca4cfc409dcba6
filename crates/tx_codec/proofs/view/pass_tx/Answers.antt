use Rattle.fund_base.proofs.Laws.{yields_found, yields_moved}
use Rattle.tx_codec.specs.declared.fault.TxFault.TheVariants.{Memory}
use Rattle.tx_codec.specs.Reading.{tx_at}
use Rattle.tx_codec.specs.TransactionText.{text_of, IsTransaction}
use Rattle.tx_codec.proofs.Laws.{tx_reads}
use Rattle.tx_codec.proofs.OwnFaults.{tx_untrailed, yields_untrailed}
use Rattle.tx_codec.proofs.ViewSteps.{only_viewed}
use Rattle.tx_codec.proofs.view.pass_tx.Goals as goal

pub returns-clause-found : goal.returns-clause-found
returns-clause-found c = yields_found Memory (λ t. t) tx_at text_of IsTransaction tx_reads c.args.cursor.now c.front_of.new.cursor c.front_of.result c.front_of.ensures.bytes c.front_of.ensures.exact

pub returns-clause-only : goal.returns-clause-only
returns-clause-only c = only_viewed c.args.cursor.now c.front_of.new.cursor c.front_of.result c.front_of.ensures.exact c.front_of.ensures.never_short

pub returns-clause-place : goal.returns-clause-place
returns-clause-place c = yields_moved Memory (λ t. t) tx_at text_of IsTransaction tx_reads c.args.cursor.now c.front_of.new.cursor c.front_of.result c.front_of.ensures.bytes c.front_of.ensures.exact

pub returns-clause-never_trailing : goal.returns-clause-never_trailing
returns-clause-never_trailing c = yields_untrailed c.front_of.new.cursor c.front_of.result (tx_at c.args.cursor.now) (tx_untrailed c.args.cursor.now) c.front_of.ensures.exact
