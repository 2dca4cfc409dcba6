use Rattle.fund_base.proofs.Laws.{yields_all_found, yields_all_only}
use Rattle.tx_codec.specs.declared.fault.TxFault.TheVariants.{Trailing, Memory}
use Rattle.tx_codec.specs.Reading.{tx_at}
use Rattle.tx_codec.specs.TransactionText.{text_of, IsTransaction}
use Rattle.tx_codec.proofs.Laws.{tx_reads}
use Rattle.tx_codec.proofs.PublicClauses.{only_memory, all_trailing, all_followed}
use Rattle.tx_codec.proofs.OwnFaults.{tx_untrailed}
use Rattle.tx_codec.proofs.reading.read_whole_tx.Goals as goal

pub returns-clause-found : goal.returns-clause-found
returns-clause-found c = yields_all_found Memory (λ t. t) (λ place. Trailing place) tx_at text_of IsTransaction tx_reads (record { rest = c.args.bytes.now; place = 0 }) c.whole_of.result c.whole_of.ensures.bytes c.whole_of.ensures.exact

pub returns-clause-only : goal.returns-clause-only
returns-clause-only c = λ tx fits is. yields_all_only Memory (λ t. t) (λ place. Trailing place) tx_at text_of IsTransaction tx_reads (record { rest = c.args.bytes.now; place = 0 }) c.whole_of.result only_memory c.whole_of.ensures.exact tx fits is

pub returns-clause-trailing : goal.returns-clause-trailing
returns-clause-trailing c = all_trailing tx_at IsTransaction tx_reads tx_untrailed c.args.bytes.now c.whole_of.ensures.bytes c.whole_of.result c.whole_of.ensures.exact

pub returns-clause-followed : goal.returns-clause-followed
returns-clause-followed c = all_followed tx_at IsTransaction tx_reads c.args.bytes.now c.whole_of.ensures.bytes c.whole_of.result c.whole_of.ensures.exact
