use Rattle.fund_base.proofs.Laws.{yields_all_found, yields_all_only}
use Rattle.tx_codec.specs.declared.fault.TxFault.TheVariants.{Trailing, Memory}
use Rattle.tx_codec.specs.Reading.{legacy_tx_at}
use Rattle.tx_codec.specs.TransactionText.{text_of, IsLegacy}
use Rattle.tx_codec.proofs.Laws.{legacy_tx_reads}
use Rattle.tx_codec.proofs.PublicClauses.{only_memory, all_trailing, all_followed}
use Rattle.tx_codec.proofs.OwnFaults.{legacy_tx_untrailed}
use Rattle.tx_codec.proofs.reading.read_whole_legacy_tx.Goals as goal

pub returns-clause-found : goal.returns-clause-found
returns-clause-found c = yields_all_found Memory (λ t. t) (λ place. Trailing place) legacy_tx_at text_of IsLegacy legacy_tx_reads (record { rest = c.args.bytes.now; place = 0 }) c.whole_legacy_of.result c.whole_legacy_of.ensures.bytes c.whole_legacy_of.ensures.exact

pub returns-clause-only : goal.returns-clause-only
returns-clause-only c = λ tx fits is. yields_all_only Memory (λ t. t) (λ place. Trailing place) legacy_tx_at text_of IsLegacy legacy_tx_reads (record { rest = c.args.bytes.now; place = 0 }) c.whole_legacy_of.result only_memory c.whole_legacy_of.ensures.exact tx fits is

pub returns-clause-trailing : goal.returns-clause-trailing
returns-clause-trailing c = all_trailing legacy_tx_at IsLegacy legacy_tx_reads legacy_tx_untrailed c.args.bytes.now c.whole_legacy_of.ensures.bytes c.whole_legacy_of.result c.whole_legacy_of.ensures.exact

pub returns-clause-followed : goal.returns-clause-followed
returns-clause-followed c = all_followed legacy_tx_at IsLegacy legacy_tx_reads c.args.bytes.now c.whole_legacy_of.ensures.bytes c.whole_legacy_of.result c.whole_legacy_of.ensures.exact
