-- How a fault of the cursor is reported by one who reads a transaction.
use Rattle.fund_base.specs.declared.cursor.CutFault.{CutFault}
use Rattle.fund_base.specs.declared.cursor.CutFault.TheVariants as cuts
use Rattle.tx_codec.specs.declared.fault.TxFault.{TxFault}
use Rattle.tx_codec.specs.declared.fault.TxFault.TheVariants.{Truncated, LongCompact}

abbrev pub cut_fault : CutFault → TxFault
cut_fault (cuts.Truncated place) = Truncated place
cut_fault (cuts.LongCompact place) = LongCompact place
