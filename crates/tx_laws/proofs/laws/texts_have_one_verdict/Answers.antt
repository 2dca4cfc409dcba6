use Rattle.tx_codec.specs.TransactionText.{IsTransaction}
use Rattle.tx_codec.specs.Reading.{tx_at}
use Rattle.tx_codec.specs.declared.fault.TxFault.TheVariants.{Trailing}
use Rattle.fund_base.specs.Parsing.{whole_of}
use Rattle.tx_laws.specs.Fields.{Breaks}
use Rattle.tx_laws.specs.Order.{TransactionComes, WholeComes}
use Rattle.tx_laws.proofs.Forms.{tx_neither, tx_verdict, tx_whole}
use Rattle.tx_laws.proofs.Judged.{one_fault}
use Rattle.tx_laws.proofs.laws.texts_have_one_verdict.Goals as goal

pub returns-clause-either : goal.returns-clause-either
returns-clause-either c = tx_verdict

pub returns-clause-never_both : goal.returns-clause-never_both
returns-clause-never_both c = tx_neither

pub returns-clause-one : goal.returns-clause-one
returns-clause-one c = λ bytes first second fits.
    one_fault Breaks (WholeComes IsTransaction TransactionComes) (record { rest = bytes; place = 0 }) (whole_of Trailing (tx_at (record { rest = bytes; place = 0 }))) (tx_whole (record { rest = bytes; place = 0 }) fits) first second
