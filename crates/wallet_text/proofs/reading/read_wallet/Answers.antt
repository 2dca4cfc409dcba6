use Rattle.std.proofs.Common.{◌≡◌, ◌∙◌, Err, sym, ap}
use Rattle.tx_codec.specs.declared.fault.TxFault.TheVariants.{Memory}
use Rattle.wallet_text.specs.declared.fault.Refusal.TheVariants.{Tx}
use Rattle.wallet_text.proofs.NestedFaults.{file_has}
use Rattle.wallet_text.proofs.reading.read_wallet.Goals as goal

pub returns-in-Err-clause-inner : goal.returns-in-Err-clause-inner
returns-in-Err-clause-inner c list index e =
    let is : c.in-Err.refusal ≡ Tx list index Memory = sym c.told.ensures ∙ e in
    (file_has c.args.bytes.now).never list index (c.in-Err.ensures (λ m. cc (is, m)) ∙ ap Err is)
