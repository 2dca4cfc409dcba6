-- A stop at a file says nothing of what the report and the transaction are.
use Rattle.std.proofs.Common.{ℕ, List, sym, subst}
use Rattle.fund_shelf.specs.Causes.{ShelfView}
use Rattle.command_settle.specs.Stops.{IsFileCause, IsFileStop, StopsAtReport, StopsAtRequest, StopsAtTx, StopsAtWallet}
use Rattle.command_settle.specs.declared.stop.Stop.{Stop}
use Rattle.command_settle.specs.declared.stop.Stop.TheVariants as stops

module _ (told : Type 0) (t : told) (name : List ℕ) (old new : ShelfView) where
  pub wallet_alone : (stop : Stop) → StopsAtWallet told name old new stop → IsFileStop stop
  wallet_alone (stops.Read file) h = tt
  wallet_alone (stops.Refused refusal) h = let x = h t in subst IsFileCause (sym x.1) tt
  wallet_alone stops.Memory h = tt

  pub request_alone : (stop : Stop) → StopsAtRequest told name old new stop → IsFileStop stop
  request_alone (stops.Read file) h = tt
  request_alone (stops.Refused refusal) h = let x = h t in subst IsFileCause (sym x.1) tt
  request_alone stops.Memory h = tt

  pub report_alone : (stop : Stop) → StopsAtReport told name old new stop → IsFileStop stop
  report_alone (stops.Read file) h = tt
  report_alone (stops.Refused refusal) h = let x = h t in subst IsFileCause (sym x.0) tt
  report_alone stops.Memory h = tt

  pub tx_alone : (stop : Stop) → StopsAtTx told name old new stop → IsFileStop stop
  tx_alone (stops.Read file) h = tt
  tx_alone (stops.Refused refusal) h = let x = h t in subst IsFileCause (sym x.0) tt
  tx_alone stops.Memory h = tt
