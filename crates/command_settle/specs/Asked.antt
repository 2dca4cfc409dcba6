-- Which files are asked for, and in what order.
use Rattle.std.specs.Prelude.{[], ◌∷◌}
use Rattle.fund_files.specs.Cause.{FileCause}
use Rattle.fund_files.specs.FileStops.{IsWalletCause}
use Rattle.fund_shelf.specs.Causes.{Asks, ShelfView}
use Rattle.command_settle.specs.Files.{HaveInputs, IsLongReport}
use Rattle.command_settle.specs.Names.{Names}

-- What is asked for of a shelf that tells its content.
pub record AsksFiles (n : Names) (old new : ShelfView) : Type 0 where
  -- The wallet, the request, the report and the transaction are asked for, in this order, each any number of times, and no
  -- other name.
  pub asked : Asks (n.wallet ∷ n.request ∷ n.report ∷ n.tx ∷ []) old.asked new.asked
  -- Behind a file that is refused none is asked for.
  pub wallet_alone : (cause : FileCause) → IsWalletCause (old.files n.wallet) cause → Asks (n.wallet ∷ []) old.asked new.asked
  pub inputs_alone : (HaveInputs old.files n → ⊥) → Asks (n.wallet ∷ n.request ∷ []) old.asked new.asked
  pub report_last : IsLongReport (old.files n.report) → Asks (n.wallet ∷ n.request ∷ n.report ∷ []) old.asked new.asked
