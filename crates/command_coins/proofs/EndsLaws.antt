-- How a listing ends that stops.
use Rattle.std.proofs.Common.{inl, refl, sym, subst}
use Rattle.fund_shelf.specs.Causes.{ShelfView, SinkView}
use Rattle.fund_files.specs.Cause.{cause_of}
use Rattle.fund_files.specs.FileStops.{StopsChain}
use Rattle.fund_files.specs.declared.refusal.File.TheVariants.{Wallet, Blocks, Request}
use Rattle.fund_files.specs.declared.refusal.FileRefusal.{FileRefusal}
use Rattle.fund_files.specs.declared.refusal.FileRefusal.TheVariants as refusals
use Rattle.fund_files.specs.declared.stop.Stop.{Stop}
use Rattle.fund_files.specs.declared.stop.Stop.TheVariants as stops
use Rattle.command_end.specs.Lines.{GotLine, fault_line, file_refusal_words, status_of_file}
use Rattle.command_end.specs.Names.{Sources}
use Rattle.command_end.specs.declared.status.Status.{Status}
use Rattle.command_end.specs.ChainAnswer.{IsStopped}
use Rattle.command_coins.specs.Statuses.{Ends, AreRefusedFor}
use Rattle.command_coins.proofs.ListingLaws.{refused_due}

refused_ends : (told_files told : Type 0) (s : Sources) (refusal : FileRefusal) (shelf shelf' : ShelfView) (sink sink' : SinkView) → (told_files → AreRefusedFor shelf.files s (cause_of refusal)) → (told → GotLine (fault_line (file_refusal_words refusal)) sink sink')
    → Ends told_files told s shelf shelf' sink sink' (status_of_file (cause_of refusal))
refused_ends told_files told s (refusals.TooLong file) shelf shelf' sink sink' due line = (refusals.TooLong file, refl, due, line)
refused_ends told_files told s (refusals.BadWallet fault) shelf shelf' sink sink' due line = (refusals.BadWallet fault, refl, due, line)
refused_ends told_files told s (refusals.BadBlocks fault) shelf shelf' sink sink' due line = (refusals.BadBlocks fault, refl, due, line)
refused_ends told_files told s (refusals.RepeatCoin coin) shelf shelf' sink sink' due line = (refusals.RepeatCoin coin, refl, due, line)
refused_ends told_files told s refusals.ManyCoins shelf shelf' sink sink' due line = (refusals.ManyCoins, refl, due, line)
refused_ends told_files told s (refusals.BadRequest fault) shelf shelf' sink sink' due line = (refusals.BadRequest fault, refl, due, line)

-- by the stop and its line
pub stop_ends : (told_files told : Type 0) (s : Sources) (stop : Stop) (shelf shelf' : ShelfView) (sink sink' : SinkView) (result : Status) → StopsChain told_files s.wallet s.blocks shelf shelf' stop → IsStopped told s stop sink sink' result → Ends told_files told s shelf shelf' sink sink' result
stop_ends told_files told s (stops.Read Wallet) shelf shelf' sink sink' result h a = subst (λ (x : Status). Ends told_files told s shelf shelf' sink sink' x) (sym a.0) (Wallet, h.0, h.1, a.1)
stop_ends told_files told s (stops.Read Blocks) shelf shelf' sink sink' result h a = subst (λ (x : Status). Ends told_files told s shelf shelf' sink sink' x) (sym a.0) (Blocks, h.0, h.1, a.1)
stop_ends told_files told s (stops.Read Request) shelf shelf' sink sink' result h a = absurd h.0
stop_ends told_files told s (stops.Refused refusal) shelf shelf' sink sink' result h a =
    subst (λ (x : Status). Ends told_files told s shelf shelf' sink sink' x) (sym a.0)
    (refused_ends told_files told s refusal shelf shelf' sink sink' (λ t. (refused_due shelf.files s (cause_of refusal) (h t).meant, (h t).meant)) a.1)
stop_ends told_files told s stops.Memory shelf shelf' sink sink' result h w = subst (λ (x : Status). Ends told_files told s shelf shelf' sink sink' x) (sym w.0) (inl w.1)
