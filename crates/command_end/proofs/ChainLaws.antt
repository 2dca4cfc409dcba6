-- A command whose wallet or blocks stop it: what was asked for, and that it isn't told as printed whole.
use Rattle.std.proofs.Common.{◌++◌, ◌≡◌, ◌∙◌, ℕ, List, [], ◌∷◌, true, inl, inr, refl, sym}
use Rattle.std.specs.Prelude.{codes}
use Rattle.fund_shelf.specs.Causes.{Asks, ShelfView, SinkView}
use Rattle.fund_files.specs.Cause.{FileCause, cause_of}
use Rattle.fund_files.specs.declared.stop.Stop.{Stop}
use Rattle.fund_files.specs.declared.stop.Stop.TheVariants as stops
use Rattle.command_end.specs.Lines.{file_refusal_words, status_of_file}
use Rattle.command_end.proofs.WholeLaws.{answered_stops, file_stops, wanting_stops}
use Rattle.command_end.specs.Names.{Sources}
use Rattle.command_end.specs.Printed.{IsPut, TellsWhole}
use Rattle.command_end.specs.declared.status.Status.{Status}
use Rattle.command_end.specs.declared.status.Status.TheVariants as statuses
use Rattle.command_end.specs.ChainAnswer.{AsksToUnread, IsStopped, name_of}
use Rattle.fund_files.specs.Cause as causes
use Rattle.fund_files.specs.FileStops.{StopsChain, is_of_wallet}
use Rattle.fund_files.specs.declared.refusal.File.TheVariants.{Wallet, Blocks, Request}
use Rattle.command_end.specs.AnswerLines.{IsAnswered}

-- no stop is told as printed whole
pub stop_untold : (told : Type 0) (s : Sources) (stop : Stop) (sink sink' : SinkView) (result : Status) → IsStopped told s stop sink sink' result → TellsWhole result → ⊥
stop_untold told s (stops.Read file) sink sink' result h whole = answered_stops told (codes "read " ++ name_of s file) statuses.ReadFault sink sink' result (λ w. w) h whole
stop_untold told s (stops.Refused refusal) sink sink' result h whole = answered_stops told (file_refusal_words refusal) (status_of_file (cause_of refusal)) sink sink' result (file_stops (cause_of refusal)) h whole
stop_untold told s stops.Memory sink sink' result h whole = wanting_stops told sink sink' result h whole

-- what is printed has read its files
pub printed_read : (told : Type 0) (listing : List ℕ) (old new : SinkView) (result : Status) → IsPut told listing statuses.Done old new result → result ≡ statuses.ReadFault → ⊥
printed_read told listing old new result (inl e) is = absurd (cc (e.0, is))
printed_read told listing old new result (inr (inl e)) is = absurd (cc (e.0, is))
printed_read told listing old new result (inr (inr e)) is = absurd (cc (e.0, is))

refused_read : (cause : FileCause) → statuses.ReadFault ≡ status_of_file cause → ⊥
refused_read (causes.TooLong file) is = absurd cc
refused_read (causes.BadWallet fault) is = absurd cc
refused_read (causes.BadBlocks fault) is = absurd cc
refused_read (causes.RepeatCoin coin) is = absurd cc
refused_read causes.ManyCoins is = absurd cc
refused_read (causes.BadRequest fault) is = absurd cc

answered_read : (told : Type 0) (words : List ℕ) (cause : FileCause) (old new : SinkView) (result : Status) → IsAnswered told words (status_of_file cause) old new result → result ≡ statuses.ReadFault → ⊥
answered_read told words cause old new result e is = refused_read cause (sym is ∙ e.0)

-- what was asked for up to a file that wasn't read
pub stopped_asks : (told_files told : Type 0) (s : Sources) (stop : Stop) (shelf shelf' : ShelfView) (sink sink' : SinkView) (result : Status) → StopsChain told_files s.wallet s.blocks shelf shelf' stop → IsStopped told s stop sink sink' result
    → Asks (s.wallet ∷ s.blocks ∷ []) shelf.asked shelf'.asked → (is_of_wallet stop ≡ true → Asks (s.wallet ∷ []) shelf.asked shelf'.asked) → result ≡ statuses.ReadFault → AsksToUnread s shelf shelf'
stopped_asks told_files told s (stops.Read Wallet) shelf shelf' sink sink' result h line both first is = (Wallet, h.0, first refl)
stopped_asks told_files told s (stops.Read Blocks) shelf shelf' sink sink' result h line both first is = (Blocks, h.0, both)
stopped_asks told_files told s (stops.Read Request) shelf shelf' sink sink' result h line both first is = absurd h.0
stopped_asks told_files told s (stops.Refused refusal) shelf shelf' sink sink' result h line both first is = absurd (answered_read told _ (cause_of refusal) sink sink' result line is)
stopped_asks told_files told s stops.Memory shelf shelf' sink sink' result h line both first is = absurd (cc (line.0, is))
