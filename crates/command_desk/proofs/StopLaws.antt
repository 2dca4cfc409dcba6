-- Why the reading stops before the first line, and which files it asked for.
use Rattle.std.specs.Prelude.{ℕ, ◌≡◌, List, [], ◌∷◌}
use Rattle.std.proofs.Common.{refl, sym, subst, inl, inr}
use Rattle.fund_shelf.specs.Causes.{Asks, ShelfView, SinkView}
use Rattle.fund_shelf.proofs.Asking.{asks_first, asks_then}
use Rattle.fund_files.proofs.StopLaws.{not_refused}
use Rattle.fund_files.specs.Joined.{IsChainOf}
use Rattle.fund_files.specs.Cause.{FileCause, cause_of}
use Rattle.fund_files.specs.FileStops.{IsWalletCause}
use Rattle.fund_files.specs.Refusals.{IsChainCause}
use Rattle.fund_files.specs.declared.chain.Chain.{Chain}
use Rattle.fund_files.specs.declared.refusal.FileRefusal.{FileRefusal}
use Rattle.fund_files.specs.declared.refusal.FileRefusal.TheVariants as refusals
use Rattle.fund_files.specs.declared.stop.Stop as reads
use Rattle.fund_files.specs.declared.stop.Stop.TheVariants as reading
use Rattle.command_end.proofs.ChainLaws as chains
use Rattle.command_end.specs.ChainAnswer as listings
use Rattle.command_end.proofs.WholeLaws.{not_whole, wanting_stops}
use Rattle.command_end.specs.AnswerLines.{IsWanting}
use Rattle.command_end.specs.Lines.{GotLine, fault_line, file_refusal_words, status_of_file}
use Rattle.command_end.specs.Names.{Sources}
use Rattle.command_end.specs.Printed.{TellsWhole}
use Rattle.command_end.specs.declared.status.Status.{Status}
use Rattle.command_end.specs.declared.status.Status.TheVariants as statuses
use Rattle.command_desk.specs.Asked.{NoneBehind, first_names}
use Rattle.command_desk.specs.Starts.{HasWalletAndBlocks}
use Rattle.command_desk.specs.Statuses.{Ends}
use Rattle.command_desk.specs.Stops.{IsStopped, StopsFor}
use Rattle.command_desk.specs.declared.stop.Stop.{Stop}
use Rattle.command_desk.specs.declared.stop.Stop.TheVariants as stops

-- ---- the wallet and the blocks

module _ (s : Sources) (script : List ℕ) (old new : ShelfView) where
  pub chain_asked : Asks (s.wallet ∷ s.blocks ∷ []) old.asked new.asked → Asks (first_names s script) old.asked new.asked
  chain_asked both = asks_first (s.wallet ∷ s.blocks ∷ []) (script ∷ []) old.asked new.asked both

  -- where these two alone were read
  pub chain_behind : ((cause : FileCause) → IsWalletCause (old.files s.wallet) cause → Asks (s.wallet ∷ []) old.asked new.asked) → Asks (s.wallet ∷ s.blocks ∷ []) old.asked new.asked → NoneBehind s script old new
  chain_behind first both = record { wallet_alone = first; chain_alone = λ none. both; script_alone = λ long. chain_asked both }

-- ---- the script

module _ (s : Sources) (script : List ℕ) (old mid new : ShelfView) where
  pub script_asked : Asks (s.wallet ∷ s.blocks ∷ []) old.asked mid.asked → Asks (script ∷ []) mid.asked new.asked → Asks (first_names s script) old.asked new.asked
  script_asked first second = asks_then (s.wallet ∷ s.blocks ∷ []) (script ∷ []) old.asked mid.asked new.asked first second

  pub in_order : (told : Type 0) (k : Chain) → IsChainOf told (old.files s.wallet) (old.files s.blocks) k → told → HasWalletAndBlocks old.files s
  in_order told k h t = (k.wallet, h.held.blocks, h.chain t)

  -- the wallet and the blocks being in order, and the script being asked for
  pub script_behind : HasWalletAndBlocks old.files s → Asks (first_names s script) old.asked new.asked → NoneBehind s script old new
  script_behind has asked = record {
    wallet_alone = λ cause h. absurd (not_refused (old.files s.wallet) has.0 cause has.2.wallet h);
    chain_alone = λ none. absurd (none has.0 has.1 has.2);
    script_alone = λ long. asked;
  }

-- ---- how the command ends

module _ (told_files told : Type 0) (s : Sources) (script : List ℕ) (shelf shelf' : ShelfView) (sink sink' : SinkView) where
  EndsAs : Status → Type 0
  EndsAs result = Ends told_files told s script shelf shelf' sink sink' result

  wanting_ends : (result : Status) → IsWanting told sink sink' result → EndsAs result
  unfolding EndsAs
  wanting_ends result w = subst EndsAs (sym w.0) (inl w.1)

  module _ (refusal : FileRefusal) (due : told_files → IsChainCause (shelf.files s.wallet) (shelf.files s.blocks) (cause_of refusal)) (line : told → GotLine (fault_line (file_refusal_words refusal)) sink sink') where
    input_ends : status_of_file (cause_of refusal) ≡ statuses.Input → EndsAs statuses.Input
    unfolding EndsAs
    input_ends is = inl (refusal, is, due, line)

    limit_ends : status_of_file (cause_of refusal) ≡ statuses.Limit → EndsAs statuses.Limit
    unfolding EndsAs
    limit_ends is = inl (inl (refusal, is, due, line))

  refused_ends : (refusal : FileRefusal) → (told_files → IsChainCause (shelf.files s.wallet) (shelf.files s.blocks) (cause_of refusal)) → (told → GotLine (fault_line (file_refusal_words refusal)) sink sink') → EndsAs (status_of_file (cause_of refusal))
  refused_ends (refusals.TooLong file) due line = limit_ends (refusals.TooLong file) due line refl
  refused_ends (refusals.BadWallet fault) due line = input_ends (refusals.BadWallet fault) due line refl
  refused_ends (refusals.BadBlocks fault) due line = input_ends (refusals.BadBlocks fault) due line refl
  refused_ends (refusals.RepeatCoin coin) due line = input_ends (refusals.RepeatCoin coin) due line refl
  refused_ends refusals.ManyCoins due line = limit_ends refusals.ManyCoins due line refl
  refused_ends (refusals.BadRequest fault) due line = input_ends (refusals.BadRequest fault) due line refl

  chain_ends : (stop : reads.Stop) (result : Status) → StopsFor told_files s script shelf shelf' (stops.Chain stop) → listings.IsStopped told s stop sink sink' result → EndsAs result
  unfolding EndsAs
  chain_ends (reading.Read file) result h a = subst EndsAs (sym a.0) (inl (inl (file, h.0.0, h.0.1, h.1, a.1)))
  chain_ends (reading.Refused refusal) result h a = subst EndsAs (sym a.0) (refused_ends refusal h.0 a.1)
  chain_ends reading.Memory result h w = wanting_ends result w

  pub stop_ends : (stop : Stop) (result : Status) → StopsFor told_files s script shelf shelf' stop → IsStopped told s script stop sink sink' result → Ends told_files told s script shelf shelf' sink sink' result
  unfolding EndsAs
  stop_ends (stops.Chain stop) result h a = chain_ends stop result h a
  stop_ends stops.Unread result h a = subst EndsAs (sym a.0) (inl (inr (h.0, h.1, h.2, a.1)))
  stop_ends stops.TooLong result h a = subst EndsAs (sym a.0) (inl (inr (h, a.1)))
  stop_ends stops.Memory result h w = wanting_ends result w

-- no stop is told as done
pub stop_untold : (told : Type 0) (s : Sources) (script : List ℕ) (stop : Stop) (sink sink' : SinkView) (result : Status) → IsStopped told s script stop sink sink' result → TellsWhole result → ⊥
stop_untold told s script (stops.Chain stop) sink sink' result a whole = chains.stop_untold told s stop sink sink' result a whole
stop_untold told s script stops.Unread sink sink' result a whole = not_whole statuses.ReadFault result (λ w. w) a.0 whole
stop_untold told s script stops.TooLong sink sink' result a whole = not_whole statuses.Limit result (λ w. w) a.0 whole
stop_untold told s script stops.Memory sink sink' result a whole = wanting_stops told sink sink' result a whole
