-- What was read of the files of a payment, joined; and why their reading stops.
use Rattle.std.proofs.Common.{◌≡◌, ℕ, List, Option, Some, None, inl, inr, refl, sym, subst, [], ◌∷◌}
use Rattle.std.specs.Prelude.{◌≢◌, option_and_then}
use Rattle.std.proofs.lemmas.Option.{none-some}
use Rattle.fee_bump.proofs.CauseLaws.{bump_means}
use Rattle.fee_bump.specs.Faults.{fault_of as bump_fault_of}
use Rattle.fee_bump.specs.declared.fault.BumpFault.{BumpFault}
use Rattle.fee_bump.specs.declared.fault.BumpFault.TheVariants as bumps
use Rattle.fund_shelf.specs.Causes.{Asks, OnlyReads, ShelfView}
use Rattle.fund_shelf.proofs.Asking.{asks_first, asks_then}
use Rattle.fund_shelf.proofs.Outside.{rose_earlier}
use Rattle.block_feed.specs.Block.{ChainBlock}
use Rattle.request_text.specs.PlainRequest.{PlainRequest}
use Rattle.wallet_text.specs.PlainWallet.{PlainWallet}
use Rattle.wallet_text.specs.WalletRules.{IsWallet}
use Rattle.fund_files.proofs.StopLaws.{not_refused}
use Rattle.fund_files.specs.Joined.{IsChainOf}
use Rattle.fund_files.specs.Cause.{cause_of}
use Rattle.fund_files.specs.Chain.{chain_from, history_of}
use Rattle.fund_files.specs.Contents.{HasChain, HasRequest}
use Rattle.fund_files.specs.FileStops.{StopsAsked, StopsChain}
use Rattle.fund_files.specs.Refusals.{IsRequestCause}
use Rattle.fund_files.specs.declared.chain.Chain.{Chain}
use Rattle.fund_files.specs.declared.refusal.File.{File}
use Rattle.fund_files.specs.declared.refusal.File.TheVariants.{Wallet, Blocks, Request}
use Rattle.fund_files.specs.declared.stop.Stop.{Stop as FileStop}
use Rattle.fund_files.specs.declared.stop.Stop.TheVariants as stops
use Rattle.command_end.specs.Names.{Sources}
use Rattle.command_inputs.specs.Cause.{Bump}
use Rattle.command_inputs.specs.Outcome.{bump_fault_in}
use Rattle.command_inputs.specs.Inputs.{AreAsked, AreInputs, AsksInOrder, IsUnread, NoneBehind, Reaches}
use Rattle.command_inputs.specs.Meant.{AreRefusedFor, IsMeant}
use Rattle.command_inputs.specs.Names.{Payment}
use Rattle.command_inputs.specs.Stops.{StopsFor, bump_stop_of, lifted}
use Rattle.command_inputs.proofs.OutcomeLaws.{chain_refused, not_replaced_due, request_refused}

pub asked_is : (told : Type 0) (files seen : List ℕ → List ℕ) (s : Sources) (p : Payment) (k : Chain) (r : PlainRequest) → IsChainOf told (files s.wallet) (files s.blocks) k → (told → seen ≡ files) → (told → HasRequest (seen p.request) r) → bump_fault_in k r ≡ None → AreAsked told files s p k r
asked_is told files seen s p k r h same asked taken = record {
  held = h.held;
  inputs = λ t. record {
    chain = h.chain t;
    request = subst (λ (f : List ℕ → List ℕ). HasRequest (f p.request) r) (same t) (asked t);
    taken = subst (λ (x : Chain). bump_fault_in x r ≡ None) h.held.is taken;
  };
  taken = taken;
}

-- at the wallet or the blocks
pub chain_stops : (told : Type 0) (s : Sources) (p : Payment) (old new : ShelfView) (stop : FileStop) → StopsChain told s.wallet s.blocks old new stop → StopsFor told s p old new (lifted stop)
chain_stops told s p old new (stops.Read Wallet) h = (h.0, λ t. tt)
chain_stops told s p old new (stops.Read Blocks) h = h
chain_stops told s p old new (stops.Read Request) h = absurd h.0
chain_stops told s p old new (stops.Refused refusal) h = λ t.
    let cause = h t in
    (chain_refused old.files s p (cause_of refusal) cause.due, inl cause.meant)
chain_stops told s p old new stops.Memory h = tt

-- at the request, which was read after these
pub asked_stops : (told : Type 0) (s : Sources) (p : Payment) (k : Chain) (old middle new : ShelfView) (stop : FileStop) → IsChainOf told (old.files s.wallet) (old.files s.blocks) k → OnlyReads told old middle → StopsAsked told p.request middle new stop → StopsFor told s p old new (lifted stop)
asked_stops told s p k old middle new (stops.Read named) h only is =
    (subst (λ (f : File). IsUnread s p f old new) (sym is.0) (rose_earlier _ _ _ (only.reads p.request) is.1), λ t. subst (λ (f : File). Reaches old.files s f) (sym is.0) (k.wallet, h.held.blocks, h.chain t))
asked_stops told s p k old middle new (stops.Refused refusal) h only is = λ t.
    let cause : IsRequestCause (old.files p.request) (cause_of refusal) = subst (λ (files : List ℕ → List ℕ). IsRequestCause (files p.request) (cause_of refusal)) (only.same t) (is t) in
    (request_refused old.files s p k.wallet h.held.blocks (cause_of refusal) (h.chain t) cause.due, inr (k.wallet, h.held.blocks, h.chain t, cause.meant))
asked_stops told s p k old middle new stops.Memory h only is = tt

-- what keeps the payment from being replaced that a request names means what it says
bump_meant : (files : List ℕ → List ℕ) (s : Sources) (p : Payment) (w : PlainWallet) (blocks : List ChainBlock) (r : PlainRequest) (fault : BumpFault) (bump : Option (List ℕ)) → HasChain (files s.wallet) (files s.blocks) w blocks → IsWallet w → HasRequest (files p.request) r → fault ≢ bumps.Memory → r.bump ≡ bump
    → option_and_then (λ (txid : List ℕ). bump_fault_of w (history_of w blocks) r) bump ≡ Some fault → IsMeant files s p (Bump fault)
bump_meant files s p w blocks r fault (Some txid) has rules asked real own e = record {
  wallet = w;
  blocks = blocks;
  asked = r;
  txid = txid;
  chain = has;
  rules = rules;
  request = asked;
  named = own;
  keeps = bump_means w (history_of w blocks) r rules txid fault own real e;
  real = real;
}
bump_meant files s p w blocks r fault None has rules asked real own e = absurd (none-some fault e)

bump_is_due : (files : List ℕ → List ℕ) (s : Sources) (p : Payment) (w : PlainWallet) (blocks : List ChainBlock) (r : PlainRequest) (fault : BumpFault) → HasChain (files s.wallet) (files s.blocks) w blocks → IsWallet w → HasRequest (files p.request) r → fault ≢ bumps.Memory
    → bump_fault_in (chain_from w blocks) r ≡ Some fault → AreRefusedFor files s p (Bump fault)
bump_is_due files s p w blocks r fault has rules asked real e = (not_replaced_due files s p w blocks r fault has asked e, bump_meant files s p w blocks r fault r.bump has rules asked real refl e)

-- at the payment that the request names, after the request was read
module _ (told : Type 0) (s : Sources) (p : Payment) (k : Chain) (r : PlainRequest) (old middle new : ShelfView) (h : IsChainOf told (old.files s.wallet) (old.files s.blocks) k) (only : OnlyReads told old middle) (asked : told → HasRequest (middle.files p.request) r) where
  real_stops : (fault : BumpFault) → fault ≢ bumps.Memory → bump_fault_in k r ≡ Some fault → told → AreRefusedFor old.files s p (Bump fault)
  real_stops fault real e t =
      bump_is_due old.files s p k.wallet h.held.blocks r fault (h.chain t) h.held.rules (subst (λ (files : List ℕ → List ℕ). HasRequest (files p.request) r) (only.same t) (asked t)) real
      (subst (λ (x : Chain). bump_fault_in x r ≡ Some fault) h.held.is e)

  pub bump_stops : (fault : BumpFault) → (fault ≢ bumps.Memory → bump_fault_in k r ≡ Some fault) → StopsFor told s p old new (bump_stop_of fault)
  bump_stops (bumps.NotPending found) is = let real : bumps.NotPending found ≢ bumps.Memory = λ e. absurd cc in real_stops (bumps.NotPending found) real (is real)
  bump_stops bumps.NotSignalling is = let real : bumps.NotSignalling ≢ bumps.Memory = λ e. absurd cc in real_stops bumps.NotSignalling real (is real)
  bump_stops (bumps.ForeignInput point) is = let real : bumps.ForeignInput point ≢ bumps.Memory = λ e. absurd cc in real_stops (bumps.ForeignInput point) real (is real)
  bump_stops (bumps.TooManyEvicted n) is = let real : bumps.TooManyEvicted n ≢ bumps.Memory = λ e. absurd cc in real_stops (bumps.TooManyEvicted n) real (is real)
  bump_stops bumps.RateBelowIncrement is = let real : bumps.RateBelowIncrement ≢ bumps.Memory = λ e. absurd cc in real_stops bumps.RateBelowIncrement real (is real)
  bump_stops (bumps.RateNotHigher fee vsize) is = let real : bumps.RateNotHigher fee vsize ≢ bumps.Memory = λ e. absurd cc in real_stops (bumps.RateNotHigher fee vsize) real (is real)
  bump_stops bumps.Memory is = tt

-- ---- which files were asked for

-- up to the block file is up to the request
pub chain_asked : (told : Type 0) (s : Sources) (p : Payment) (old new : ShelfView) → (told → Asks (s.wallet ∷ s.blocks ∷ []) old.asked new.asked) → told → AsksInOrder s p old new
chain_asked told s p old new both t = asks_first (s.wallet ∷ s.blocks ∷ []) (p.request ∷ []) old.asked new.asked (both t)

-- after these the request
pub all_asked : (told : Type 0) (s : Sources) (p : Payment) (old middle new : ShelfView) → (told → Asks (s.wallet ∷ s.blocks ∷ []) old.asked middle.asked) → (told → Asks (p.request ∷ []) middle.asked new.asked) → told → AsksInOrder s p old new
all_asked told s p old middle new first second t = asks_then (s.wallet ∷ s.blocks ∷ []) (p.request ∷ []) old.asked middle.asked new.asked (first t) (second t)

-- where both files are in order, nothing stands behind a refusal of theirs
pub none_behind : (s : Sources) (w : PlainWallet) (blocks : List ChainBlock) (old new : ShelfView) → HasChain (old.files s.wallet) (old.files s.blocks) w blocks → NoneBehind s old new
none_behind s w blocks old new h = record {
  wallet_alone = λ cause is. absurd (not_refused (old.files s.wallet) w cause h.wallet is);
  chain_alone = λ none. absurd (none w blocks h);
}

pub inputs_behind : (told : Type 0) (s : Sources) (p : Payment) (w : PlainWallet) (blocks : List ChainBlock) (r : PlainRequest) (old new : ShelfView) → (told → AreInputs old.files s p w blocks r) → told → NoneBehind s old new
inputs_behind told s p w blocks r old new inputs t = none_behind s w blocks old new (inputs t).chain
