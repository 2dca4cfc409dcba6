-- The files of a payment, and why their reading stops, whatever is then asked of the request.
use Rattle.std.specs.Prelude.{ℕ, ◌≡◌, List, Result, Ok, Err}
use Rattle.block_feed.specs.Block.{ChainBlock}
use Rattle.fund_shelf.specs.Causes.{ShelfView}
use Rattle.request_text.specs.PlainRequest.{PlainRequest}
use Rattle.wallet_text.specs.PlainWallet.{PlainWallet}
use Rattle.fund_files.specs.Cause.{FileCause, cause_of}
use Rattle.fund_files.specs.Chain.{IsChain, chain_from}
use Rattle.fund_files.specs.Contents.{HasChain, HasRequest}
use Rattle.fund_files.specs.Outcome.{asked_of, chain_of}
use Rattle.fund_files.specs.declared.chain.Chain.{Chain}
use Rattle.command_end.specs.Names.{Sources}
use Rattle.command_inputs.specs.Cause.{Files}
use Rattle.command_inputs.specs.Inputs.{IsUnread, Reaches}
use Rattle.command_inputs.specs.Meant.{IsMeant}
use Rattle.command_inputs.specs.Names.{Payment}
use Rattle.command_inputs.specs.declared.refusal.Refusal.TheVariants as refusals
use Rattle.command_inputs.specs.declared.refusal.Stop.{Stop}
use Rattle.command_inputs.specs.declared.refusal.Stop.TheVariants as stops

-- the files hold this wallet, these blocks and this request
pub record HoldAll (files : List ℕ → List ℕ) (s : Sources) (p : Payment) (w : PlainWallet) (bs : List ChainBlock) (r : PlainRequest) : Type 0 where
  pub chain : HasChain (files s.wallet) (files s.blocks) w bs
  pub request : HasRequest (files p.request) r

-- A wallet, its book and its tip, and a request. Where the files are told, they hold these.
pub record AreHeld (told : Type 0) (files : List ℕ → List ℕ) (s : Sources) (p : Payment) (k : Chain) (r : PlainRequest) : Type 0 where
  pub held : IsChain k
  pub all : told → HoldAll files s p k.wallet held.blocks r

-- ---- what the files come to

-- by the request that was read, or the cause for which its file is refused
abbrev pub by_asked : Chain → Result PlainRequest FileCause → Result (Chain × PlainRequest) FileCause
by_asked k (Err cause) = Err cause
by_asked k (Ok r) = Ok (k, r)

-- by the chain, or the cause for which its files are refused
abbrev pub by_chain : (request : List ℕ) → Result Chain FileCause → Result (Chain × PlainRequest) FileCause
by_chain request (Err cause) = Err cause
by_chain request (Ok k) = by_asked k (asked_of request)

-- what the files hold, or the first cause for which one is refused: they are taken one by one, the wallet, the blocks, and then
-- the request
abbrev pub held_in : (List ℕ → List ℕ) → Sources → Payment → Result (Chain × PlainRequest) FileCause
held_in files s p = by_chain (files p.request) (chain_of (files s.wallet) (files s.blocks))

-- ---- why their reading stops

-- A file is refused for this cause, and it means what it says.
abbrev pub AreRefused : (List ℕ → List ℕ) → Sources → Payment → FileCause → Type 0
AreRefused files s p cause = (held_in files s p ≡ Err cause) × IsMeant files s p (Files cause)

-- A read of a file failed, those before it being in order, or a file is refused.
abbrev pub StopsAtFiles : Type 0 → Sources → Payment → ShelfView → ShelfView → Stop → Type 0
StopsAtFiles told s p old new (stops.Read file) = IsUnread s p file old new × (told → Reaches old.files s file)
StopsAtFiles told s p old new (stops.Refused (refusals.Files refusal)) = told → AreRefused old.files s p (cause_of refusal)
StopsAtFiles told s p old new (stops.Refused (refusals.Bump fault)) = ⊥
StopsAtFiles told s p old new (stops.Refused (refusals.Plan fault)) = ⊥
StopsAtFiles told s p old new stops.Keep = ⊥
StopsAtFiles told s p old new stops.Memory = Unit {0}
