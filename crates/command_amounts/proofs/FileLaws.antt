-- What the files of a payment hold, and why their reading stops.
use Rattle.std.specs.Prelude.{ℕ, ◌≡◌, List, [], ◌∷◌, Result, Ok, Err}
use Rattle.std.proofs.Common.{inl, inr, subst, sym, ap, ◌∙◌}
use Rattle.block_feed.specs.Block.{ChainBlock}
use Rattle.fund_shelf.proofs.Outside.{rose_earlier}
use Rattle.fund_shelf.specs.Causes.{OnlyReads, ShelfView}
use Rattle.request_text.specs.PlainRequest.{PlainRequest}
use Rattle.wallet_text.specs.PlainWallet.{PlainWallet}
use Rattle.fund_files.proofs.ChainLaws.{asked_due, asked_held, chain_due, chain_held}
use Rattle.fund_files.specs.Cause.{FileCause, cause_of}
use Rattle.fund_files.specs.Chain.{chain_from}
use Rattle.fund_files.specs.Contents.{HasChain, HasRequest}
use Rattle.fund_files.specs.FileStops.{StopsAsked, StopsChain}
use Rattle.fund_files.specs.Joined.{IsChainOf}
use Rattle.fund_files.specs.Outcome.{asked_of, chain_of}
use Rattle.fund_files.specs.Refusals.{IsRequestCause}
use Rattle.fund_files.specs.declared.chain.Chain.{Chain}
use Rattle.fund_files.specs.declared.refusal.File.{File}
use Rattle.fund_files.specs.declared.refusal.File.TheVariants.{Wallet, Blocks, Request}
use Rattle.fund_files.specs.declared.stop.Stop.{Stop as FileStop}
use Rattle.fund_files.specs.declared.stop.Stop.TheVariants as files
use Rattle.command_end.specs.Names.{Sources}
use Rattle.command_inputs.specs.Inputs.{IsUnread, Reaches}
use Rattle.command_inputs.specs.Cause.{Files}
use Rattle.command_inputs.specs.Meant.{IsMeant}
use Rattle.command_inputs.specs.Names.{Payment}
use Rattle.command_inputs.specs.Stops.{lifted}
use Rattle.command_amounts.specs.Files.{AreHeld, HoldAll, StopsAtFiles, by_asked, by_chain, held_in}

-- ---- what they come to

pub all_held : (files : List ℕ → List ℕ) (s : Sources) (p : Payment) (w : PlainWallet) (blocks : List ChainBlock) (r : PlainRequest) → HoldAll files s p w blocks r → held_in files s p ≡ Ok (chain_from w blocks, r)
all_held files s p w blocks r h =
    ap (by_chain (files p.request)) (chain_held (files s.wallet) (files s.blocks) w blocks h.chain) ∙ ap (by_asked (chain_from w blocks)) (asked_held (files p.request) r h.request)

pub chain_refused : (files : List ℕ → List ℕ) (s : Sources) (p : Payment) (cause : FileCause) → chain_of (files s.wallet) (files s.blocks) ≡ Err cause → held_in files s p ≡ Err cause
chain_refused files s p cause is = ap (by_chain (files p.request)) is

pub request_refused : (files : List ℕ → List ℕ) (s : Sources) (p : Payment) (w : PlainWallet) (blocks : List ChainBlock) (cause : FileCause) → HasChain (files s.wallet) (files s.blocks) w blocks → asked_of (files p.request) ≡ Err cause → held_in files s p ≡ Err cause
request_refused files s p w blocks cause h is = ap (by_chain (files p.request)) (chain_held (files s.wallet) (files s.blocks) w blocks h) ∙ ap (by_asked (chain_from w blocks)) is

-- ---- why their reading stops

-- at the wallet or the blocks
pub chain_stops : (told : Type 0) (s : Sources) (p : Payment) (old new : ShelfView) (stop : FileStop) → StopsChain told s.wallet s.blocks old new stop → StopsAtFiles told s p old new (lifted stop)
chain_stops told s p old new (files.Read Wallet) h = (h.0, λ t. tt)
chain_stops told s p old new (files.Read Blocks) h = h
chain_stops told s p old new (files.Read Request) h = absurd h.0
chain_stops told s p old new (files.Refused refusal) h = λ t.
    let cause = h t in
    (chain_refused old.files s p (cause_of refusal) cause.due, inl cause.meant)
chain_stops told s p old new files.Memory h = tt

-- at the request, which was read after these
pub asked_stops : (told : Type 0) (s : Sources) (p : Payment) (k : Chain) (old middle new : ShelfView) (stop : FileStop) → IsChainOf told (old.files s.wallet) (old.files s.blocks) k → OnlyReads told old middle → StopsAsked told p.request middle new stop → StopsAtFiles told s p old new (lifted stop)
asked_stops told s p k old middle new (files.Read named) h only is =
    (subst (λ (f : File). IsUnread s p f old new) (sym is.0) (rose_earlier _ _ _ (only.reads p.request) is.1), λ t. subst (λ (f : File). Reaches old.files s f) (sym is.0) (k.wallet, h.held.blocks, h.chain t))
asked_stops told s p k old middle new (files.Refused refusal) h only is = λ t.
    let cause : IsRequestCause (old.files p.request) (cause_of refusal) = subst (λ (f : List ℕ → List ℕ). IsRequestCause (f p.request) (cause_of refusal)) (only.same t) (is t) in
    (request_refused old.files s p k.wallet h.held.blocks (cause_of refusal) (h.chain t) cause.due, inr (k.wallet, h.held.blocks, h.chain t, cause.meant))
asked_stops told s p k old middle new files.Memory h only is = tt

-- ---- what was read

pub are_held : (told : Type 0) (files seen : List ℕ → List ℕ) (s : Sources) (p : Payment) (k : Chain) (r : PlainRequest) → IsChainOf told (files s.wallet) (files s.blocks) k → (told → seen ≡ files) → (told → HasRequest (seen p.request) r) → AreHeld told files s p k r
are_held told files seen s p k r h same asked = record {
  held = h.held;
  all = λ t. record {
    chain = h.chain t;
    request = subst (λ (f : List ℕ → List ℕ). HasRequest (f p.request) r) (same t) (asked t);
  };
}

-- ---- a cause that they mean

pub meant_refused : (files : List ℕ → List ℕ) (s : Sources) (p : Payment) (cause : FileCause) → IsMeant files s p (Files cause) → held_in files s p ≡ Err cause
meant_refused files s p cause (inl h) = chain_refused files s p cause (chain_due (files s.wallet) (files s.blocks) cause h)
meant_refused files s p cause (inr h) = request_refused files s p h.0 h.1 cause h.2 (asked_due (files p.request) cause h.3)
