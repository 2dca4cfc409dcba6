-- What the files of a listing come to, and how its printing ends.
use Rattle.std.proofs.Common.{◌≡◌, ◌∙◌, ◌++◌, ℕ, List, Result, Ok, Err, inl, inr, sym, ap, subst}
use Rattle.fund_shelf.specs.Causes.{ShelfView, SinkView}
use Rattle.block_feed.specs.Block.{ChainBlock}
use Rattle.wallet_text.specs.PlainWallet.{PlainWallet}
use Rattle.fund_files.proofs.ChainLaws.{chain_due, chain_held}
use Rattle.fund_files.specs.Joined.{IsChainOf}
use Rattle.fund_files.specs.Cause.{FileCause}
use Rattle.fund_files.specs.Chain.{chain_from}
use Rattle.fund_files.specs.Contents.{HasChain}
use Rattle.fund_files.specs.Outcome.{chain_of}
use Rattle.fund_files.specs.Refusals.{IsChainMeant}
use Rattle.fund_files.specs.declared.chain.Chain.{Chain}
use Rattle.command_end.specs.Names.{Sources}
use Rattle.command_end.specs.Printed.{IsPut}
use Rattle.command_end.specs.declared.status.Status.{Status}
use Rattle.command_end.specs.declared.status.Status.TheVariants as statuses
use Rattle.command_coins.specs.Outcome.{by_chain, outcome_of, listing_in}
use Rattle.command_coins.specs.Statuses.{Ends, IsListed, IsReported}

pub refused_due : (files : List ℕ → List ℕ) (s : Sources) (cause : FileCause) → IsChainMeant (files s.wallet) (files s.blocks) cause → outcome_of files s ≡ Err cause
refused_due files s cause h = ap by_chain (chain_due (files s.wallet) (files s.blocks) cause h)

pub listing_due : (files : List ℕ → List ℕ) (s : Sources) (w : PlainWallet) (blocks : List ChainBlock) → HasChain (files s.wallet) (files s.blocks) w blocks → outcome_of files s ≡ Ok (listing_in (chain_from w blocks))
listing_due files s w blocks h = ap by_chain (chain_held (files s.wallet) (files s.blocks) w blocks h)

pub listed_is : (told : Type 0) (files : List ℕ → List ℕ) (s : Sources) (k : Chain) (text : List ℕ) → IsChainOf told (files s.wallet) (files s.blocks) k → text ≡ listing_in k → IsListed told files s text
listed_is told files s k text h is =
    let lists : text ≡ listing_in (chain_from k.wallet h.held.blocks) = is ∙ ap listing_in h.held.is in
    record {
      wallet = k.wallet;
      blocks = h.held.blocks;
      chain = h.chain;
      lists = lists;
      comes_to = λ t. listing_due files s k.wallet h.held.blocks (h.chain t) ∙ ap (λ (l : List ℕ). Ok l) (sym lists);
    }

-- a listing to which the files come is no refusal of them
reported : (told_files : Type 0) (files : List ℕ → List ℕ) (s : Sources) (listing : List ℕ) → IsListed told_files files s listing → told_files → IsReported (outcome_of files s)
reported told_files files s listing h t = subst IsReported (sym (h.comes_to t)) tt

pub listing_ends : (told_files told : Type 0) (s : Sources) (listing : List ℕ) (shelf shelf' : ShelfView) (sink sink' : SinkView) (result : Status) → IsListed told_files shelf.files s listing → IsPut told listing statuses.Done sink sink' result
    → Ends told_files told s shelf shelf' sink sink' result
listing_ends told_files told s listing shelf shelf' sink sink' result h (inl e) = subst (λ (x : Status). Ends told_files told s shelf shelf' sink sink' x) (sym e.0) (listing, h, e.1)
listing_ends told_files told s listing shelf shelf' sink sink' result h (inr (inl e)) =
    subst (λ (x : Status). Ends told_files told s shelf shelf' sink sink' x) (sym e.0)
    (reported told_files shelf.files s listing h, e.1, (listing, h, e.2))
listing_ends told_files told s listing shelf shelf' sink sink' result h (inr (inr e)) =
    subst (λ (x : Status). Ends told_files told s shelf shelf' sink sink' x) (sym e.0)
    (inr (e.1, reported told_files shelf.files s listing h, (listing, h, e.2)))
