-- A wallet and its blocks, as files hold them, keep the rules of wallets, of books and of desks.
use Rattle.std.specs.Prelude.{ℕ, ◌<◌, List, [], ◌∷◌, All}
use Rattle.std.proofs.Common.{refl, arith}
use Rattle.std.proofs.lemmas.List.Elements.{All-nil, All-cons}
use Rattle.block_feed.specs.Block.{ChainBlock}
use Rattle.block_feed.specs.BlockFile.{IsBlockFile}
use Rattle.coin_candidates.specs.Candidates.{AreCandidates}
use Rattle.tx_codec.specs.TransactionText.{IsTransaction}
use Rattle.wallet_text.specs.PlainWallet.{PlainWallet}
use Rattle.payment_states.specs.BookOf.{IsBookOf}
use Rattle.fund_files.specs.Chain.{chain_from, history_of, tip_behind}
use Rattle.fund_files.specs.Contents.{HasChain}
use Rattle.fund_files.specs.declared.chain.Tip.{Tip}
use Rattle.desk_machine.specs.State.{candidates_at}
use Rattle.desk_laws.proofs.PlanLaws.{fit_at}
use Rattle.desk_laws.specs.Claimed.{IsBooked}
use Rattle.checked_runs.proofs.WalletRuleLaws.{wallet_is}

abbrev HasText : ChainBlock → Type 0
HasText b = All IsTransaction b.txs

have_texts : (hash : List ℕ) (height : ℕ) (blocks : List ChainBlock) (bytes : List ℕ) → IsBlockFile hash height blocks bytes → All HasText blocks
have_texts hash height [] bytes h = All-nil HasText
have_texts hash height (b ∷ blocks) bytes h = All-cons HasText b blocks h.1.is_block.each (have_texts b.hash b.height blocks h.0 h.2)

tip_low : (tip : Tip) (height : ℕ) (hash : List ℕ) (blocks : List ChainBlock) (bytes : List ℕ) → tip.height < 4294967295 → IsBlockFile hash height blocks bytes → (tip_behind tip blocks).height < 4294967295
tip_low tip height hash [] bytes low h = low
tip_low tip height hash (b ∷ blocks) bytes low h =
    let is = h.1.is_block.height_is in
    tip_low (record { height = b.height; hash = b.hash }) b.height b.hash blocks h.0 (omega (arith, is)) h.2

pub chain_booked : (wallet_file block_file : List ℕ) (w : PlainWallet) (blocks : List ChainBlock) → HasChain wallet_file block_file w blocks → IsBooked (chain_from w blocks)
chain_booked wallet_file block_file w blocks h =
    let rules = wallet_is wallet_file w h.wallet.form in
    let low = rules.height in
    record {
      held = record {
        blocks = blocks;
        is = refl;
        rules = rules;
        texts = have_texts w.hash w.height blocks block_file h.blocks.form;
        height = tip_low (record { height = w.height; hash = w.hash }) w.height w.hash blocks block_file (omega (arith, low)) h.blocks.form;
      };
      sound = h.blocks.sound;
    }

pub chain_book : (wallet_file block_file : List ℕ) (w : PlainWallet) (blocks : List ChainBlock) → HasChain wallet_file block_file w blocks → IsBookOf w (history_of w blocks)
chain_book wallet_file block_file w blocks h = record {
  blocks = blocks;
  texts = have_texts w.hash w.height blocks block_file h.blocks.form;
  scripts = refl;
  confirmed = refl;
  pending = refl;
}

pub chain_fit : (wallet_file block_file : List ℕ) (w : PlainWallet) (blocks : List ChainBlock) (rate : ℕ) → HasChain wallet_file block_file w blocks → AreCandidates (candidates_at (chain_from w blocks) rate)
chain_fit wallet_file block_file w blocks rate h = fit_at (chain_from w blocks) rate (chain_booked wallet_file block_file w blocks h)
