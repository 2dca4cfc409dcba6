-- What was read of the wallet file and of the block file, joined.
use Rattle.std.proofs.Common.{◌≡◌, ◌∙◌, ◌≤◌, ℕ, List, ap, subst}
use Rattle.std.specs.Prelude.{length}
use Rattle.block_feed.specs.BlockFile.{IsBlockFile}
use Rattle.coin_book.specs.History.{History}
use Rattle.wallet_text.specs.PlainWallet.{PlainWallet}
use Rattle.wallet_text.specs.WalletRules.{IsWallet}
use Rattle.fund_files.specs.Joined.{IsChainOf, IsBookAfter}
use Rattle.fund_files.specs.Chain.{history_of}
use Rattle.fund_files.specs.Contents.{HasWallet}
use Rattle.fund_files.specs.declared.chain.Chain.{Chain}
use Rattle.fund_files.specs.declared.chain.Tip.{Tip}

abbrev held_by : PlainWallet → History → Tip → Chain
held_by w h tip = record { wallet = w; book = h; tip = tip }

-- the block file that is seen is this one
pub held_is : (told : Type 0) (wallet_file block_file seen : List ℕ) (w : PlainWallet) (h : History) (tip : Tip) → IsBookAfter told seen w h tip → (told → seen ≡ block_file) → IsWallet w → (told → HasWallet wallet_file w)
    → IsChainOf told wallet_file block_file (held_by w h tip)
held_is told wallet_file block_file seen w h tip b same rules has = record {
  held = record {
    blocks = b.blocks;
    is = ap (λ (x : History). held_by w x tip) b.book_is ∙ ap (λ (x : Tip). held_by w (history_of w b.blocks) x) b.read.tip_is;
    rules = rules;
    texts = b.read.texts;
    height = b.read.height;
  };
  chain = λ t. record {
    wallet = has t;
    blocks = record {
      fits = subst (λ (f : List ℕ). length f ≤ 1073741824) (same t) (b.read.within t);
      form = subst (λ (f : List ℕ). IsBlockFile w.hash w.height b.blocks f) (same t) (b.read.whole t);
      sound = b.sound;
    };
  };
}
