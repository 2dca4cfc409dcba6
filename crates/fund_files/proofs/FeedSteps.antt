-- One block more of the file, in the book.
use Rattle.std.proofs.Common.{◌≡◌, ◌∙◌, ℕ, ◌<◌, ◌≤◌, List, [], ◌∷◌, ◌++◌, length, Ok, Err, Some, None, refl, sym, ap, subst, append_assoc, arith}
use Rattle.std.specs.Prelude.{All, flat_map, map}
use Rattle.std.proofs.lemmas.List.{append-nil}
use Rattle.std.proofs.lemmas.List.Elements.{All-nil, All-push}
use Rattle.std.proofs.lemmas.Grind.{flat_map-append}
use Rattle.tx_codec.specs.TransactionText.{IsTransaction}
use Rattle.block_feed.specs.Block.{ChainBlock, IsLinked, height_after}
use Rattle.block_feed.specs.Blocks.{blocks_of}
use Rattle.block_feed.specs.Feed.{FeedState, Moves, StandsBefore, next_of}
use Rattle.block_feed.specs.declared.fault.FeedFault.{FeedFault}
use Rattle.block_feed.proofs.FileLaws.{HasGiven, given_all, given_fault, given_more, given_none}
use Rattle.coin_book.specs.History.{Confirmed, History, confirmed_before, confirmed_in, start_of, with_block}
use Rattle.wallet_text.specs.PlainWallet.{PlainWallet}
use Rattle.fund_files.specs.Booked.{IsBooked, IsRead, StartsBehind}
use Rattle.fund_files.specs.Chain.{HaveTexts, confirmed_history, tip_behind, tip_of}
use Rattle.fund_files.specs.declared.booking.Booked.{Booked}
use Rattle.fund_files.specs.declared.chain.Tip.{Tip}

abbrev HasText : ChainBlock → Type 0
HasText b = All IsTransaction b.txs

-- These blocks were given, the last at this tip, and this is what they make behind the wallet's earlier transactions.
-- Where the file is told, the feed stands behind them.
pub record SoFar (told : Type 0) (file : List ℕ) (w : PlainWallet) (feed : FeedState) (tip : Tip) (booked : Booked) : Type 0 where
  pub blocks : List ChainBlock
  pub tip_is : tip ≡ tip_of w blocks
  pub height : tip.height < 4294967295
  pub texts : HaveTexts blocks
  pub given : told → HasGiven file w.hash w.height blocks feed
  pub booked_is : IsBooked booked (confirmed_history w blocks)

abbrev tip_at : ℕ → List ℕ → Tip
tip_at height hash = record { height = height; hash = hash }

same_tip : (height height' : ℕ) (hash hash' : List ℕ) → height ≡ height' → hash ≡ hash' → tip_at height hash ≡ tip_at height' hash'
same_tip height height' hash hash' at named = ap (λ (n : ℕ). tip_at n hash) at ∙ ap (λ (l : List ℕ). tip_at height' l) named

pub so_far_none : (told : Type 0) (file : List ℕ) (w : PlainWallet) (feed : FeedState) (height : ℕ) (hash : List ℕ) (booked : Booked) → StartsBehind w feed → height ≡ w.height → hash ≡ w.hash → w.height ≤ 100_000_000 → IsBooked booked (start_of w)
    → SoFar told file w feed (tip_at height hash) booked
so_far_none told file w feed height hash booked starts height_is hash_is low b = record {
  blocks = [];
  tip_is = same_tip height w.height hash w.hash height_is hash_is;
  height = omega (arith, low, height_is);
  texts = All-nil HasText;
  given = λ t. subst (λ (h : List ℕ). HasGiven file h w.height [] feed) starts.hash (subst (λ (n : ℕ). HasGiven file feed.hash n [] feed) starts.height (given_none file feed starts.place));
  booked_is = subst (λ (c : List Confirmed). IsBooked booked (record { scripts = w.scripts; confirmed = c; pending = [] })) (sym (append-nil (map confirmed_before w.earlier))) b;
}

tip_last : (tip : Tip) (blocks : List ChainBlock) (block : ChainBlock) → record { height = block.height; hash = block.hash } ≡ tip_behind tip (blocks ++ block ∷ [])
tip_last tip [] block = refl
tip_last tip (b ∷ blocks) block = tip_last (record { height = b.height; hash = b.hash }) blocks block

chain_more : (chain : List Confirmed) (blocks : List ChainBlock) (block : ChainBlock) → (chain ++ flat_map confirmed_in blocks) ++ confirmed_in block ≡ chain ++ flat_map confirmed_in (blocks ++ block ∷ [])
chain_more chain blocks block =
    append_assoc chain (flat_map confirmed_in blocks) (confirmed_in block)
    ∙ ap (λ (c : List Confirmed). chain ++ (flat_map confirmed_in blocks ++ c)) (sym (append-nil (confirmed_in block)))
    ∙ ap (λ (c : List Confirmed). chain ++ c) (sym (flat_map-append confirmed_in blocks (block ∷ [])))

low_height : (n : ℕ) → height_after n < 4294967295
low_height n = omega arith

-- the file that is seen is this one, and the block's parts are these
pub so_far_more : (told : Type 0) (file seen : List ℕ) (w : PlainWallet) (tip : Tip) (feed next : FeedState) (old new : Booked) (block : ChainBlock) (previous : List ℕ) (before : ℕ) → IsLinked previous (height_after before) block
    → Moves feed next (Ok (Some block)) → (told → seen ≡ file) → (told → next_of seen feed ≡ Ok (Some (block, next.place))) → (told → (feed.place < next.place) × (next.place ≤ length seen)) → (told → StandsBefore seen feed next (Some block))
    → (height : ℕ) (hash : List ℕ) → height ≡ block.height → hash ≡ block.hash → ((h : History) → h.pending ≡ [] → IsBooked old h → IsBooked new (with_block h block))
    → SoFar told file w feed tip old → SoFar told file w next (tip_at height hash) new
so_far_more told file seen w tip feed next old new block previous before linked moves same is within stands height hash height_is hash_is added h = record {
  blocks = h.blocks ++ block ∷ [];
  tip_is = same_tip height block.height hash block.hash height_is hash_is ∙ tip_last (record { height = w.height; hash = w.hash }) h.blocks block;
  height = subst (λ (n : ℕ). n < 4294967295) (sym (height_is ∙ linked.is_block.height_is)) (low_height before);
  texts = All-push HasText h.blocks block h.texts linked.is_block.each;
  given = λ t. given_more file w.hash w.height h.blocks feed next block (subst (λ (f : List ℕ). next_of f feed ≡ Ok (Some (block, next.place))) (same t) (is t)) moves (within t).0
      (subst (λ (f : List ℕ). next.place ≤ length f) (same t) (within t).1) (subst (λ (f : List ℕ). StandsBefore f feed next (Some block)) (same t) (stands t)) (h.given t);
  booked_is = subst (λ (c : List Confirmed). IsBooked new (record { scripts = w.scripts; confirmed = c; pending = [] })) (chain_more (map confirmed_before w.earlier) h.blocks block) (added (confirmed_history w h.blocks) refl h.booked_is);
}

pub so_far_all : (told : Type 0) (file : List ℕ) (w : PlainWallet) (tip : Tip) (feed next : FeedState) (booked : Booked) → (told → StandsBefore file feed next None) → (told → length file ≤ 1_073_741_824) → SoFar told file w feed tip booked → IsRead told file w tip booked
so_far_all told file w tip feed next booked before few h = record {
  blocks = h.blocks;
  read = record {
    tip_is = h.tip_is;
    height = h.height;
    texts = h.texts;
    whole = λ t. given_all file w.hash w.height h.blocks feed next (before t) (h.given t);
    within = few;
  };
  booked_is = h.booked_is;
}

pub so_far_fault : (told : Type 0) (file : List ℕ) (w : PlainWallet) (tip : Tip) (feed : FeedState) (booked : Booked) (e : FeedFault) → told → next_of file feed ≡ Err e → SoFar told file w feed tip booked → blocks_of file w.hash w.height ≡ Err e
so_far_fault told file w tip feed booked e t next h = given_fault file w.hash w.height h.blocks feed e next (h.given t)
