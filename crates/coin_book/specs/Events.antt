-- The calls that a book was given.
use Rattle.std.specs.Prelude.{List, [], ◌∷◌, ◌++◌, map, flat_map, ◌≡◌}
use Rattle.tx_codec.specs.Transaction.{Transaction}
use Rattle.block_feed.specs.Block.{ChainBlock}
use Rattle.wallet_text.specs.PlainWallet.{PlainWallet}
use Rattle.coin_book.specs.History.{History, confirmed_before, confirmed_in, start_of, with_block, with_pending}

-- a block or a pending transaction is added
pub data Event : Type 0 where
  adds_block : ChainBlock → Event
  adds_pending : Transaction → Event

abbrev pub with_event : History → Event → History
with_event h (adds_block block) = with_block h block
with_event h (adds_pending t) = with_pending h t

-- the history after these calls
unfoldable pub after : History → List Event → History
after h [] = h
after h (e ∷ events) = after (with_event h e) events

abbrev pub block_of : Event → List ChainBlock
block_of (adds_block block) = block ∷ []
block_of (adds_pending t) = []

abbrev pub pending_of : Event → List Transaction
pending_of (adds_block block) = []
pending_of (adds_pending t) = t ∷ []

-- the blocks and the pending transactions among the calls, each in order
abbrev pub blocks_in : List Event → List ChainBlock
blocks_in events = flat_map block_of events

abbrev pub pending_in : List Event → List Transaction
pending_in events = flat_map pending_of events

-- What a history comes to is determined by the wallet, its blocks and its pending transactions: how the calls that
-- added blocks stood among those that added pending transactions makes no difference.
abbrev pub ComesTo : PlainWallet → List Event → Type 0
ComesTo w events = after (start_of w) events ≡ record {
  scripts = w.scripts;
  confirmed = map confirmed_before w.earlier ++ flat_map confirmed_in (blocks_in events);
  pending = pending_in events;
}
