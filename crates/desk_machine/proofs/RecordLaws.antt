-- Blocks that are read and added one by one.
use Rattle.std.specs.Prelude.{ℕ, suc, zero, ◌≡◌, ◌≤◌, ◌<◌, ◌+◌, ◌++◌, List, [], ◌∷◌, length, nat_lt, take, Option, Some, None, Result, Ok, Err}
use Rattle.std.proofs.Common.{refl, sym, ap, ◌∙◌, arith, append_assoc}
use Rattle.std.proofs.Math.Seq.{take-append_seam}
use Rattle.std.proofs.lemmas.List.{append-nil}
use Rattle.block_feed.specs.Block.{ChainBlock}
use Rattle.block_feed.specs.Feed.{FeedState, most, next_in, next_of}
use Rattle.block_feed.specs.declared.fault.FeedFault.{FeedFault}
use Rattle.coin_book.specs.Faults.{fault_of}
use Rattle.coin_book.specs.History as histories
use Rattle.coin_book.specs.declared.fault.BookFault.{BookFault}
use Rattle.fund_files.specs.declared.chain.Chain.{Chain}
use Rattle.desk_machine.specs.Machine.{Grown, add_blocks, add_records, by_book, records_at, refused_at, with_block}
use Rattle.desk_machine.specs.Records.{Records, behind_block, by_next, records_from}
use Rattle.desk_machine.specs.Replies.{BadBlocks, BadBook, Tip}

-- blocks before those of records
abbrev pub with_front : List ChainBlock → Records → Records
with_front front r = record { blocks = front ++ r.blocks; fault = r.fault }

abbrev no_records : Records
no_records = record { blocks = []; fault = None }

-- These blocks were read and added, and the feed stands behind them.
pub record SoFar (bytes : List ℕ) (begun now : Chain) (feed : FeedState) : Type 0 where
  pub front : List ChainBlock
  pub fuel : ℕ
  pub hash : feed.hash ≡ now.tip.hash
  pub height : feed.height ≡ now.tip.height
  pub within : feed.place ≤ length bytes
  pub enough : length bytes < fuel + feed.place
  pub left : records_at begun bytes ≡ with_front front (records_from fuel bytes feed.hash feed.height feed.place)
  pub adds : (r : Records) → add_records begun (with_front front r) ≡ add_records now r

pub so_far_none : (bytes : List ℕ) (k : Chain) (feed : FeedState) → feed.place ≡ 0 → feed.hash ≡ k.tip.hash → feed.height ≡ k.tip.height → SoFar bytes k k feed
so_far_none bytes k feed place hash height = record {
  front = [];
  fuel = suc (length bytes);
  hash = hash;
  height = height;
  within = omega (arith, place);
  enough = omega (arith, place);
  left = rw (place, hash, height) refl;
  adds = λ r. refl;
}

-- ---- what stands at a place

pub next_records : (bytes hash : List ℕ) (height place n : ℕ) (next : Result (Option (ChainBlock × ℕ)) FeedFault) → next_in (nat_lt most (length bytes)) (take most bytes) hash height place ≡ next
    → records_from (suc n) bytes hash height place ≡ by_next (λ block behind. records_from n bytes block.hash block.height behind) next
unfolding records_from
next_records bytes hash height place n next is = ap (by_next (λ block behind. records_from n bytes block.hash block.height behind)) is

add_more : (k : Chain) (b : ChainBlock) (r : Records) (o : Option BookFault) → fault_of (histories.with_block k.book b) ≡ o → add_records k (behind_block b r) ≡ by_book k o (add_records (with_block k b) r)
unfolding add_blocks
add_more k b r o is = ap (λ (x : Option BookFault). by_book k x (add_records (with_block k b) r)) is

add_none : (k : Chain) → add_records k no_records ≡ record { reply = Tip k.tip.height k.tip.hash; held = k }
unfolding add_blocks
add_none k = refl

add_fault : (k : Chain) (e : FeedFault) → add_records k (record { blocks = []; fault = Some e }) ≡ refused_at k (BadBlocks e)
unfolding add_blocks
add_fault k e = refl

-- ---- one block more

front_more : (front : List ChainBlock) (x : ChainBlock) (r : Records) → with_front front (behind_block x r) ≡ with_front (front ++ x ∷ []) r
front_more front x r = ap (λ (bs : List ChainBlock). record { blocks = bs; fault = r.fault }) (sym (append_assoc front (x ∷ []) r.blocks))

pub so_far_more : (bytes : List ℕ) (begun now new : Chain) (feed next : FeedState) (b : ChainBlock) → SoFar bytes begun now feed → next_of bytes feed ≡ Ok (Some (b, next.place)) → feed.place < next.place → next.place ≤ length bytes
    → next.hash ≡ b.hash → next.height ≡ b.height → fault_of (histories.with_block now.book b) ≡ None → new ≡ with_block now b → SoFar bytes begun new next
so_far_more bytes begun now new feed next b h is further within hash height sound new_is = by h.fuel h.enough h.left
  where
    by : (fuel : ℕ) → length bytes < fuel + feed.place → records_at begun bytes ≡ with_front h.front (records_from fuel bytes feed.hash feed.height feed.place) → SoFar bytes begun new next
    by zero enough left = let low = h.within in absurd (omega (arith, enough, low))
    by (suc n) enough left = record {
      front = h.front ++ b ∷ [];
      fuel = n;
      hash = hash ∙ sym (ap (λ (k : Chain). k.tip.hash) new_is);
      height = height ∙ sym (ap (λ (k : Chain). k.tip.height) new_is);
      within = within;
      enough = omega (arith, enough, further);
      left = left
          ∙ ap (with_front h.front) (next_records bytes feed.hash feed.height feed.place n (Ok (Some (b, next.place))) is)
          ∙ ap (λ (x : List ℕ). with_front h.front (behind_block b (records_from n bytes x b.height next.place))) (sym hash)
          ∙ ap (λ (x : ℕ). with_front h.front (behind_block b (records_from n bytes next.hash x next.place))) (sym height)
          ∙ front_more h.front b (records_from n bytes next.hash next.height next.place);
      adds = λ r.
          sym (ap (add_records begun) (front_more h.front b r))
          ∙ h.adds (behind_block b r)
          ∙ add_more now b r None sound
          ∙ ap (λ (k : Chain). add_records k r) (sym new_is);
    }

-- ---- where it ends

-- the last record, where nothing is left of the fuel but one
ends_by : (bytes : List ℕ) (begun now : Chain) (feed : FeedState) (next : Result (Option (ChainBlock × ℕ)) FeedFault) → SoFar bytes begun now feed → next_of bytes feed ≡ next
    → (n : ℕ) × (add_records begun (records_at begun bytes) ≡ add_records now (by_next (λ block behind. records_from n bytes block.hash block.height behind) next))
ends_by bytes begun now feed next h is = by h.fuel h.enough h.left
  where
    by : (fuel : ℕ) → length bytes < fuel + feed.place → records_at begun bytes ≡ with_front h.front (records_from fuel bytes feed.hash feed.height feed.place)
        → (n : ℕ) × (add_records begun (records_at begun bytes) ≡ add_records now (by_next (λ block behind. records_from n bytes block.hash block.height behind) next))
    by zero enough left = let low = h.within in absurd (omega (arith, enough, low))
    by (suc n) enough left = (
      n,
      ap (add_records begun) left
          ∙ h.adds (records_from (suc n) bytes feed.hash feed.height feed.place)
          ∙ ap (add_records now) (next_records bytes feed.hash feed.height feed.place n next is),
    )

pub ends_tip : (bytes : List ℕ) (begun now : Chain) (feed : FeedState) → SoFar bytes begun now feed → next_of bytes feed ≡ Ok None → add_records begun (records_at begun bytes) ≡ record { reply = Tip now.tip.height now.tip.hash; held = now }
ends_tip bytes begun now feed h is = (ends_by bytes begun now feed (Ok None) h is).1 ∙ add_none now

pub ends_fault : (bytes : List ℕ) (begun now : Chain) (feed : FeedState) (e : FeedFault) → SoFar bytes begun now feed → next_of bytes feed ≡ Err e → add_records begun (records_at begun bytes) ≡ refused_at now (BadBlocks e)
ends_fault bytes begun now feed e h is = (ends_by bytes begun now feed (Err e) h is).1 ∙ add_fault now e

pub ends_book : (bytes : List ℕ) (begun now : Chain) (feed : FeedState) (b : ChainBlock) (place : ℕ) (e : BookFault) → SoFar bytes begun now feed → next_of bytes feed ≡ Ok (Some (b, place)) → fault_of (histories.with_block now.book b) ≡ Some e
    → add_records begun (records_at begun bytes) ≡ refused_at now (BadBook e)
ends_book bytes begun now feed b place e h is broken =
    let x = ends_by bytes begun now feed (Ok (Some (b, place))) h is in
    x.1 ∙ add_more now b (records_from x.0 bytes b.hash b.height place) (Some e) broken

-- where memory runs out, some of the blocks are added
pub some_added : (bytes : List ℕ) (begun now : Chain) (feed : FeedState) → SoFar bytes begun now feed → (n : ℕ) × (now ≡ (add_blocks begun (take n (records_at begun bytes).blocks) None).held)
some_added bytes begun now feed h =
    let rest = (records_from h.fuel bytes feed.hash feed.height feed.place).blocks in
    let blocks : (records_at begun bytes).blocks ≡ h.front ++ rest = ap (λ (r : Records). r.blocks) h.left in (
      length h.front,
      sym (ap (λ (g : Grown). g.held) (h.adds no_records ∙ add_none now))
          ∙ ap (λ (bs : List ChainBlock). (add_blocks begun bs None).held) (append-nil h.front ∙ sym (take-append_seam h.front rest) ∙ ap (take (length h.front)) (sym blocks)),
    )
