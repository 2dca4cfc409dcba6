-- The blocks of a whole file, whether all at once or read on one by one.
use Rattle.std.proofs.Common.{◌≡◌, ℕ, zero, suc, ◌+◌, ◌-◌, ◌<◌, ◌≤◌, List, [], ◌∷◌, ◌++◌, length, take, drop, Result, Ok, Err, Option, Some, None, refl, sym, ap, subst, ◌∙◌, append_assoc, arith}
use Rattle.std.specs.Int.{w32, to_le_bytes}
use Rattle.std.proofs.lemmas.List.{append-nil, length-append, length-drop}
use Rattle.fund_base.specs.Cursor.{IsBytes}
use Rattle.fund_base.specs.Parsing.{◌>>=◌}
use Rattle.fund_base.proofs.Laws.{bind_ok, bind_is}
use Rattle.block_feed.specs.declared.fault.FeedFault.{FeedFault}
use Rattle.block_feed.specs.Block.{ChainBlock, Begins}
use Rattle.block_feed.specs.BlockFile.{IsBlockFile}
use Rattle.block_feed.specs.Blocks.{blocks_from, blocks_of, with_rest}
use Rattle.block_feed.specs.Feed.{FeedState, next_of, Moves, StandsBefore}
use Rattle.block_feed.proofs.FeedLaws.{file_again, file_found, file_moves, file_none, fits_from, none_file}

abbrev answer : List ChainBlock → Result (List ChainBlock) FeedFault
answer blocks = Ok blocks

-- a record takes bytes
record_long : (hash : List ℕ) (height : ℕ) (block : ChainBlock) (bytes rest : List ℕ) → Begins hash height block bytes rest → 8 + length rest < length bytes
record_long hash height block bytes rest h =
    let len = ap (λ (l : List ℕ). length l) h.parts in
    let least = h.least in
    omega (arith, length-append (to_le_bytes w32 (length h.body)) (h.body ++ rest), length-append h.body rest)

-- what a file is made of is read
from_file : (n : ℕ) (file hash : List ℕ) (height place : ℕ) (blocks : List ChainBlock) → IsBlockFile hash height blocks (drop place file) → length file ≤ 1_073_741_824 → length file < n + place → blocks_from n file hash height place ≡ Ok blocks
unfolding blocks_from
from_file zero file hash height place [] is few enough = refl
from_file zero file hash height place (block ∷ blocks) is few enough =
    let long = record_long hash height block (drop place file) is.0 is.1 in
    let left = length-drop place file in
    absurd (omega arith)
from_file (suc n) file hash height place [] is few enough =
    bind_is _ _ _ _ (none_file 1_073_741_824 file hash height place is few) refl
from_file (suc n) file hash height place (block ∷ blocks) is few enough =
    let r = file_again 1_073_741_824 file hash height place block is.0 is.1 (omega arith) in
    let long = record_long hash height block (drop place file) is.0 is.1 in
    let left = length-drop place file in
    let behind = length-drop r.behind file in
    let same : length (drop r.behind file) ≡ length is.0 = ap (λ (l : List ℕ). length l) r.left in
    let more : length file < n + r.behind = omega arith in
    let others = from_file n file block.hash block.height r.behind blocks (subst (λ (l : List ℕ). IsBlockFile block.hash block.height blocks l) (sym r.left) is.2) few more in
    bind_is _ _ _ _ r.reads (bind_is _ _ _ _ others refl)

same_list : (a b : List ChainBlock) → answer a ≡ answer b → a ≡ b
same_list a b e = cc

-- by what was read, and what holds of the blocks behind it
by_next : (n : ℕ) (file hash : List ℕ) (height place : ℕ) (blocks : List ChainBlock) (read : Option (ChainBlock × ℕ)) → IsBytes (take 1_073_741_824 file)
    → ((block : ChainBlock) (at : ℕ) (others : List ChainBlock) → blocks_from n file block.hash block.height at ≡ Ok others → place < at → at ≤ length file → IsBlockFile block.hash block.height others (drop at file) × (length file ≤ 1_073_741_824))
    → next_of file (record { hash = hash; height = height; place = place; fault = None; hasher = None; digest = None }) ≡ Ok read → with_rest (λ block at. blocks_from n file block.hash block.height at) read ≡ Ok blocks → IsBlockFile hash height blocks (drop place file) × (length file ≤ 1_073_741_824)
by_next n file hash height place blocks None fits behind reads rest =
    let none = file_none 1_073_741_824 file hash height place reads in
    let e : [] ≡ blocks = cc in
    (subst (λ (l : List ChainBlock). IsBlockFile hash height l (drop place file)) e none.0, none.1)
by_next n file hash height place blocks (Some read) fits behind reads rest =
    let b = bind_ok (blocks_from n file read.0.hash read.0.height read.1) (λ others. Ok (read.0 ∷ others)) blocks rest in
    let moves = file_moves 1_073_741_824 file hash height place read.0 read.1 (fits_from 1_073_741_824 place (read.1 - place) file fits) reads in
    let others = behind read.0 read.1 b.0 b.1 moves.0 moves.1 in
    let begins = file_found 1_073_741_824 file hash height place read.0 read.1 (fits_from 1_073_741_824 place (read.1 - place) file fits) reads in
    let e : read.0 ∷ b.0 ≡ blocks = same_list (read.0 ∷ b.0) blocks b.2 in
    (subst (λ (l : List ChainBlock). IsBlockFile hash height l (drop place file)) e (drop read.1 file, begins, others.0), others.1)

-- what is read is what the file is made of
from_reading : (n : ℕ) (file hash : List ℕ) (height place : ℕ) (blocks : List ChainBlock) → IsBytes (take 1_073_741_824 file) → blocks_from n file hash height place ≡ Ok blocks → place ≤ length file → length file < n + place
    → IsBlockFile hash height blocks (drop place file) × (length file ≤ 1_073_741_824)
unfolding blocks_from
from_reading zero file hash height place blocks fits e within enough = absurd (omega arith)
from_reading (suc n) file hash height place blocks fits e within enough =
    let a = bind_ok (next_of file (record { hash = hash; height = height; place = place; fault = None; hasher = None; digest = None })) (λ read. with_rest (λ block at. blocks_from n file block.hash block.height at) read) blocks e in
    by_next n file hash height place blocks a.0 fits (λ block at others f up in'. from_reading n file block.hash block.height at others fits f in' (omega arith)) a.1 a.2

pub blocks_only : (file hash : List ℕ) (height : ℕ) (blocks : List ChainBlock) → IsBlockFile hash height blocks file → length file ≤ 1_073_741_824 → blocks_of file hash height ≡ Ok blocks
unfolding blocks_of
blocks_only file hash height blocks is few = from_file (suc (length file)) file hash height 0 blocks is few (omega arith)

pub blocks_found : (file hash : List ℕ) (height : ℕ) (blocks : List ChainBlock) → IsBytes (take 1_073_741_824 file) → blocks_of file hash height ≡ Ok blocks → IsBlockFile hash height blocks file × (length file ≤ 1_073_741_824)
unfolding blocks_of
blocks_found file hash height blocks fits e = from_reading (suc (length file)) file hash height 0 blocks fits e (omega arith) (omega arith)

-- ---- reading on

-- blocks that stand before those which a reading gives
abbrev behind : List ChainBlock → Result (List ChainBlock) FeedFault → Result (List ChainBlock) FeedFault
behind front read = read >>= λ blocks. Ok (front ++ blocks)

-- These blocks were given of the file, whose first follows this hash and height, and the feed stands behind them.
pub record HasGiven (file hash : List ℕ) (height : ℕ) (front : List ChainBlock) (feed : FeedState) : Type 0 where
  pub left : ℕ
  pub enough : length file < left + feed.place
  pub within : feed.place ≤ length file
  pub reads : blocks_of file hash height ≡ behind front (blocks_from left file feed.hash feed.height feed.place)
  pub whole : (rest : List ChainBlock) → IsBlockFile feed.hash feed.height rest (drop feed.place file) → IsBlockFile hash height (front ++ rest) file

before_all : (read : Result (List ChainBlock) FeedFault) → read ≡ behind [] read
before_all (Ok blocks) = refl
before_all (Err e) = refl

pub given_none : (file : List ℕ) (feed : FeedState) → feed.place ≡ 0 → HasGiven file feed.hash feed.height [] feed
unfolding blocks_of
given_none file feed start = record {
  left = suc (length file);
  enough = omega arith;
  within = omega arith;
  reads = ap (λ (n : ℕ). blocks_from (suc (length file)) file feed.hash feed.height n) (sym start) ∙ before_all (blocks_from (suc (length file)) file feed.hash feed.height feed.place);
  whole = λ rest is. subst (λ (n : ℕ). IsBlockFile feed.hash feed.height rest (drop n file)) start is;
}

one_more : (front : List ChainBlock) (block : ChainBlock) (read : Result (List ChainBlock) FeedFault) → behind front (read >>= λ blocks. Ok (block ∷ blocks)) ≡ behind (front ++ block ∷ []) read
one_more front block (Ok blocks) = ap (λ (l : List ChainBlock). Ok l) (sym (append_assoc front (block ∷ []) blocks))
one_more front block (Err e) = refl

-- as the feed has moved
moved : (n : ℕ) (file : List ℕ) (block : ChainBlock) (old new : FeedState) → Moves old new (Ok (Some block)) → blocks_from n file block.hash block.height new.place ≡ blocks_from n file new.hash new.height new.place
moved n file block old new moves =
    ap (λ (h : List ℕ). blocks_from n file h block.height new.place) (sym moves.1)
    ∙ ap (λ (h : ℕ). blocks_from n file new.hash h new.place) (sym moves.2)

pub given_more : (file hash : List ℕ) (height : ℕ) (front : List ChainBlock) (old new : FeedState) (block : ChainBlock)
    → next_of file old ≡ Ok (Some (block, new.place)) → Moves old new (Ok (Some block)) → old.place < new.place → new.place ≤ length file → StandsBefore file old new (Some block)
    → HasGiven file hash height front old → HasGiven file hash height (front ++ block ∷ []) new
unfolding blocks_from
given_more file hash height front old new block next moves up within before h = by_left h.left h.enough h.reads
  where
    by_left : (n : ℕ) → length file < n + old.place → blocks_of file hash height ≡ behind front (blocks_from n file old.hash old.height old.place) → HasGiven file hash height (front ++ block ∷ []) new
    by_left zero enough reads = let place = h.within in absurd (omega arith)
    by_left (suc n) enough reads =
        let one : blocks_from (suc n) file old.hash old.height old.place ≡ (blocks_from n file block.hash block.height new.place >>= λ blocks. Ok (block ∷ blocks)) = bind_is _ _ _ _ next refl in
        record {
          left = n;
          enough = omega arith;
          within = within;
          reads =
              reads
              ∙ ap (behind front) one
              ∙ one_more front block (blocks_from n file block.hash block.height new.place)
              ∙ ap (behind (front ++ block ∷ [])) (moved n file block old new moves);
          whole = λ rest is. subst (λ (l : List ChainBlock). IsBlockFile hash height l file) (sym (append_assoc front (block ∷ []) rest)) (h.whole (block ∷ rest) (before rest is));
        }

-- the blocks of a file that ends here, and that these are what it is made of
pub given_all : (file hash : List ℕ) (height : ℕ) (front : List ChainBlock) (feed new : FeedState) → StandsBefore file feed new None → HasGiven file hash height front feed → IsBlockFile hash height front file
given_all file hash height front feed new before h = subst (λ (l : List ChainBlock). IsBlockFile hash height l file) (append-nil front) (h.whole [] before)

-- a fault here is the file's first
pub given_fault : (file hash : List ℕ) (height : ℕ) (front : List ChainBlock) (feed : FeedState) (e : FeedFault) → next_of file feed ≡ Err e → HasGiven file hash height front feed → blocks_of file hash height ≡ Err e
unfolding blocks_from
given_fault file hash height front feed e next h = by_left h.left h.enough h.reads
  where
    by_left : (n : ℕ) → length file < n + feed.place → blocks_of file hash height ≡ behind front (blocks_from n file feed.hash feed.height feed.place) → blocks_of file hash height ≡ Err e
    by_left zero enough reads = let place = h.within in absurd (omega arith)
    by_left (suc n) enough reads = reads ∙ ap (behind front) (ap (λ (r : Result (Option (ChainBlock × ℕ)) FeedFault). r >>= with_rest (λ block at. blocks_from n file block.hash block.height at)) next)
