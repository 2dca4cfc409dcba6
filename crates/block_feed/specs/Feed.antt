-- The feed: where it stands, and what it gives next.
use Rattle.std.specs.Prelude.{ℕ, ◌≡◌, ◌≢◌, ◌+◌, ◌-◌, ◌≤◌, ◌⊎◌, Bool, List, [], ◌∷◌, ◌++◌, length, take, drop, nat_lt, Option, Some, None, Result, Ok, Err, IfOk, IfSome}
use Rattle.sha2.specs.declared.Sha256.{Sha256}
use Rattle.fund_base.specs.Cursor.{IsBytes}
use Rattle.fund_base.specs.Parsing.{◌>>=◌}
use Rattle.block_feed.specs.Block.{ChainBlock, height_after}
use Rattle.block_feed.specs.BlockFile.{IsTail, IsBlockFile}
use Rattle.block_feed.specs.Digest.{HasTaken, IsDigest}
use Rattle.block_feed.specs.Reading.{record_at, block_at}
use Rattle.block_feed.specs.declared.fault.FeedFault.{FeedFault}
use Rattle.block_feed.specs.declared.fault.FeedFault.TheVariants.{Read, Memory}

-- The hash and height of the block before, the place in the file behind its record, and the fault that
-- stays. Where the file's digest is asked for, what computes it has taken the bytes before that place; and
-- where the last call found the file's end, the digest is there.
pub record FeedState : Type 0 where
  pub hash : List ℕ
  pub height : ℕ
  pub place : ℕ
  pub fault : Option FeedFault
  pub hasher : Option Sha256
  pub digest : Option (List ℕ)

-- how much of a block file is read at most, in bytes
abbrev pub most : ℕ
most = 1_073_741_824

-- what is read of a file from a place on: its bytes there, up to the limit
abbrev pub seen_from : List ℕ → ℕ → List ℕ
seen_from file place = drop place (take most file)

-- the block of the record whose bytes these are, behind this hash and height, and the place behind it
abbrev pub linked_at : List ℕ → ℕ → ℕ → Option (List ℕ) → Result (Option (ChainBlock × ℕ)) FeedFault
linked_at hash height place None = Ok None
linked_at hash height place (Some body) = block_at hash (height_after height) (record { rest = body; place = 0 }) >>= λ block. Ok (Some (block, place + 8 + length body))

-- what these bytes of a file, which may have more, hold at this place behind this hash and height
unfoldable pub next_in : Bool → List ℕ → List ℕ → ℕ → ℕ → Result (Option (ChainBlock × ℕ)) FeedFault
next_in longer bytes hash height place = do
  body ← record_at longer place (drop place bytes)
  linked_at hash height place body

-- what a file holds where the feed stands
abbrev pub next_of : List ℕ → FeedState → Result (Option (ChainBlock × ℕ)) FeedFault
next_of file state = next_in (nat_lt most (length file)) (take most file) state.hash state.height state.place

-- the feed stands as before, and has taken the same bytes
pub record StaysAt (old new : FeedState) : Type 0 where
  pub hash : new.hash ≡ old.hash
  pub height : new.height ≡ old.height
  pub place : new.place ≡ old.place
  pub hasher : new.hasher ≡ old.hasher

-- What a call gave and where the feed then stands is what there is next, being out of memory and failed
-- reads aside.
abbrev pub Gives : FeedState → FeedState → Result (Option ChainBlock) FeedFault → Result (Option (ChainBlock × ℕ)) FeedFault → Type 0
Gives old new (Ok None) next = next ≡ Ok None
Gives old new (Ok (Some block)) next = next ≡ Ok (Some (block, new.place))
Gives old new (Err e) next = e ≢ Memory → e ≢ Read → next ≡ Err e

-- Where a call gave a block, what it read of the file, from the feed's place before the call to that after it, is bytes.
abbrev pub TakesBytes : List ℕ → FeedState → FeedState → Result (Option ChainBlock) FeedFault → Type 0
TakesBytes file old new result = IfOk result (λ o. IfSome o (λ _. IsBytes (take (new.place - old.place) (seen_from file old.place))))

-- What a call found, seen by view, is what reading gives, being out of memory and failed reads aside.
abbrev pub Finds : {X Y : Type 0} → (X → Y) → Result X FeedFault → Result Y FeedFault → Type 0
Finds view (Ok x) read = read ≡ Ok (view x)
Finds view (Err e) read = e ≢ Memory → e ≢ Read → read ≡ Err e

-- The feed has moved behind the block that it gave, at the next height, and has no digest of the whole file
-- yet; otherwise it stands where it stood, and a fault leaves the digest too.
abbrev pub Moves : FeedState → FeedState → Result (Option ChainBlock) FeedFault → Type 0
Moves old new (Ok (Some block)) = (block.height ≡ height_after old.height) × (new.hash ≡ block.hash) × (new.height ≡ block.height) × (new.digest ≡ None)
Moves old new (Ok None) = StaysAt old new
Moves old new (Err e) = StaysAt old new × (new.digest ≡ old.digest)

-- What a call comes to: it gives what there is next, and the feed stands behind it.
pub record IsGiven (file : List ℕ) (old new : FeedState) (result : Result (Option ChainBlock) FeedFault) : Type 0 where
  pub exact : Gives old new result (next_of file old)
  pub bytes : TakesBytes file old new result
  pub moves : Moves old new result

-- this holds of each call, by the file, where the feed stands before it and after it, and what it gives
abbrev pub OfEachCall : (List ℕ → FeedState → FeedState → Result (Option ChainBlock) FeedFault → Type 0) → Type 0
OfEachCall holds = (file : List ℕ) (old new : FeedState) (result : Result (Option ChainBlock) FeedFault) → IsGiven file old new result → holds file old new result

-- What a call takes into the digest: with a block the bytes of its record, which stand between the feed's
-- places before and after the call; at the file's end all that is left, and the digest is then there.
abbrev pub Digests : List ℕ → FeedState → FeedState → Result (Option ChainBlock) FeedFault → Type 0
Digests file old new (Ok (Some block)) = (bytes : List ℕ) → HasTaken old.hasher bytes → HasTaken new.hasher (bytes ++ take (new.place - old.place) (drop old.place file))
Digests file old new (Ok None) = (bytes : List ℕ) → HasTaken old.hasher bytes → IsDigest old.hasher (bytes ++ drop old.place file) new.digest
Digests file old new (Err e) = Unit {0}

-- being out of memory or a failed read
abbrev pub IsOutside : FeedFault → Type 0
IsOutside fault = (fault ≡ Memory) ⊎ (fault ≡ Read)

-- from this place on the file has nothing or zero bytes alone, and it is within the limit
abbrev pub IsEnd : List ℕ → ℕ → Type 0
IsEnd file place = IsTail (drop place file) × (length file ≤ most)

-- What the call gave stands before whatever blocks the file holds from there on; and where it gave none,
-- the file holds none.
abbrev pub StandsBefore : List ℕ → FeedState → FeedState → Option ChainBlock → Type 0
StandsBefore file old new None = IsBlockFile old.hash old.height [] (drop old.place file)
StandsBefore file old new (Some block) =
    (blocks : List ChainBlock) → IsBlockFile new.hash new.height blocks (drop new.place file) → IsBlockFile old.hash old.height (block ∷ blocks) (drop old.place file)

-- of these blocks the call gave the first, and the file holds the others from there on; of none it gave none
abbrev pub IsFirst : List ℕ → FeedState → List ChainBlock → Option ChainBlock → Type 0
IsFirst file new [] given = given ≡ None
IsFirst file new (block ∷ blocks) given = (given ≡ Some block) × IsBlockFile new.hash new.height blocks (drop new.place file)
