-- Where no byte lies behind the limit, its fault never comes.
use Rattle.std.proofs.Common.{◌≡◌, ℕ, zero, suc, Bool, true, false, cond, List, [], ◌∷◌, Result, Ok, Err, Option, Some, None, refl, sym, ap, subst, ◌∙◌, ltb, length, take, ◌<◌}
use Rattle.std.proofs.lemmas.Bool.{ltb-true}
use Rattle.fund_base.specs.Cursor.{At, take_at, compact_at}
use Rattle.fund_base.specs.Parsing.{◌>>=◌, fault_as, many_at}
use Rattle.tx_codec.specs.declared.fault.TxFault.{TxFault}
use Rattle.tx_codec.specs.declared.fault.TxFault.TheVariants as txs
use Rattle.tx_codec.specs.Reading.{cut, tx_at}
use Rattle.tx_codec.specs.Transaction.{Transaction}
use Rattle.block_feed.specs.declared.fault.FeedFault.{FeedFault}
use Rattle.block_feed.specs.declared.fault.FeedFault.TheVariants.{Magic, Length, Merkle, Mutated, NotLinked, Trailing, Empty, Limit}
use Rattle.block_feed.specs.Block.{ChainBlock, previous_of}
use Rattle.block_feed.specs.Blocks.{blocks_from, blocks_of, with_rest}
use Rattle.block_feed.specs.Reading.{tx_fault, magic_at, sized_at, body_at, record_at, sealed_at, txs_at, counted_txs_at, block_at}
use Rattle.block_feed.specs.Feed.{FeedState, linked_at, most, next_in, Gives}

-- not the fault of the limit
record Within {A : Type 0} (read : Result A FeedFault) : Type 0 where
  never : read ≡ Err Limit → ⊥

given : {A : Type 0} (x : A) → Within (Ok x)
given x = record { never = λ e. absurd cc }

fault : {A : Type 0} (d : FeedFault) → (d ≡ Limit → ⊥) → Within {A = A} (Err d)
fault d apart = record { never = λ e. apart cc }

choice : {A : Type 0} (b : Bool) (x y : Result A FeedFault) → Within x → Within y → Within (cond b x y)
choice true x y p q = p
choice false x y p q = q

is_limit : {B : Type 0} (d : FeedFault) (read : Result B FeedFault) → read ≡ Err d → read ≡ Err Limit → d ≡ Limit
is_limit d read p q = cc

then : {A B : Type 0} (read : Result A FeedFault) (f : A → Result B FeedFault) → Within read → ((x : A) → Within (f x)) → Within (read >>= f)
then (Ok x) f p q = q x
then {A = A} {B = B} (Err d) f p q = record { never = λ e. p.never (ap (λ (c : FeedFault). Err c) (is_limit {B = B} d (Err d) refl e)) }

told : {A : Type 0} (height : ℕ) (read : Result A TxFault) → Within (fault_as (tx_fault height) read)
told height (Ok x) = given x
told height (Err (txs.Truncated place)) = fault _ (λ e. absurd cc)
told height (Err (txs.LongCompact place)) = fault _ (λ e. absurd cc)
told height (Err (txs.ValueRange output)) = fault _ (λ e. absurd cc)
told height (Err txs.NoInputs) = fault _ (λ e. absurd cc)
told height (Err txs.NoOutputs) = fault _ (λ e. absurd cc)
told height (Err txs.BadFlag) = fault _ (λ e. absurd cc)
told height (Err txs.EmptyWitness) = fault _ (λ e. absurd cc)
told height (Err (txs.Trailing place)) = fault _ (λ e. absurd cc)
told height (Err txs.Memory) = fault _ (λ e. absurd cc)

magic_within : (place : ℕ) (rest : List ℕ) → Within (magic_at false place rest)
unfolding magic_at
magic_within place rest = choice _ _ _ (fault (Magic place) (λ e. absurd cc)) (choice _ _ _ (given _) (fault (Magic place) (λ e. absurd cc)))

sized_within : (place size : ℕ) (rest : List ℕ) → Within (sized_at false place size rest)
unfolding sized_at
sized_within place size rest = choice _ _ _ (fault (Length place) (λ e. absurd cc)) (choice _ _ _ (fault (Length place) (λ e. absurd cc)) (given _))

body_within : (place : ℕ) (rest : List ℕ) → Within (body_at false place rest)
unfolding body_at
body_within place rest = choice _ _ _ (fault (Length place) (λ e. absurd cc)) (sized_within place _ _)

record_within : (place : ℕ) (rest : List ℕ) → Within (record_at false place rest)
unfolding record_at
record_within place rest = choice _ _ _ (given None) (then _ _ (magic_within place rest) (λ behind. then _ _ (body_within _ behind) (λ body. given (Some body))))

sealed_within : (height : ℕ) (header : List ℕ) (found : List Transaction) → Within (sealed_at height header found)
unfolding sealed_at
sealed_within height header found = choice _ _ _ (fault (Merkle height) (λ e. absurd cc)) (choice _ _ _ (fault (Mutated height) (λ e. absurd cc)) (given _))

txs_within : (height count : ℕ) (at : At) → Within (txs_at height count at)
unfolding txs_at
txs_within height count at = then _ _ (told height (many_at tx_at count at)) (λ read. choice _ _ _ (given _) (fault (Trailing height) (λ e. absurd cc)))

counted_within : (height : ℕ) (at : At) → Within (counted_txs_at height at)
unfolding counted_txs_at
counted_within height at = then _ _ (told height (cut (compact_at at))) (λ count. choice _ _ _ (fault (Empty height) (λ e. absurd cc)) (txs_within height count.0 count.1))

block_within : (previous : List ℕ) (height : ℕ) (at : At) → Within (block_at previous height at)
unfolding block_at
block_within previous height at =
    then _ _ (told height (cut (take_at 80 at))) (λ header. choice _ _ _ (fault (NotLinked previous (previous_of header.0)) (λ e. absurd cc)) (then _ _ (counted_within height header.1) (λ found. sealed_within height header.0 found)))

linked_within : (hash : List ℕ) (height place : ℕ) (body : Option (List ℕ)) → Within (linked_at hash height place body)
linked_within hash height place None = given None
linked_within hash height place (Some body) = then _ _ (block_within hash _ _) (λ block. given _)

next_within : (bytes hash : List ℕ) (height place : ℕ) → Within (next_in false bytes hash height place)
unfolding next_in
next_within bytes hash height place = then _ _ (record_within place _) (λ body. linked_within hash height place body)

-- so it comes only where the file is longer
limit_longer : (longer : Bool) (bytes hash : List ℕ) (height place : ℕ) → next_in longer bytes hash height place ≡ Err Limit → longer ≡ true
limit_longer true bytes hash height place e = refl
limit_longer false bytes hash height place e = absurd ((next_within bytes hash height place).never e)

pub gives_limit : (m : ℕ) (file : List ℕ) (old new : FeedState) (result : Result (Option ChainBlock) FeedFault) → Gives old new result (next_in (ltb m (length file)) (take m file) old.hash old.height old.place) → result ≡ Err Limit → m < length file
gives_limit m file old new (Ok None) gives is = absurd cc
gives_limit m file old new (Ok (Some block)) gives is = absurd cc
gives_limit m file old new (Err d) gives is =
    let limit : d ≡ Limit = is_limit d (Err d) refl is in
    let stopped : next_in (ltb m (length file)) (take m file) old.hash old.height old.place ≡ Err d = gives (λ e. absurd cc) (λ e. absurd cc) in
    ltb-true m (length file) (limit_longer (ltb m (length file)) (take m file) old.hash old.height old.place (stopped ∙ ap (λ (c : FeedFault). Err c) limit))

-- ---- a whole file

-- the blocks behind one that was read
behind_within : (rest : ChainBlock → ℕ → Result (List ChainBlock) FeedFault) → ((block : ChainBlock) (place : ℕ) → Within (rest block place)) → (read : Option (ChainBlock × ℕ)) → Within (with_rest rest read)
behind_within rest h None = given []
behind_within rest h (Some read) = then _ _ (h read.0 read.1) (λ blocks. given (read.0 ∷ blocks))

from_within : (n : ℕ) (file hash : List ℕ) (height place : ℕ) → ltb most (length file) ≡ false → Within (blocks_from n file hash height place)
unfolding blocks_from
from_within zero file hash height place short = given []
from_within (suc n) file hash height place short =
    let first : Within (next_in (ltb most (length file)) (take most file) hash height place) = subst (λ (longer : Bool). Within (next_in longer (take most file) hash height place)) (sym short) (next_within (take most file) hash height place) in
    then _ _ first (behind_within (λ block behind. blocks_from n file block.hash block.height behind) (λ block behind. from_within n file block.hash block.height behind short))

-- the fault of the limit is that of a file that is longer
pub blocks_limit : (file hash : List ℕ) (height : ℕ) → blocks_of file hash height ≡ Err Limit → 1_073_741_824 < length file
unfolding blocks_of
blocks_limit file hash height e = by (ltb most (length file)) refl
  where
    by : (b : Bool) → ltb most (length file) ≡ b → 1_073_741_824 < length file
    by true longer = ltb-true 1_073_741_824 (length file) longer
    by false short = absurd ((from_within (suc (length file)) file hash height 0 short).never e)
