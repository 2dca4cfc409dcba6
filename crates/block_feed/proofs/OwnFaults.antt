-- The fault of a transaction in a block is one of its text.
use Rattle.std.proofs.Common.{◌≡◌, ◌≤◌, ℕ, List, length, Result, Ok, Err, ap, ◌∙◌, inl, inr}
use Rattle.std.specs.Prelude.{◌⊎◌}
use Rattle.fund_base.specs.Cursor.{IsBytes}
use Rattle.fund_base.specs.Parsing.{YieldsAll}
use Rattle.fund_base.specs.declared.cursor.CutFault.{CutFault}
use Rattle.fund_base.specs.declared.cursor.CutFault.TheVariants.{Truncated, LongCompact}
use Rattle.tx_codec.specs.Fault.{cut_fault}
use Rattle.tx_codec.specs.declared.fault.TxFault.TheVariants.{Memory as NoMemory}
use Rattle.tx_codec.proofs.OwnFaults.{tx_never}
use Rattle.block_feed.specs.Block.{ChainBlock}
use Rattle.block_feed.specs.Faults.{LacksCount, LacksTx}
use Rattle.block_feed.specs.Reading.{block_at}
use Rattle.block_feed.specs.declared.fault.FeedFault.{FeedFault}
use Rattle.block_feed.specs.declared.fault.FeedFault.TheVariants.{Tx, Memory}
use Rattle.block_feed.proofs.BlockLaws.{start}
use Rattle.block_feed.proofs.Refusals.{block_refused}

cut_never : (cut : CutFault) → NoMemory ≡ cut_fault cut → ⊥
cut_never (Truncated place) is = cc
cut_never (LongCompact place) is = cc

lacks_never : (body : List ℕ) → LacksCount NoMemory body ⊎ LacksTx NoMemory body → ⊥
lacks_never body (inl count) = cut_never count.cut count.told
lacks_never body (inr tx) = tx_never _ tx.refused

-- what the bytes of a block hold has no such fault
pub block_never : (hash : List ℕ) (height at : ℕ) (body : List ℕ) → 80 ≤ length body → IsBytes body → block_at hash height (start body) ≡ Err (Tx at NoMemory) → ⊥
block_never hash height at body long fits e = lacks_never body (block_refused hash height body (Tx at NoMemory) long fits e).2

-- so no call gives it
pub yields_never : {X : Type 0} (view : X → ChainBlock) (hash : List ℕ) (height : ℕ) (body : List ℕ) (result : Result X FeedFault) → 80 ≤ length body → IsBytes body → YieldsAll Memory view result (block_at hash height (start body)) → (at : ℕ) → result ≡ Err (Tx at NoMemory) → ⊥
yields_never view hash height body (Ok x) long fits given at is = absurd cc
yields_never view hash height body (Err e) long fits given at is =
    let same : e ≡ Tx at NoMemory = cc in
    block_never hash height at body long fits (given (λ memory. absurd cc) ∙ ap (λ (d : FeedFault). Err d) same)
