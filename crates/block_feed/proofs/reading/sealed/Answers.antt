use Rattle.std.proofs.Common.{◌≡◌, ◌∙◌, ℕ, not, Bool, true, false, cond, List, map, Some, None, Ok, Err, refl, sym, ap}
use Rattle.std.specs.Prelude.{bytes_eq}
use Rattle.tx_codec.specs.Transaction.{Transaction}
use Rattle.tx_codec.specs.Txid.{txid_of}
use Rattle.block_feed.specs.Block.{ChainBlock, root_of}
use Rattle.block_feed.specs.Merkle.{double_sha256, is_mutated, merkle_root}
use Rattle.block_feed.specs.Reading.{sealed_at}
use Rattle.block_feed.specs.declared.fault.FeedFault.{FeedFault}
use Rattle.block_feed.specs.declared.fault.FeedFault.TheVariants.{Merkle, Mutated}
use Rattle.block_feed.proofs.reading.sealed.Goals as goal

-- the fault of a tree is that of the block
told : (height : ℕ) (a b : Bool) (block : ChainBlock) (fault : FeedFault) → Some fault ≡ cond a (Some (Merkle height)) (cond b (Some (Mutated height)) None)
    → cond a (Err (Merkle height)) (cond b (Err (Mutated height)) (Ok block)) ≡ Err fault
told height true b block fault e = cc
told height false true block fault e = cc
told height false false block fault e = cc

fault_is : (height : ℕ) (header : List ℕ) (found : List Transaction) (root : List ℕ) (mutated : Bool) (fault : FeedFault) → root ≡ merkle_root (map txid_of found) → mutated ≡ is_mutated (map txid_of found)
    → Some fault ≡ cond (not (bytes_eq (root_of header) root)) (Some (Merkle height)) (cond mutated (Some (Mutated height)) None) → sealed_at height header found ≡ Err fault
unfolding sealed_at
fault_is height header found root mutated fault root_is mutated_is e =
    told height (not (bytes_eq (root_of header) (merkle_root (map txid_of found)))) (is_mutated (map txid_of found)) _ fault
    (e ∙ (λ k. cond (not (bytes_eq (root_of header) (root_is k))) (Some (Merkle height)) (cond (mutated_is k) (Some (Mutated height)) None)))

-- and where it has none, it is the block
fine : (height : ℕ) (a b : Bool) (block : ChainBlock) → None ≡ cond a (Some (Merkle height)) (cond b (Some (Mutated height)) None) → cond a (Err (Merkle height)) (cond b (Err (Mutated height)) (Ok block)) ≡ Ok block
fine height true b block e = absurd cc
fine height false true block e = absurd cc
fine height false false block e = refl

seal_is : (height : ℕ) (header : List ℕ) (found : List Transaction) (root : List ℕ) (mutated : Bool) (hash : List ℕ) → root ≡ merkle_root (map txid_of found) → mutated ≡ is_mutated (map txid_of found) → hash ≡ double_sha256 header
    → None ≡ cond (not (bytes_eq (root_of header) root)) (Some (Merkle height)) (cond mutated (Some (Mutated height)) None) → sealed_at height header found ≡ Ok (record { height = height; hash = hash; txs = found })
unfolding sealed_at
seal_is height header found root mutated hash root_is mutated_is hash_is e =
    fine height (not (bytes_eq (root_of header) (merkle_root (map txid_of found)))) (is_mutated (map txid_of found)) (record { height = height; hash = double_sha256 header; txs = found })
    (e ∙ (λ k. cond (not (bytes_eq (root_of header) (root_is k))) (Some (Merkle height)) (cond (mutated_is k) (Some (Mutated height)) None)))
    ∙ ap (λ (h : List ℕ). Ok (record { height = height; hash = h; txs = found })) (sym hash_is)

pub returns-in-Some-clause-gives : goal.returns-in-Some-clause-gives
returns-in-Some-clause-gives c = λ txs names _.
    let leaves : c.in_ok-leaves.field-0.items ≡ map txid_of txs = c.in_ok-leaves.ensures ∙ c.deref.ensures.value ∙ names in
    fault_is c.args.height c.args.header.now txs c.in_ok-tree.tree.root c.in_ok-tree.tree.mutated c.in-Some.fault (c.in_ok-tree.ensures.root ∙ ap merkle_root leaves) (c.in_ok-tree.ensures.mutated ∙ ap is_mutated leaves) c.in-Some.ensures

pub returns-clause-gives : goal.returns-clause-gives
returns-clause-gives c = λ txs names.
    let leaves : c.in_ok-leaves.field-0.items ≡ map txid_of txs = c.in_ok-leaves.ensures ∙ c.deref.ensures.value ∙ names in
    seal_is c.args.height c.args.header.now txs c.in_ok-tree.tree.root c.in_ok-tree.tree.mutated c.hash_of.result (c.in_ok-tree.ensures.root ∙ ap merkle_root leaves) (c.in_ok-tree.ensures.mutated ∙ ap is_mutated leaves) c.hash_of.ensures c.in-None.ensures
