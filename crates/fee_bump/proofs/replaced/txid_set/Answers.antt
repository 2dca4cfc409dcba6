use Rattle.std.proofs.Common.{◌≡◌, ◌∙◌, ℕ, false, cond, List, [], ◌∷◌, ◌++◌, take, sym, ap, subst, AllPairs, ◌≢◌}
use Rattle.std.specs.Prelude.{bytes_eq}
use Rattle.std.specs.List.{list_any}
use Rattle.std.proofs.lemmas.List.{take_more}
use Rattle.indexmap.specs.IndexSet.{insert_key}
use Rattle.payment_states.proofs.GraphSteps.{distinct_txids, fresh}
use Rattle.fee_bump.proofs.replaced.txid_set.Goals as goal

pub loop-txid-preserved : goal.loop-txid-preserved
loop-txid-preserved c =
    let xs = c.args.txids.now in
    let i = c.loop-txid.txid-index in
    let item = c.txid-item.result in
    let lt = c.loop-txid-test.true in
    let apart = subst (λ (l : List (List ℕ)). AllPairs (λ x y. x ≢ y) l) (sym c.requires.same) (distinct_txids c.args.txs.now c.requires.distinct) in
    let new : list_any (bytes_eq item) (take i xs) ≡ false = ap (λ x. list_any (bytes_eq x) (take i xs)) c.txid-item.is ∙ fresh xs i item apart lt in
    c.in_ok-insert.ensures.keys
    ∙ ap (λ (ks : List (List ℕ)). insert_key bytes_eq ks item) c.loop-txid.invariant
    ∙ ap (λ b. cond b (take i xs) (take i xs ++ item ∷ [])) new
    ∙ ap (λ x. take i xs ++ x ∷ []) c.txid-item.is
    ∙ sym (take_more xs i item lt)
