use Rattle.std.proofs.Common.{◌≡◌, ◌∙◌, ◌++◌, ◌∷◌, [], ◌+◌, ◌≤◌, ℕ, sym, ap, subst, refl, None, Some, List, length, map, take, drop, arith, add-one}
use Rattle.std.proofs.lemmas.List.{length-map}
use Rattle.block_feed.specs.Block.{ChainBlock}
use Rattle.tx_codec.specs.Txid.{txid_of}
use Rattle.coin_book.specs.Coins.{made_by}
use Rattle.coin_book.specs.Faults.{fault_behind, points}
use Rattle.coin_book.specs.History.{Confirmed, confirmed_at}
use Rattle.coin_book.specs.Invariant.{HoldsChain, points_in, weigher}
use Rattle.coin_book.specs.declared.fault.BookFault.TheVariants.{Memory}
use Rattle.coin_book.proofs.ChainSteps.{all_of, ap_all, fault_early, fault_on, next_of, none_behind, place_of}
use Rattle.coin_book.proofs.LentSteps.{lent_at, none_lent, txid_there}
use Rattle.coin_book.proofs.ShortSteps.{same_fault, stops_at}
use Rattle.coin_book.proofs.lent.lent_behind.Goals as goal

pub loop-index-init : goal.loop-index-init
unfolding fault_behind
loop-index-init c = record {
  left = c.txs-txs.ensures;
  so_far = λ before under at. record {
    holds = none_behind c.args.watched.now (weigher c.args.weights.now.entries) before c.new-ledger.result c.new-ledger.ensures.coins c.new-ledger.ensures.spends c.new-ledger.ensures.heights;
    fresh = refl;
  };
}

pub unreachable-requires : goal.unreachable-requires
unreachable-requires c =
    let le = none_lent c.args.block.now.txs c.loop-index.index (sym c.loop-index.invariant.left ∙ c.in_default.ensures.steps.0) in
    let count = ap (λ (l : List (List ℕ)). length l) c.txids-txids.ensures ∙ length-map c.args.block.now.txs txid_of in
    omega (arith, le, count, c.loop-index-test.true)

pub add_lent-requires : goal.add_lent-requires
add_lent-requires c =
    let txs = c.args.block.now.txs in
    let there = lent_at txs c.loop-index.index c.in-Some.tx c.next.new.self (sym c.loop-index.invariant.left ∙ c.in-Some.ensures.steps) in
    record { spend = txid_there txs c.loop-index.index c.in-Some.tx c.txids-txids.result.now c.index-txids-index.result c.txids-txids.ensures c.index-txids-index.is there.within there.is }

pub loop-index-preserved : goal.loop-index-preserved
loop-index-preserved c =
    let weigh = weigher c.args.weights.now.entries in
    let txs = c.args.block.now.txs in
    let i = c.loop-index.index in
    let f = confirmed_at c.args.block.now.height in
    let tall = ap (λ (b : ChainBlock). b.height) c.block.view_is in
    let there = lent_at txs i c.in-Some.tx c.next.new.self (sym c.loop-index.invariant.left ∙ c.in-Some.ensures.steps) in
    record {
      left = rw add-one there.behind;
      so_far = λ before under at.
          let front = map f (take i txs) in
          let inv = c.loop-index.invariant.so_far before under at in
          let next = next_of f txs i c.in-Some.tx there.within there.is in
          let here = let p = place_of f before txs i (omega (arith, there.within)) in ap (λ n. n + i) at ∙ p in
          record {
            holds = subst (λ (l : List Confirmed). HoldsChain c.args.watched.now weigh before l c.add_lent.new.self) (sym next)
                (subst (λ (h : ℕ). HoldsChain c.args.watched.now weigh before (front ++ confirmed_at h c.in-Some.tx ∷ []) c.add_lent.new.self) tall (c.in-Ok.ensures.holds before front under inv.holds here));
            fresh = ap (λ (l : List Confirmed). fault_behind (points_in weigh before) (points_in weigh l)) next
                ∙ fault_on weigh (points_in weigh before) front (f c.in-Some.tx) None inv.fresh
                (subst (λ (h : ℕ). fault_behind (points_in weigh before ++ points_in weigh front) (points (made_by weigh (confirmed_at h c.in-Some.tx))) ≡ None) tall (c.in-Ok.ensures.exact before front under inv.holds));
          };
    }

pub returns-in-Err-clause-exact : goal.returns-in-Err-clause-exact
returns-in-Err-clause-exact c = λ before under at other.
    let weigh = weigher c.args.weights.now.entries in
    let txs = c.args.block.now.txs in
    let i = c.loop-index.index in
    let f = confirmed_at c.args.block.now.height in
    let tall = ap (λ (b : ChainBlock). b.height) c.block.view_is in
    let there = lent_at txs i c.in-Some.tx c.next.new.self (sym c.loop-index.invariant.left ∙ c.in-Some.ensures.steps) in
    let front = map f (take i txs) in
    let inv = c.loop-index.invariant.so_far before under at in
    let next = next_of f txs i c.in-Some.tx there.within there.is in
    let all = all_of f txs (i + 1) ∙ ap (λ (l : List Confirmed). l ++ map f (drop (i + 1) txs)) next in
    ap (λ (l : List Confirmed). fault_behind (points_in weigh before) (points_in weigh l)) all
    ∙ fault_early weigh (points_in weigh before) (front ++ f c.in-Some.tx ∷ []) (map f (drop (i + 1) txs)) c.in-Err.fault
    (fault_on weigh (points_in weigh before) front (f c.in-Some.tx) _ inv.fresh
    (subst (λ (h : ℕ). fault_behind (points_in weigh before ++ points_in weigh front) (points (made_by weigh (confirmed_at h c.in-Some.tx))) ≡ Some c.in-Err.fault) tall (c.in-Err.ensures.exact before front under inv.holds other)))

pub returns-in-Err-clause-short : goal.returns-in-Err-clause-short
returns-in-Err-clause-short c = λ before under at is.
    let weigh = weigher c.args.weights.now.entries in
    let txs = c.args.block.now.txs in
    let i = c.loop-index.index in
    let f = confirmed_at c.args.block.now.height in
    let tall = ap (λ (b : ChainBlock). b.height) c.block.view_is in
    let there = lent_at txs i c.in-Some.tx c.next.new.self (sym c.loop-index.invariant.left ∙ c.in-Some.ensures.steps) in
    let front = map f (take i txs) in
    let inv = c.loop-index.invariant.so_far before under at in
    let next = next_of f txs i c.in-Some.tx there.within there.is in
    let all = all_of f txs (i + 1) ∙ ap (λ (l : List Confirmed). l ++ map f (drop (i + 1) txs)) next in
    stops_at weigh before (map f txs) front (f c.in-Some.tx) (map f (drop (i + 1) txs)) all inv.fresh
    (subst (λ (h : ℕ). fault_behind (points_in weigh before ++ points_in weigh front) (take 1 (points (made_by weigh (confirmed_at h c.in-Some.tx)))) ≡ None) tall (c.in-Err.ensures.short before front under inv.holds (same_fault c.in-Err.fault Memory is)))

pub returns-clause-holds : goal.returns-clause-holds
returns-clause-holds c = λ before under at.
    let count = ap (λ (l : List (List ℕ)). length l) c.txids-txids.ensures ∙ length-map c.args.block.now.txs txid_of in
    let end : length c.args.block.now.txs ≤ c.loop-index.index = omega (arith, count, c.loop-index-test.false) in
    ap_all (confirmed_at c.args.block.now.height) c.args.block.now.txs c.loop-index.index end (λ (l : List Confirmed). HoldsChain c.args.watched.now (weigher c.args.weights.now.entries) before l c.loop-index.ledger) (c.loop-index.invariant.so_far before under at).holds

pub returns-clause-exact : goal.returns-clause-exact
returns-clause-exact c = λ before under at.
    let count = ap (λ (l : List (List ℕ)). length l) c.txids-txids.ensures ∙ length-map c.args.block.now.txs txid_of in
    let end : length c.args.block.now.txs ≤ c.loop-index.index = omega (arith, count, c.loop-index-test.false) in
    let weigh = weigher c.args.weights.now.entries in
    ap_all (confirmed_at c.args.block.now.height) c.args.block.now.txs c.loop-index.index end (λ (l : List Confirmed). fault_behind (points_in weigh before) (points_in weigh l) ≡ None) (c.loop-index.invariant.so_far before under at).fresh
