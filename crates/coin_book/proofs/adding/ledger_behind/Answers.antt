use Rattle.std.proofs.Common.{◌≡◌, ◌∙◌, ◌++◌, ◌∷◌, [], ◌+◌, sym, ap, subst, refl, None, List, map, take, drop, arith}
use Rattle.coin_book.specs.Faults.{fault_behind}
use Rattle.coin_book.specs.History.{Confirmed, confirmed_at}
use Rattle.coin_book.specs.Invariant.{HoldsChain, points_in, weigher}
use Rattle.coin_book.specs.declared.fault.BookFault.TheVariants.{Memory}
use Rattle.coin_book.proofs.ChainSteps.{all_of, fault_early, fault_on, next_of, none_behind, ap_all, place_of}
use Rattle.coin_book.proofs.ShortSteps.{same_fault, stops_at}
use Rattle.coin_book.proofs.adding.ledger_behind.Goals as goal

pub loop-index-init : goal.loop-index-init
unfolding fault_behind
loop-index-init c = λ before under at. record {
  holds = none_behind c.args.watched.now (weigher c.args.weights.now.entries) before c.new-ledger.result c.new-ledger.ensures.coins c.new-ledger.ensures.spends c.new-ledger.ensures.heights;
  fresh = refl;
}

pub loop-index-preserved : goal.loop-index-preserved
loop-index-preserved c = λ before under at.
    let weigh = weigher c.args.weights.now.entries in
    let f = confirmed_at c.args.height in
    let front = map f (take c.loop-index.index c.args.txs.now) in
    let inv = c.loop-index.invariant before under at in
    let next = next_of f c.args.txs.now c.loop-index.index c.index-txs-index.result c.loop-index-test.true c.index-txs-index.is in
    let lt = c.loop-index-test.true in
    let here = let p = place_of f before c.args.txs.now c.loop-index.index (omega arith) in ap (λ n. n + c.loop-index.index) at ∙ p in
    record {
      holds = subst (λ (l : List Confirmed). HoldsChain c.args.watched.now weigh before l c.add.new.self) (sym next) (c.in-Ok.ensures.holds before front under inv.holds here);
      fresh = ap (λ (l : List Confirmed). fault_behind (points_in weigh before) (points_in weigh l)) next ∙ fault_on weigh (points_in weigh before) front (f c.index-txs-index.result) None inv.fresh (c.in-Ok.ensures.exact before front under inv.holds);
    }

pub returns-in-Err-clause-exact : goal.returns-in-Err-clause-exact
returns-in-Err-clause-exact c = λ before under at other.
    let weigh = weigher c.args.weights.now.entries in
    let f = confirmed_at c.args.height in
    let i = c.loop-index.index in
    let front = map f (take i c.args.txs.now) in
    let one = f c.index-txs-index.result in
    let inv = c.loop-index.invariant before under at in
    let next = next_of f c.args.txs.now i c.index-txs-index.result c.loop-index-test.true c.index-txs-index.is in
    let all = all_of f c.args.txs.now (i + 1) ∙ ap (λ (l : List Confirmed). l ++ map f (drop (i + 1) c.args.txs.now)) next in
    ap (λ (l : List Confirmed). fault_behind (points_in weigh before) (points_in weigh l)) all
    ∙ fault_early weigh (points_in weigh before) (front ++ one ∷ []) (map f (drop (i + 1) c.args.txs.now)) c.in-Err.fault
    (fault_on weigh (points_in weigh before) front one _ inv.fresh refl ∙ c.in-Err.ensures.exact before front under inv.holds other)

pub returns-clause-holds : goal.returns-clause-holds
returns-clause-holds c = λ before under at.
    let end = c.loop-index-test.false in
    ap_all (confirmed_at c.args.height) c.args.txs.now c.loop-index.index end (λ (l : List Confirmed). HoldsChain c.args.watched.now (weigher c.args.weights.now.entries) before l c.loop-index.ledger) (c.loop-index.invariant before under at).holds

pub returns-clause-exact : goal.returns-clause-exact
returns-clause-exact c = λ before under at.
    let end = c.loop-index-test.false in
    let weigh = weigher c.args.weights.now.entries in
    ap_all (confirmed_at c.args.height) c.args.txs.now c.loop-index.index end (λ (l : List Confirmed). fault_behind (points_in weigh before) (points_in weigh l) ≡ None) (c.loop-index.invariant before under at).fresh

pub returns-in-Err-clause-short : goal.returns-in-Err-clause-short
returns-in-Err-clause-short c = λ before under at is.
    let weigh = weigher c.args.weights.now.entries in
    let f = confirmed_at c.args.height in
    let i = c.loop-index.index in
    let front = map f (take i c.args.txs.now) in
    let one = f c.index-txs-index.result in
    let inv = c.loop-index.invariant before under at in
    let next = next_of f c.args.txs.now i c.index-txs-index.result c.loop-index-test.true c.index-txs-index.is in
    let all = all_of f c.args.txs.now (i + 1) ∙ ap (λ (l : List Confirmed). l ++ map f (drop (i + 1) c.args.txs.now)) next in
    stops_at weigh before (map f c.args.txs.now) front one (map f (drop (i + 1) c.args.txs.now)) all inv.fresh (c.in-Err.ensures.short before front under inv.holds (same_fault c.in-Err.fault Memory is))
