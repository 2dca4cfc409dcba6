use Rattle.std.proofs.Common.{◌≡◌, ◌∙◌, ◌++◌, ◌∷◌, [], ◌+◌, sym, ap, subst, refl, None, List, map, take, drop, length, arith}
use Rattle.tx_codec.specs.Transaction.{Transaction}
use Rattle.coin_book.specs.Faults.{fault_behind}
use Rattle.wallet_text.specs.PlainWallet.{Earlier}
use Rattle.coin_book.specs.History.{Confirmed, confirmed_at, confirmed_before}
use Rattle.coin_book.specs.Invariant.{HoldsChain, points_in, weigher}
use Rattle.coin_book.proofs.ChainSteps.{all_of, next_of, none_behind, place_of, fault_early, fault_on}
use Rattle.coin_book.proofs.earlier.add_all.Goals as goal

pub loop-index-init : goal.loop-index-init
unfolding fault_behind
loop-index-init c = record {
  holds = none_behind c.args.watched.now (weigher c.args.weights.now.entries) [] c.args.ledger.now c.requires.coins c.requires.spends c.requires.heights;
  fresh = refl;
}

pub loop-index-preserved : goal.loop-index-preserved
loop-index-preserved c =
    let weigh = weigher c.args.weights.now.entries in
    let front = map confirmed_before (take c.loop-index.index c.args.earlier.now) in
    let under = none_behind c.args.watched.now weigh [] c.new-base.result c.new-base.ensures.coins c.new-base.ensures.spends c.new-base.ensures.heights in
    let one = confirmed_at c.entry.inside.height c.as_ref.result.now in
    let next = next_of confirmed_before c.args.earlier.now c.loop-index.index c.index-earlier-index.result c.loop-index-test.true c.index-earlier-index.is ∙ ap (λ (e : Earlier). front ++ confirmed_before e ∷ []) (sym c.entry.view_is) ∙ ap (λ (t : Transaction). front ++ confirmed_at c.entry.inside.height t ∷ []) (sym c.as_ref.ensures) in
    let lt = c.loop-index-test.true in
    let at : c.loop-index.index ≡ length ([] ++ front) = let p = place_of confirmed_before [] c.args.earlier.now c.loop-index.index (omega arith) in omega arith in
    record {
      holds = subst (λ (l : List Confirmed). HoldsChain c.args.watched.now weigh [] l c.add.new.self) (sym next) (c.in-Ok.ensures.holds [] front under c.loop-index.invariant.holds at);
      fresh = ap (λ (l : List Confirmed). fault_behind [] (points_in weigh l)) next ∙ fault_on weigh [] front one None c.loop-index.invariant.fresh (c.in-Ok.ensures.exact [] front under c.loop-index.invariant.holds);
    }

pub returns-in-Err-clause-exact : goal.returns-in-Err-clause-exact
returns-in-Err-clause-exact c = λ other.
    let weigh = weigher c.args.weights.now.entries in
    let i = c.loop-index.index in
    let front = map confirmed_before (take i c.args.earlier.now) in
    let one = confirmed_at c.entry.inside.height c.as_ref.result.now in
    let under = none_behind c.args.watched.now weigh [] c.new-base.result c.new-base.ensures.coins c.new-base.ensures.spends c.new-base.ensures.heights in
    let next = next_of confirmed_before c.args.earlier.now i c.index-earlier-index.result c.loop-index-test.true c.index-earlier-index.is ∙ ap (λ (e : Earlier). front ++ confirmed_before e ∷ []) (sym c.entry.view_is) ∙ ap (λ (t : Transaction). front ++ confirmed_at c.entry.inside.height t ∷ []) (sym c.as_ref.ensures) in
    let all = all_of confirmed_before c.args.earlier.now (i + 1) ∙ ap (λ (l : List Confirmed). l ++ map confirmed_before (drop (i + 1) c.args.earlier.now)) next in
    ap (λ (l : List Confirmed). fault_behind [] (points_in weigh l)) all
    ∙ fault_early weigh [] (front ++ one ∷ []) (map confirmed_before (drop (i + 1) c.args.earlier.now)) c.in-Err.fault
    (fault_on weigh [] front one _ c.loop-index.invariant.fresh refl ∙ c.in-Err.ensures.exact [] front under c.loop-index.invariant.holds other)
