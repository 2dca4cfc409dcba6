use Rattle.std.proofs.Common.{◌∙◌, ◌+◌, ◌&&◌, ap, sym, [], ◌++◌, List, Some, cond, take, ◌∷◌}
use Rattle.std.specs.Map.{keys_of}
use Rattle.fund_base.specs.declared.outpoint.OutPoint.{OutPoint}
use Rattle.coin_book.specs.Faults.{fault_behind, points}
use Rattle.coin_book.specs.History.{confirmed_at}
use Rattle.coin_book.specs.Invariant.{weigher}
use Rattle.coin_book.specs.Places.{spends_in}
use Rattle.coin_book.specs.Merging.{is_new}
use Rattle.coin_book.specs.Spends.{has_input}
use Rattle.tx_codec.specs.Transaction.{Transaction}
use Rattle.tx_codec.specs.declared.tx.TxIn.{TxIn}
use Rattle.coin_book.proofs.ChainSteps.{chain_more, held_points, points_of}
use Rattle.coin_book.specs.Coins.{made_by}
use Rattle.coin_book.proofs.ShortSteps.{all_none, keys_points, short_none, told_fault, told_short}
use Rattle.coin_book.proofs.ledger.Ledger.add.Goals as goal

pub returns-in-Err-add_coins-clause-exact : goal.returns-in-Err-add_coins-clause-exact
returns-in-Err-add_coins-clause-exact c = λ before behind under h other.
    sym (held_points c.args.watched.now _ before behind c.args.base.now c.args.self.now _ c.in-Ok.held.items under h c.in-Ok.ensures.made) ∙ c.in-Err-add_coins.ensures.exact other

pub returns-clause-exact : goal.returns-clause-exact
returns-clause-exact c = λ before behind under h.
    sym (held_points c.args.watched.now _ before behind c.args.base.now c.args.self.now _ c.in-Ok.held.items under h c.in-Ok.ensures.made) ∙ c.in-Ok-add_coins.ensures.exact

pub returns-clause-holds : goal.returns-clause-holds
returns-clause-holds c = λ before behind under h at.
    chain_more c.args.watched.now (weigher c.args.weights.now.entries) before behind c.args.base.now c.args.self.now c.add_spender.new.self (confirmed_at c.args.spend.now.height c.args.tx.now) c.in-Ok.held.items _
    under h (λ k. record { txid = c.requires.spend k; height = c.args.spend.now.height; place = at k }) c.in-Ok.ensures.made
    ((λ k. (c.in_ok-add_spender.ensures.coins k).entries) ∙ c.in-Ok-add_coins.ensures.added)
    (record {
      heights = c.in_ok-add_spender.ensures.heights;
      spends = λ o.
          c.in_ok-add_spender.ensures.spends o
          ∙ ap (λ (inputs : List TxIn). spends_in c.args.self.now.spends o ++ cond (has_input o inputs && is_new c.args.watched.now c.args.base.now.spends c.args.self.now.spends c.args.spend.now.txid o) (c.args.spend.now ∷ []) [])
          (c.deref.ensures.value ∙ ap (λ (t : Transaction). t.inputs) c.tx.view_is);
    })

pub returns-in-Err-clause-exact : goal.returns-in-Err-clause-exact
returns-in-Err-clause-exact c = λ before behind under h other.
    let weigh = weigher c.args.weights.now.entries in
    let os = points (made_by weigh (confirmed_at c.args.spend.now.height c.args.tx.now)) in
    sym (keys_points c.args.watched.now weigh before behind c.args.base.now c.args.self.now os under h) ∙ told_fault _ os c.fault_or_short.result (c.fault_or_short.ensures (Some c.args.spend.now.height)) other

pub returns-in-Err-clause-short : goal.returns-in-Err-clause-short
returns-in-Err-clause-short c = λ before behind under h is.
    let weigh = weigher c.args.weights.now.entries in
    let os = points (made_by weigh (confirmed_at c.args.spend.now.height c.args.tx.now)) in
    sym (keys_points c.args.watched.now weigh before behind c.args.base.now c.args.self.now (take 1 os) under h) ∙ told_short _ os c.fault_or_short.result (c.fault_or_short.ensures (Some c.args.spend.now.height)) (cc)

pub returns-in-Err-add_coins-clause-short : goal.returns-in-Err-add_coins-clause-short
returns-in-Err-add_coins-clause-short c = λ before behind under h is.
    let weigh = weigher c.args.weights.now.entries in
    let os = points (made_by weigh (confirmed_at c.args.spend.now.height c.args.tx.now)) in
    let stops = c.in-Err-add_coins.ensures.short is in
    sym (keys_points c.args.watched.now weigh before behind c.args.base.now c.args.self.now (take 1 os) under h)
    ∙ short_none _ os stops.added (ap (λ (l : List OutPoint). fault_behind (keys_of c.args.base.now.coins.entries ++ keys_of c.args.self.now.coins.entries) (take (stops.added + 1) l)) (sym (points_of c.in-Ok.held.items _ c.in-Ok.ensures.made)) ∙ stops.sound)

pub returns-in_err-add_spender-clause-short : goal.returns-in_err-add_spender-clause-short
returns-in_err-add_spender-clause-short c = λ before behind under h is.
    let weigh = weigher c.args.weights.now.entries in
    let os = points (made_by weigh (confirmed_at c.args.spend.now.height c.args.tx.now)) in
    all_none _ os (sym (held_points c.args.watched.now _ before behind c.args.base.now c.args.self.now _ c.in-Ok.held.items under h c.in-Ok.ensures.made) ∙ c.in-Ok-add_coins.ensures.exact)
