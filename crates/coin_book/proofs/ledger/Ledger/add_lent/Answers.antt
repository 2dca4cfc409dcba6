use Rattle.std.proofs.Common.{◌∙◌, ◌++◌, List, Some, ap, sym, take}
use Rattle.std.specs.Prelude.{not, unwrap_or}
use Rattle.std.specs.Map.{keys_of}
use Rattle.fund_base.specs.declared.outpoint.OutPoint.{OutPoint}
use Rattle.coin_book.specs.Coins.{made_by}
use Rattle.coin_book.specs.Faults.{fault_behind, points}
use Rattle.coin_book.specs.History.{confirmed_at}
use Rattle.coin_book.specs.Invariant.{points_in, weigher}
use Rattle.coin_book.specs.declared.fault.BookFault.TheVariants.{Memory}
use Rattle.coin_book.proofs.LentSteps.{no_fault, no_point, passed_over}
use Rattle.coin_book.proofs.ShortSteps.{keys_points, told_fault, told_short}
use Rattle.coin_book.proofs.ledger.Ledger.add_lent.Goals as goal

pub returns-then-not-is_watched-clause-holds : goal.returns-then-not-is_watched-clause-holds
returns-then-not-is_watched-clause-holds c = λ before behind under h at.
    let weigh = weigher c.args.weights.now.entries in
    let one = confirmed_at c.args.spend.now.height c.args.tx.now in
    let none = no_point c.first_point-point.result (take 1 (points (made_by weigh one))) (c.is_none.ensures ∙ ap not c.if-is_none.true) (c.first_point-point.ensures (Some c.args.spend.now.height)) in
    passed_over c.args.watched.now weigh before behind c.args.base.now c.args.self.now one c.args.spend.now under h
    (λ k. record { txid = c.requires.spend k; height = c.args.spend.now.height; place = at k }) none (sym c.is_watched.ensures ∙ c.if-not-is_watched.true)

pub returns-then-not-is_watched-clause-exact : goal.returns-then-not-is_watched-clause-exact
returns-then-not-is_watched-clause-exact c = λ before behind under h.
    let weigh = weigher c.args.weights.now.entries in
    let one = confirmed_at c.args.spend.now.height c.args.tx.now in
    let none = no_point c.first_point-point.result (take 1 (points (made_by weigh one))) (c.is_none.ensures ∙ ap not c.if-is_none.true) (c.first_point-point.ensures (Some c.args.spend.now.height)) in
    no_fault weigh one (points_in weigh before ++ points_in weigh behind) none

pub returns-in-Ok-clause-holds : goal.returns-in-Ok-clause-holds
returns-in-Ok-clause-holds c = λ before behind under h at. rw (← c.in-Ok.ensures) (c.add.ensures.holds before behind under h at)

pub returns-in-Ok-clause-exact : goal.returns-in-Ok-clause-exact
returns-in-Ok-clause-exact c = λ before behind under h. rw (← c.in-Ok.ensures) (c.add.ensures.exact before behind under h)

pub returns-in-Ok-clause-short : goal.returns-in-Ok-clause-short
returns-in-Ok-clause-short c = λ before behind under h is. rw (← c.in-Ok.ensures) (c.add.ensures.short before behind under h is)

pub returns-in-Err-clause-exact : goal.returns-in-Err-clause-exact
returns-in-Err-clause-exact c = λ before behind under h other.
    let weigh = weigher c.args.weights.now.entries in
    let one = confirmed_at c.args.spend.now.height c.args.tx.now in
    let os = points (made_by weigh one) in
    let keys = keys_of c.args.base.now.coins.entries ++ keys_of c.args.self.now.coins.entries in
    let told = c.point_or_short.ensures ∙ ap (λ (l : List OutPoint). unwrap_or (fault_behind keys l) Memory) (c.first_point-point.ensures (Some c.args.spend.now.height)) in
    sym (keys_points c.args.watched.now weigh before behind c.args.base.now c.args.self.now os under h) ∙ told_fault keys os c.point_or_short.result told other

pub returns-in-Err-clause-short : goal.returns-in-Err-clause-short
returns-in-Err-clause-short c = λ before behind under h is.
    let weigh = weigher c.args.weights.now.entries in
    let one = confirmed_at c.args.spend.now.height c.args.tx.now in
    let os = points (made_by weigh one) in
    let keys = keys_of c.args.base.now.coins.entries ++ keys_of c.args.self.now.coins.entries in
    let told = c.point_or_short.ensures ∙ ap (λ (l : List OutPoint). unwrap_or (fault_behind keys l) Memory) (c.first_point-point.ensures (Some c.args.spend.now.height)) in
    sym (keys_points c.args.watched.now weigh before behind c.args.base.now c.args.self.now (take 1 os) under h) ∙ told_short keys os c.point_or_short.result told (cc)
