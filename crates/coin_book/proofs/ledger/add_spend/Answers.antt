use Rattle.std.proofs.Common.{◌∙◌, ap, sym, [], ◌∷◌, ◌++◌, cond, List, Bool}
use Rattle.fund_base.specs.Outpoints.{same_outpoint}
use Rattle.fund_base.specs.declared.outpoint.OutPoint.{OutPoint}
use Rattle.fund_base.proofs.OutpointLaws.{same_outpoint-Decides}
use Rattle.coin_book.specs.Places.{spends_in}
use Rattle.coin_book.specs.Merging.{is_new}
use Rattle.coin_book.specs.declared.coin.Spend.{Spend}
use Rattle.coin_book.proofs.NewSpends.{not_put, put}
use Rattle.coin_book.proofs.ledger.add_spend.Goals as goal

pub returns-then-not-is_new : goal.returns-then-not-is_new
returns-then-not-is_new c = λ o.
    let new : OutPoint → Bool = is_new c.args.watched.now c.args.base.now c.args.spends.now c.args.spend.now.txid in
    not_put (same_outpoint c.args.point.now o) (new o) (new c.args.point.now) (spends_in c.args.spends.now o) (c.args.spend.now ∷ [])
    (λ same. sym (ap new ((same_outpoint-Decides c.args.point.now o).0 same))) (sym c.is_new.ensures ∙ c.if-not-is_new.true)

pub returns : goal.returns
returns c = λ o.
    let new : OutPoint → Bool = is_new c.args.watched.now c.args.base.now c.args.spends.now c.args.spend.now.txid in
    c.in_ok-put.ensures.grown o
    ∙ ap (λ (b : Bool). spends_in c.args.spends.now o ++ cond b (c.args.spend.now ∷ []) [])
    (put (same_outpoint c.args.point.now o) (new o) (new c.args.point.now) (λ same. sym (ap new ((same_outpoint-Decides c.args.point.now o).0 same))) (sym c.is_new.ensures ∙ c.if-not-is_new.false))
