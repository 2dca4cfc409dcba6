use Rattle.std.proofs.Common.{◌≡◌, ◌∙◌, ◌++◌, ◌∷◌, ◌+◌, [], List, Some, cond, length, refl, sym, ap, take, arith}
use Rattle.std.proofs.Math.Seq.{take-length}
use Rattle.std.proofs.lemmas.List.{length-take-le}
use Rattle.std.proofs.lemmas.Option.{slice_get_read}
use Rattle.fund_base.specs.Outpoints.{same_outpoint}
use Rattle.coin_book.specs.Places.{spends_in}
use Rattle.coin_book.specs.declared.coin.Spend.{Spend}
use Rattle.coin_book.proofs.ListSteps.{cut_again, put_more, put_none, take_next}
use Rattle.coin_book.proofs.spends.Spends.put_list.Goals as goal

pub loop-i-init : goal.loop-i-init
loop-i-init c = λ o. put_none (same_outpoint c.args.point.now o) (spends_in c.args.self.now o)

pub loop-i-preserved : goal.loop-i-preserved
loop-i-preserved c = λ o.
    let list = c.args.list.now in
    let i = c.loop-i.i in
    let s = c.index-list-i.result in
    let here = same_outpoint c.args.point.now o in
    let next = take_next list i s (slice_get_read list (length list) i s refl c.loop-i-test.true c.index-list-i.is) in
    c.in-Ok.ensures.grown o
    ∙ ap (λ (l : List Spend). l ++ cond here (s ∷ []) []) (c.loop-i.invariant o)
    ∙ put_more here (spends_in c.args.self.now o) (take i list) s
    ∙ ap (λ (l : List Spend). spends_in c.args.self.now o ++ cond here l []) (sym next)

pub returns-clause-grown : goal.returns-clause-grown
returns-clause-grown c = λ o.
    let end = c.loop-i.auto.i-end in
    let at : c.loop-i.i ≡ length c.args.list.now = omega (arith, c.loop-i-test.false) in
    c.loop-i.invariant o
    ∙ ap (λ (l : List Spend). spends_in c.args.self.now o ++ cond (same_outpoint c.args.point.now o) l []) (ap (λ n. take n c.args.list.now) at ∙ take-length c.args.list.now)

pub returns-in-Err-clause-kept : goal.returns-in-Err-clause-kept
returns-in-Err-clause-kept c = λ o.
    let many = length-take-le c.loop-i.i c.args.list.now c.loop-i.auto.i-end in
    c.cut.ensures o
    ∙ cut_again (same_outpoint c.args.point.now o) (spends_in c.args.self.now o) (take c.loop-i.i c.args.list.now) (spends_in c.put.new.self o) c.loop-i.i (sym many) (c.in-Err.ensures.kept o ∙ c.loop-i.invariant o)
