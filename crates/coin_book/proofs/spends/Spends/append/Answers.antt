use Rattle.std.proofs.Common.{◌≡◌, ◌∙◌, ◌++◌, List, ap, length, sym, take, arith}
use Rattle.std.proofs.Math.Seq.{take-length}
use Rattle.std.proofs.lemmas.List.{append-nil}
use Rattle.fund_base.specs.declared.outpoint.OutPoint.{OutPoint}
use Rattle.coin_book.specs.Places.{all_in, spends_in}
use Rattle.coin_book.specs.declared.coin.Spend.{Spend}
use Rattle.coin_book.proofs.ListSteps.{all_is_one}
use Rattle.coin_book.proofs.spends.Spends.append.Goals as goal

pub loop-i-init : goal.loop-i-init
loop-i-init c = λ o. sym (append-nil (spends_in c.args.self.now o))

pub loop-i-preserved : goal.loop-i-preserved
loop-i-preserved c = λ o. c.in-Ok.ensures.grown (λ o. spends_in c.args.self.now o) c.loop-i.invariant o

pub returns-clause-grown : goal.returns-clause-grown
returns-clause-grown c = λ o.
    let end = c.loop-i.auto.i-end in
    let at : c.loop-i.i ≡ length c.args.more.now = omega (arith, c.loop-i-test.false, c.len-i-end.ensures.count) in
    c.loop-i.invariant o
    ∙ ap (λ (es : List (OutPoint × List Spend)). spends_in c.args.self.now o ++ all_in es o) (ap (λ n. take n c.args.more.now) at ∙ take-length c.args.more.now)
    ∙ ap (λ (l : List Spend). spends_in c.args.self.now o ++ l) (all_is_one c.args.more.now o c.len-i-end.ensures.apart)

pub returns-in-Err-clause-kept : goal.returns-in-Err-clause-kept
returns-in-Err-clause-kept c = λ o. c.cut_entries.ensures (λ o. spends_in c.args.self.now o) (λ o. c.in-Err.ensures.kept o ∙ c.loop-i.invariant o) o
