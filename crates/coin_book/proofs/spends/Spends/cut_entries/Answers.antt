use Rattle.std.proofs.Common.{◌≡◌, ◌∙◌, ◌+◌, ◌-◌, ◌++◌, ap, length, refl, sym, take, arith}
use Rattle.std.proofs.lemmas.List.{append-nil}
use Rattle.coin_book.specs.Places.{all_in, spends_in}
use Rattle.coin_book.proofs.ListSteps.{cut_one}
use Rattle.coin_book.proofs.spends.Spends.cut_entries.Goals as goal

pub loop-left-preserved-in-Some : goal.loop-left-preserved-in-Some
loop-left-preserved-in-Some c =
    let es = c.args.more.now in
    let some = c.loop-left-test.true in
    let le = c.loop-left.invariant.within in
    let next : c.loop-left.left ≡ c.loop-left.left - 1 + 1 = omega arith in
    record {
      within = omega arith;
      cut = λ front first o.
          cut_one es (c.loop-left.left - 1) c.in-Some.point.now c.in-Some.list.now (length c.in-Some.list.now) (front o) (spends_in c.loop-left.self o) (spends_in c.cut.new.self o) o
          (sym c.in-Some.ensures) refl
          (c.loop-left.invariant.cut front first o ∙ ap (λ n. front o ++ all_in (take n es) o) next)
          (c.cut.ensures o);
    }

pub returns : goal.returns
returns c = λ front first o.
    let done = c.loop-left-test.false in
    let none : c.loop-left.left ≡ 0 = omega arith in
    c.loop-left.invariant.cut front first o ∙ ap (λ n. front o ++ all_in (take n c.args.more.now) o) none ∙ append-nil (front o)
