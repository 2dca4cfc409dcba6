use Rattle.std.proofs.Common.{sym}
use Rattle.coin_book.specs.Places.{spends_in}
use Rattle.coin_book.proofs.ListSteps.{on_ok, one_list}
use Rattle.coin_book.proofs.spends.Spends.put_entry.Goals as goal

pub returns-in-Some-clause-grown : goal.returns-in-Some-clause-grown
returns-in-Some-clause-grown c = λ front so_far o.
    on_ok c.put_list.result (c.put_list.ensures.grown o)
    (λ grown. one_list c.args.more.now c.args.i c.in-Some.point.now c.in-Some.list.now (front o) (spends_in c.args.self.now o) (spends_in c.put_list.new.self o) o (sym c.in-Some.ensures) (so_far o) grown)
