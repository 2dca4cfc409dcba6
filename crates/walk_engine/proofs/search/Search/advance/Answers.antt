use Rattle.std.proofs.Common.{◌≡◌, ◌+◌, subst, sym, ap, ◌∙◌}
use Rattle.walk_engine.specs.Search.{PlainSearch, IsAfter}
use Rattle.walk_engine.proofs.SearchLaws.{after_accepted, after_best, after_few, after_more, after_tries_few}
use Rattle.walk_engine.proofs.SearchLaws.{made_all, spare_falls}
use Rattle.walk_engine.proofs.search.Search.advance.Goals as goal

pub returns-clause-open_ : goal.returns-clause-open_
returns-clause-open_ c = (
  λ e.
      let undone = c.progress.ensures.open_.0 e in
      let made = c.make.ensures in (
        ap (λ (s : PlainSearch). s.walk.tries) made ∙ made_all c.args.self.now c.args.tries (sym (ap (λ
            (s : PlainSearch). s.walk.done) made) ∙ undone),
        undone,
      ),
  λ h. c.progress.ensures.open_.1 h.1,
)

pub returns-clause-spare : goal.returns-clause-spare
returns-clause-spare c =
    subst (λ (s : PlainSearch). s.spare + s.walk.tries ≡ c.args.self.now.spare + c.args.self.now.walk.tries)
    (sym c.make.ensures) (spare_falls c.args.self.now c.args.tries c.requires)

pub returns-clause-pieces : goal.returns-clause-pieces
returns-clause-pieces c = λ n is. subst (λ (s : PlainSearch). IsAfter s (n + c.args.tries)) (sym c.make.ensures)
    (after_more c.args.self.now n c.args.tries is)

pub returns-clause-best : goal.returns-clause-best
returns-clause-best c = λ n is e. after_best c.make.new.self (n + c.args.tries)
    (returns-clause-pieces c n is) c.progress.ensures.search.problem (c.progress.ensures.done.0 e)

pub returns-clause-accepted : goal.returns-clause-accepted
returns-clause-accepted c = λ n is e. after_accepted c.make.new.self (n + c.args.tries)
    (returns-clause-pieces c n is) c.progress.ensures.search.problem (c.progress.ensures.done.0 e)

pub returns-clause-few : goal.returns-clause-few
returns-clause-few c = λ n is. after_few c.make.new.self (n + c.args.tries)
    (returns-clause-pieces c n is) c.progress.ensures.search.problem

pub returns-clause-most : goal.returns-clause-most
returns-clause-most c = λ n is. after_tries_few c.make.new.self (n + c.args.tries)
    (returns-clause-pieces c n is) c.progress.ensures.search.problem
