use Rattle.std.proofs.Common.{◌≡◌, ◌+◌, subst, sym, ap, ◌∙◌}
use Rattle.wide_search.specs.Search.{PlainWide}
use Rattle.wide_search.proofs.SearchLaws.{made_all, search_accepted, search_best, search_few, search_tries, spare_falls}
use Rattle.wide_search.proofs.wide.Wide.advance.Goals as goal

pub returns-clause-open_ : goal.returns-clause-open_
returns-clause-open_ c = (
  λ e.
      let undone = c.progress.ensures.open_.0 e in
      let made = c.make.ensures in (
        ap (λ (s : PlainWide). s.walk.tries) made ∙ made_all c.args.self.now c.args.tries (sym (ap (λ
            (s : PlainWide). s.walk.done) made) ∙ undone),
        undone,
      ),
  λ h. c.progress.ensures.open_.1 h.1,
)

pub returns-clause-spare : goal.returns-clause-spare
returns-clause-spare c =
    subst (λ (s : PlainWide). s.spare + s.walk.tries ≡ c.args.self.now.spare + c.args.self.now.walk.tries)
    (sym c.make.ensures) (spare_falls c.args.self.now c.args.tries c.requires)

pub returns-clause-best : goal.returns-clause-best
returns-clause-best c = λ e. search_best c.make.new.self c.progress.ensures.search (c.progress.ensures.done.0 e)

pub returns-clause-accepted : goal.returns-clause-accepted
returns-clause-accepted c = λ e. search_accepted c.make.new.self c.progress.ensures.search (c.progress.ensures.done.0 e)

pub returns-clause-few : goal.returns-clause-few
returns-clause-few c = search_few c.make.new.self c.progress.ensures.search

pub returns-clause-most : goal.returns-clause-most
returns-clause-most c = search_tries c.make.new.self c.progress.ensures.search
