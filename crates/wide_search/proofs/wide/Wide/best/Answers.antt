use Rattle.std.proofs.Common.{subst}
use Rattle.wide_check.specs.Wide.{IsWideFit}
use Rattle.wide_search.specs.Search.{PlainWide, plain}
use Rattle.wide_search.proofs.SearchLaws.{search_fit}
use Rattle.wide_search.proofs.wide.Wide.best.Goals as goal

pub returns-then-self-clause-fit : goal.returns-then-self-clause-fit
returns-then-self-clause-fit c =
    let s = c.self.inside in
    subst (λ (v : PlainWide). IsWideFit v.problem v.walk.best) c.self.view_is (search_fit (plain s.prepared s.stack s.next
    s.best s.made s.done s.letters.items s.spare) c.self.invariant.0)
