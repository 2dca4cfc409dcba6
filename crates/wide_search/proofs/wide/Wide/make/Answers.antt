use Rattle.std.proofs.Common.{◌≡◌, ◌-◌, ◌≤◌, true, arith, subst, sym, ap, ◌∙◌}
use Rattle.wide_search.specs.Search.{PlainWide, after}
use Rattle.wide_search.proofs.SearchLaws.{done_early, in_pieces, spare_left}
use Rattle.wide_search.proofs.wide.Wide.make.Goals as goal

pub returns-then-is_done : goal.returns-then-is_done
returns-then-is_done c =
    let made = c.trying.invariant.self in
    let done : (after c.args.self.now c.trying.made).walk.done ≡ true = sym (ap (λ
    (s : PlainWide). s.walk.done) made) ∙ (sym c.is_done.ensures.done ∙ c.if-is_done.true) in
    made ∙ done_early c.args.self.now c.trying.made c.args.tries c.trying.invariant.within done

pub make_some-made-requires-clause-spare : goal.make_some-made-requires-clause-spare
make_some-made-requires-clause-spare c =
    subst (λ (s : PlainWide). c.args.tries - c.trying.made ≤ s.spare) (sym c.trying.invariant.self)
    (spare_left c.args.self.now c.trying.made c.args.tries c.requires)

pub trying-preserved : goal.trying-preserved
trying-preserved c =
    record {
      within = omega (arith, c.trying-test.true, c.make_some-made.ensures.few);
      self = c.make_some-made.ensures.made ∙ (ap (λ (s : PlainWide). after s c.make_some-made.result) c.trying.invariant.self
          ∙ in_pieces c.args.self.now c.trying.made c.make_some-made.result);
    }
