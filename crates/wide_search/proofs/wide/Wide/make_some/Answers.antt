use Rattle.std.proofs.Common.{◌<◌, ◌≤◌, arith, subst, sym, ap, ◌∙◌}
use Rattle.wide_search.specs.Search.{PlainWide, after}
use Rattle.wide_search.proofs.SearchLaws.{in_pieces, some_spare}
use Rattle.wide_search.proofs.wide.Wide.make_some.Goals as goal

pub turn-requires-clause-spare : goal.turn-requires-clause-spare
turn-requires-clause-spare c =
    let more : c.glide_on-made.result < c.args.tries = omega (arith, c.glide_on-made.ensures.few, c.if-made-tries.false) in
    subst (λ (s : PlainWide). 1 ≤ s.spare) (sym c.glide_on-made.ensures.made)
    (some_spare c.args.self.now c.glide_on-made.result c.args.tries more c.requires.spare)

pub returns-clause-made : goal.returns-clause-made
returns-clause-made c =
    c.turn.ensures ∙ (ap (λ (s : PlainWide). after s 1) c.glide_on-made.ensures.made
    ∙ in_pieces c.args.self.now c.glide_on-made.result 1)
