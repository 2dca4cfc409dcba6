use Rattle.std.proofs.Common.{◌≡◌, arith, ap, ◌∙◌}
use Rattle.walk_engine.specs.Search.{standing}
use Rattle.walk_engine.proofs.RestoreLaws.{standing_is}
use Rattle.walk_engine.proofs.TurnLaws.{tries_within_letters}
use Rattle.walk_engine.proofs.search.Search.position.Goals as goal

pub overflow_add-result : goal.overflow_add-result
overflow_add-result c =
    let s = c.self.inside in
    let most = tries_within_letters s.prepared s.stack s.next s.best s.made s.done s.letters.items s.kept s.spare
    c.self.invariant.0 c.self.invariant.1.front in
    omega (arith, most, c.self.invariant.1.counted)

pub returns : goal.returns
returns c =
    let s = c.self.inside in
    let chosen : c.new-chosen.result ≡ s.stack.places.items = cc (c.in_ok-from_slice.ensures.items) in
    standing_is s.prepared s.stack s.next s.best s.made s.done s.letters.items s.kept s.spare s.earlier
    c.new-chosen.result c.in_ok-best.best chosen c.in_ok-best.ensures c.self.invariant.1.counted
    ∙ ap standing c.self.view_is
