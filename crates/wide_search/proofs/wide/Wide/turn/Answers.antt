use Rattle.std.specs.Vec.{vec_capacity}
use Rattle.std.proofs.Common.{◌≡◌, ◌≤◌, false, arith, ap, ◌∙◌}
use Rattle.wide_search.specs.Search.{PlainWide, plain, after}
use Rattle.wide_search.proofs.TurnLaws.{turned, turned_kept, turned_search}
use Rattle.wide_search.proofs.SearchLaws.{search_next}
use Rattle.wide_search.proofs.wide.Wide.turn.Goals as goal

pub step-stop-requires-clause-below : goal.step-stop-requires-clause-below
step-stop-requires-clause-below c =
    let s = c.self.inside in
    let undone : s.done ≡ false = ap (λ (v : PlainWide). v.walk.done) c.self.view_is ∙ c.requires.open_ in
    search_next (plain s.prepared s.stack s.next s.best s.made s.done s.letters.items s.spare) c.self.invariant.0 undone

pub overflow_add-self : goal.overflow_add-self
overflow_add-self c =
    let s = c.self.inside in
    omega (arith, c.self.invariant.1.counted, s.letters.small)

pub invariant_of-self : goal.invariant_of-self
invariant_of-self c =
    let s = c.self.inside in
    let undone : s.done ≡ false = ap (λ (v : PlainWide). v.walk.done) c.self.view_is ∙ c.requires.open_ in
    let some : 1 ≤ s.spare = omega (arith, ap (λ (v : PlainWide). v.spare) c.self.view_is, c.requires.spare) in (
      turned_search s.prepared s.stack s.next s.best s.made s.done s.letters.items
          (vec_capacity s.letters) s.spare c.self.invariant.0 c.self.invariant.1 undone some
          c.step-stop.new.stack c.step-stop.new.best c.step-stop.result c.step-stop.new.letters.items
          (vec_capacity c.step-stop.new.letters) c.step-stop.ensures.walked c.step-stop.ensures.best
          c.step-stop.ensures.is c.step-stop.ensures.room,
      turned_kept s.prepared s.stack s.next s.best s.made s.done s.letters.items
          (vec_capacity s.letters) s.spare c.self.invariant.0 c.self.invariant.1 undone some
          c.step-stop.new.stack c.step-stop.new.best c.step-stop.result c.step-stop.new.letters.items
          (vec_capacity c.step-stop.new.letters) c.step-stop.ensures.walked c.step-stop.ensures.best
          c.step-stop.ensures.is c.step-stop.ensures.room,
    )

pub returns : goal.returns
returns c =
    let s = c.self.inside in
    let undone : s.done ≡ false = ap (λ (v : PlainWide). v.walk.done) c.self.view_is ∙ c.requires.open_ in
    let some : 1 ≤ s.spare = omega (arith, ap (λ (v : PlainWide). v.spare) c.self.view_is, c.requires.spare) in
    turned s.prepared s.stack s.next s.best s.made s.done s.letters.items
    (vec_capacity s.letters) s.spare c.self.invariant.0 c.self.invariant.1 undone some
    c.step-stop.new.stack c.step-stop.new.best c.step-stop.result c.step-stop.new.letters.items
    (vec_capacity c.step-stop.new.letters) c.step-stop.ensures.walked c.step-stop.ensures.best
    c.step-stop.ensures.is c.step-stop.ensures.room
    ∙ ap (λ (v : PlainWide). after v 1) c.self.view_is
