use Rattle.std.specs.Vec.{vec_capacity}
use Rattle.std.proofs.Common.{◌≡◌, ◌≤◌, false, arith, ap, ◌∙◌}
use Rattle.wide_search.specs.Search.{PlainWide, plain, after, if_done}
use Rattle.wide_search.proofs.GlideLaws.{glided, glided_kept, glided_search}
use Rattle.wide_search.proofs.SearchLaws.{search_next}
use Rattle.wide_search.proofs.wide.Wide.glide_on.Goals as goal

pub glide-run-requires-clause-below : goal.glide-run-requires-clause-below
glide-run-requires-clause-below c =
    let s = c.self.inside in
    let undone : s.done ≡ false = ap (λ (v : PlainWide). v.walk.done) c.self.view_is ∙ c.requires.open_ in
    search_next (plain s.prepared s.stack s.next s.best s.made s.done s.letters.items s.spare) c.self.invariant.0 undone

pub overflow_add-self : goal.overflow_add-self
overflow_add-self c =
    let s = c.self.inside in
    let undone : s.done ≡ false = ap (λ (v : PlainWide). v.walk.done) c.self.view_is ∙ c.requires.open_ in
    let few : c.glide-run.result.made ≤ s.spare = omega (arith, ap (λ (v : PlainWide). v.spare) c.self.view_is, c.requires.spare, c.glide-run.ensures.few) in
    omega (arith, c.self.invariant.1.counted, few, ap if_done undone, c.self.invariant.1.room, s.letters.small)

pub invariant_of-self : goal.invariant_of-self
invariant_of-self c =
    let s = c.self.inside in
    let undone : s.done ≡ false = ap (λ (v : PlainWide). v.walk.done) c.self.view_is ∙ c.requires.open_ in
    let few : c.glide-run.result.made ≤ s.spare = omega (arith, ap (λ (v : PlainWide). v.spare) c.self.view_is, c.requires.spare, c.glide-run.ensures.few) in (
      glided_search s.prepared s.stack s.next s.best s.made s.done s.letters.items (vec_capacity s.letters)
          s.spare c.self.invariant.0 c.self.invariant.1 undone c.glide-run.result.next
          c.glide-run.result.made c.glide-run.new.letters.items (vec_capacity c.glide-run.new.letters)
          c.glide-run.ensures.glided c.glide-run.ensures.stack c.glide-run.ensures.room few,
      glided_kept s.prepared s.stack s.next s.best s.made s.done s.letters.items (vec_capacity s.letters)
          s.spare c.self.invariant.0 c.self.invariant.1 undone c.glide-run.result.next
          c.glide-run.result.made c.glide-run.new.letters.items (vec_capacity c.glide-run.new.letters)
          c.glide-run.ensures.glided c.glide-run.ensures.stack c.glide-run.ensures.room few,
    )

pub returns-clause-made : goal.returns-clause-made
returns-clause-made c =
    let s = c.self.inside in
    let undone : s.done ≡ false = ap (λ (v : PlainWide). v.walk.done) c.self.view_is ∙ c.requires.open_ in
    let few : c.glide-run.result.made ≤ s.spare = omega (arith, ap (λ (v : PlainWide). v.spare) c.self.view_is, c.requires.spare, c.glide-run.ensures.few) in
    glided s.prepared s.stack s.next s.best s.made s.done s.letters.items (vec_capacity s.letters)
    s.spare c.self.invariant.0 c.self.invariant.1 undone c.glide-run.result.next
    c.glide-run.result.made c.glide-run.new.letters.items (vec_capacity c.glide-run.new.letters)
    c.glide-run.ensures.glided c.glide-run.ensures.stack c.glide-run.ensures.room few
    ∙ ap (λ (v : PlainWide). after v c.glide-run.result.made) c.self.view_is
