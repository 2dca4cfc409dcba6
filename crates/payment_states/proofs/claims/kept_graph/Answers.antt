use Rattle.std.proofs.Common.{◌∙◌, ℕ, false, List, [], ◌∷◌, ◌++◌, filter, map, sym, ap, arith}
use Rattle.std.specs.Prelude.{slice_index_or}
use Rattle.std.proofs.lemmas.List.{map_more, take_all}
use Rattle.payment_states.proofs.claims.kept_graph.Goals as goal

pub loop-place-preserved : goal.loop-place-preserved
loop-place-preserved c =
    let f : List ℕ → List ℕ = filter (λ j. slice_index_or c.args.flags.now j false) in (
      c.in_ok-push.ensures.items
          ∙ (λ k. c.loop-place.invariant.0 k ++ (c.new.ensures ∙ c.in_ok-left.ensures ∙ ap f (c.as_slice.ensures ∙ c.index-parents-place.is)) k ∷ [])
          ∙ sym (map_more f c.args.parents.now c.loop-place.place c.index-parents-place.result c.loop-place-test.true),
      omega (arith, c.in_ok-push.ensures.len),
    )

pub returns-clause-kept : goal.returns-clause-kept
returns-clause-kept c =
    let f : List ℕ → List ℕ = filter (λ j. slice_index_or c.args.flags.now j false) in
    c.loop-place.invariant.0 ∙ ap (λ (ps : List (List ℕ)). map f ps) (take_all c.loop-place.place c.args.parents.now c.loop-place-test.false)
