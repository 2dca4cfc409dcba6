use Rattle.std.proofs.Common.{◌∙◌, ◌++◌, List, [], ◌∷◌, take, get_or, append_assoc, sym, ap}
use Rattle.std.proofs.lemmas.List.{take_more}
use Rattle.coin_candidates.specs.declared.candidate.Candidate.{Candidate}
use Rattle.output_groups.proofs.groups.add_copies.Goals as goal

pub loop-lent-preserved : goal.loop-lent-preserved
loop-lent-preserved c =
    let x : Candidate = c.lent-item.result in
    let xs = c.args.coins.now in
    let i = c.loop-lent.lent-index in
    let old : List Candidate = c.args.copies.now.items in
    c.in_ok-push.ensures.items
    ∙ (λ k. c.loop-lent.invariant k ++ (c.in_ok-copy.ensures ∙ c.coin.ensures ∙ c.lent-item.is) k ∷ [])
    ∙ append_assoc old (take i xs) (get_or xs i x ∷ [])
    ∙ ap (λ (l : List Candidate). old ++ l) (sym (take_more xs i x c.loop-lent-test.true))
