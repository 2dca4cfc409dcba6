use Rattle.std.proofs.Common.{◌≡◌, ◌∙◌, ◌++◌, Bool, cond, List, [], ◌∷◌, Vec, Global, sym, ap}
use Rattle.std.proofs.lemmas.List.{append-nil}
use Rattle.std.proofs.lemmas.List.Elements.{filter_more}
use Rattle.coin_candidates.specs.declared.candidate.Candidate.{Candidate}
use Rattle.output_groups.specs.Measures.{is_useful}
use Rattle.output_groups.proofs.forming.useful.Goals as goal
use Rattle.output_groups.proofs.forming.useful.Goals.{then-is_useful+in_ok-push, else-is_useful}

pub loop-candidate-preserved : goal.loop-candidate-preserved
loop-candidate-preserved c =
    let x : Candidate = c.candidate-item.result in
    let p : Candidate → Bool = is_useful c.args.rate in
    let old : List Candidate = c.loop-candidate.useful.items in
    let more : c.if-is_useful.useful.items ≡ old ++ cond (p x) (x ∷ []) [] =
    elim c.if-is_useful.branch [
      | then-is_useful+in_ok-push w ↦ ap (λ (v : Vec Candidate Global). v.items) w.useful-is ∙ w.in_ok-push.ensures.items ∙ ap (λ (t : Candidate). old ++ t ∷ []) w.new.ensures ∙ ap (λ b. old ++ cond b (x ∷ []) []) (sym (sym c.is_useful.ensures ∙ w.if-is_useful.true))
      | else-is_useful w ↦ ap (λ (v : Vec Candidate Global). v.items) w.useful-is ∙ sym (append-nil old) ∙ ap (λ b. old ++ cond b (x ∷ []) []) (sym (sym c.is_useful.ensures ∙ w.if-is_useful.false))
    ]
    in
    more
    ∙ (λ k. c.loop-candidate.invariant k ++ cond (p (c.candidate-item.is k)) (c.candidate-item.is k ∷ []) [])
    ∙ sym (filter_more p c.args.candidates.now c.loop-candidate.candidate-index x c.loop-candidate-test.true)
