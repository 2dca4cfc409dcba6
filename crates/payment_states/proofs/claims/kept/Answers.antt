use Rattle.std.proofs.Common.{◌≡◌, ◌∙◌, ◌++◌, ℕ, Bool, false, cond, List, [], ◌∷◌, filter, get_or, Vec, Global, sym, ap}
use Rattle.std.specs.Prelude.{slice_index_or}
use Rattle.std.proofs.lemmas.List.{append-nil, take_all}
use Rattle.std.proofs.lemmas.List.Elements.{filter_more}
use Rattle.payment_states.proofs.claims.kept.Goals as goal
use Rattle.payment_states.proofs.claims.kept.Goals.{then-flag_at+in_ok-push, else-flag_at}

pub loop-place-init : goal.loop-place-init
loop-place-init c = c.new-left.ensures.items

pub loop-place-preserved : goal.loop-place-preserved
loop-place-preserved c =
    let x : ℕ = get_or c.args.places.now c.loop-place.place-index 0 in
    let old : List ℕ = c.loop-place.left.items in
    let p : ℕ → Bool = λ j. slice_index_or c.args.flags.now j false in
    let more : c.if-flag_at.left.items ≡ old ++ cond (p x) (x ∷ []) [] =
    elim c.if-flag_at.branch [
      | then-flag_at+in_ok-push w ↦ ap (λ (v : Vec ℕ Global). v.items) w.left-is ∙ w.in_ok-push.ensures.items ∙ ap (λ b. old ++ cond b (x ∷ []) []) (sym (sym c.flag_at.ensures ∙ w.if-flag_at.true))
      | else-flag_at w ↦ ap (λ (v : Vec ℕ Global). v.items) w.left-is ∙ sym (append-nil old) ∙ ap (λ b. old ++ cond b (x ∷ []) []) (sym (sym c.flag_at.ensures ∙ w.if-flag_at.false))
    ]
    in
    more
    ∙ ap (λ (l : List ℕ). l ++ cond (p x) (x ∷ []) []) c.loop-place.invariant
    ∙ sym (filter_more p c.args.places.now c.loop-place.place-index 0 c.loop-place-test.true)

pub returns : goal.returns
returns c =
    c.loop-place.invariant
    ∙ ap (λ (js : List ℕ). filter (λ j. slice_index_or c.args.flags.now j false) js) (take_all c.loop-place.place-index c.args.places.now c.loop-place-test.false)
