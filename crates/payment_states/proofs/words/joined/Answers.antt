use Rattle.std.proofs.Common.{◌≡◌, ◌∙◌, ◌||◌, ◌&&◌, ℕ, Bool, List, take, get_or, sym, ap}
use Rattle.std.specs.Prelude.{nat_le}
use Rattle.std.specs.List.{list_any}
use Rattle.std.proofs.lemmas.List.{take_all}
use Rattle.std.proofs.lemmas.List.Folds.{list_any_more}
use Rattle.payment_states.specs.Words.{has_flag}
use Rattle.payment_states.proofs.WordSteps.{flag_or, or_group, or_none}
use Rattle.payment_states.proofs.words.joined.Goals as goal

pub loop-place-init : goal.loop-place-init
loop-place-init c = λ k. sym (or_none (has_flag c.args.own k))

pub loop-place-preserved : goal.loop-place-preserved
loop-place-preserved c = λ k.
    let own = has_flag c.args.own k in
    let test : ℕ → Bool = λ p. nat_le c.args.first p && has_flag (get_or c.args.words.now p 0) k in
    let xs = c.args.places.now in
    let i = c.loop-place.place-index in
    flag_or c.loop-place.word c.word_from-word.result k
    ∙ (λ j. c.loop-place.invariant k j || c.word_from-word.ensures k j)
    ∙ or_group own (list_any test (take i xs)) (test (get_or xs i 0))
    ∙ ap (λ b. own || b) (sym (list_any_more test xs i 0 c.loop-place-test.true))

pub returns : goal.returns
returns c = λ k.
    c.loop-place.invariant k
    ∙ ap (λ (ps : List ℕ). has_flag c.args.own k || list_any (λ p. nat_le c.args.first p && has_flag (get_or c.args.words.now p 0) k) ps) (take_all c.loop-place.place-index c.args.places.now c.loop-place-test.false)
