use Rattle.std.proofs.Common.{◌≡◌, ◌∙◌, ◌+◌, ◌≤◌, ◌||◌, ◌&&◌, ℕ, false, get_or, sym, ap, arith}
use Rattle.std.proofs.lemmas.Bool.{le-ltb}
use Rattle.payment_states.proofs.WordSteps.{all_flags, flag_or, no_flag, one_flag}
use Rattle.payment_states.proofs.words.word_of.Goals as goal

pub loop-place-init : goal.loop-place-init
loop-place-init c = λ k lt. no_flag k ∙ sym (ap (λ b. b && get_or c.args.flags.now (c.args.first + k) false) (le-ltb (c.args.first + k) c.args.first (omega arith)))

pub loop-place-preserved : goal.loop-place-preserved
loop-place-preserved c = λ k lt.
    let from : c.args.first ≤ c.loop-place.place = c.loop-place.auto.place in
    flag_or c.loop-place.word c.flag_if-word.result k
    ∙ (λ j. c.loop-place.invariant k lt j || c.flag_if-word.ensures k j)
    ∙ one_flag c.args.flags.now c.args.first c.loop-place.place k from

pub returns : goal.returns
returns c = λ k lt.
    c.loop-place.invariant k lt ∙ all_flags c.args.flags.now c.args.first c.span_end-end.result c.loop-place.place k lt c.loop-place-test.false c.span_end-end.ensures.span
