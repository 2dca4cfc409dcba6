use Rattle.std.proofs.Common.{◌≡◌, ◌∙◌, ℕ, get_or, min, sym, ap, arith}
use Rattle.payment_states.specs.Graph.{below}
use Rattle.payment_states.proofs.SpanSteps.{up_all, up_step}
use Rattle.payment_states.proofs.spans.count_ancestors.Goals as goal

pub loop-first-init : goal.loop-first-init
unfolding below
loop-first-init c = λ i lt. let zero : 0 ≡ min 4294967295 0 = omega arith in c.requires.none i ∙ zero

pub loop-first-preserved : goal.loop-first-preserved
loop-first-preserved c = λ i lt.
    up_step c.args.parents.now c.args.counted.now i c.loop-first.first c.span_end-first.result c.word_of-word.result (get_or c.loop-first.numbers i 0) (get_or c.count_up.new.numbers i 0)
    c.requires.order lt c.requires.counted c.word_of-word.ensures c.span_end-first.ensures.span (c.loop-first.invariant i lt) (λ le. c.count_up.ensures.more i le lt) (λ b. c.count_up.ensures.others i b)

pub returns : goal.returns
returns c = λ i lt.
    c.loop-first.invariant i lt ∙ ap (λ n. min 4294967295 n) (up_all c.args.parents.now c.args.counted.now i c.loop-first.first c.requires.counted c.loop-first-test.false)
