use Rattle.std.proofs.Common.{◌≡◌, ◌∙◌, ◌≤◌, ℕ, get_or, min, sym, ap, arith}
use Rattle.payment_states.specs.Graph.{below}
use Rattle.payment_states.specs.Words.{has_flag}
use Rattle.payment_states.proofs.SpanSteps.{down_all, down_step}
use Rattle.payment_states.proofs.WordSteps.{no_flag}
use Rattle.payment_states.proofs.spans.count_descendants.Goals as goal

pub loop-first-init : goal.loop-first-init
unfolding below
loop-first-init c = record {
  counted = λ j. let zero : 0 ≡ min 4294967295 0 = omega arith in c.requires.none j ∙ zero;
  clean = λ j k small. ap (λ x. has_flag x k) (c.requires.clean j) ∙ no_flag k;
}

pub count_down-requires-clause-few : goal.count_down-requires-clause-few
count_down-requires-clause-few c = λ j. let is = c.loop-first.invariant.counted j in omega arith

pub loop-first-preserved : goal.loop-first-preserved
loop-first-preserved c = record {
  counted = λ j.
      down_step c.args.parents.now c.args.counted.now j c.loop-first.first c.span_end-first.result c.word_of-word.result (get_or c.loop-first.numbers j 0) (get_or c.count_down.new.numbers j 0)
      c.requires.counted c.word_of-word.ensures c.span_end-first.ensures.span (c.loop-first.invariant.counted j) (c.count_down.ensures.numbers j);
  clean = c.count_down.ensures.clean;
}

pub returns : goal.returns
returns c = λ j.
    c.loop-first.invariant.counted j ∙ ap (λ n. min 4294967295 n) (down_all c.args.parents.now c.args.counted.now j c.loop-first.first c.requires.counted c.loop-first-test.false)
