use Rattle.std.proofs.Common.{◌∙◌, min, ap, arith}
use Rattle.payment_states.proofs.ReachSteps.{later, ups_are}
use Rattle.payment_states.proofs.counts.count_kin.Goals as goal

pub tally-requires : goal.tally-requires
tally-requires c = record {
  counted = omega arith;
  low = c.mark_kin-low.ensures.least;
  high = omega arith;
  below = c.mark_kin-low.ensures.below;
  above = λ j b. c.mark_kin-low.ensures.marks j ∙ later c.args.parents.now c.args.place j c.requires.order c.requires.place b;
}

pub returns : goal.returns
returns c = c.tally.ensures ∙ ap (λ n. min 4294967295 n) (ups_are c.args.parents.now c.args.counted.now c.mark_kin-low.new.marks c.args.place (omega arith) c.mark_kin-low.ensures.marks)
