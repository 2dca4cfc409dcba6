use Rattle.std.proofs.Common.{◌∙◌, arith}
use Rattle.fund_shelf.proofs.Parts.{put_more}
use Rattle.fund_shelf.proofs.pieces.put_all.Goals as goal

pub putting-preserved : goal.putting-preserved
putting-preserved g c = record {
  in_range = omega (arith, c.in_ok-count.ensures.bound);
  put = λ told. put_more _ _ _ _ _ _ (c.putting.invariant.put told) (c.in_ok-count.ensures.wrote told);
  faults = c.in_ok-count.ensures.unfailed ∙ c.putting.invariant.faults;
  refusals = c.in_ok-count.ensures.unrefused ∙ c.putting.invariant.refusals;
}
