use Rattle.std.proofs.Common.{Some, List, ℕ, ap, ◌∙◌, arith}
use Rattle.keys_text.proofs.PathLoop.{letter, slash, refused, last_some, last_none}
use Rattle.keys_text.proofs.paths.steps_in.Goals as goal
use Rattle.keys_text.proofs.paths.steps_in.Goals.{then-text-i-eq47+in-Some+in_ok-push-in-Some, else-text-i-eq47}

pub returns-in-None : goal.returns-in-None
returns-in-None c = refused c.args.text.now c.loop-i.steps.items c.loop-i.start c.loop-i.i _ c.loop-i-test.true c.if-text-i-eq47.true c.in-None.ensures c.loop-i.invariant.read

pub loop-i-preserved : goal.loop-i-preserved
loop-i-preserved c = elim c.if-text-i-eq47.branch [
  | then-text-i-eq47+in-Some+in_ok-push-in-Some w ↦ record {
    within = omega (arith, w.start-is);
    read = rw (w.steps-is, w.start-is, w.in_ok-push-in-Some.ensures.items) (slash c.args.text.now c.loop-i.steps.items c.loop-i.start c.loop-i.i w.in-Some.index _ c.loop-i-test.true w.if-text-i-eq47.true w.in-Some.ensures c.loop-i.invariant.read);
  }
  | else-text-i-eq47 w ↦ record {
    within = omega (arith, w.start-is, c.loop-i.invariant.within);
    read = rw (w.steps-is, w.start-is) (letter c.args.text.now c.loop-i.steps.items c.loop-i.start c.loop-i.i _ c.loop-i.invariant.within c.loop-i-test.true w.if-text-i-eq47.false c.loop-i.invariant.read);
  }
]

pub returns-in_ok-push-in-Some-step_in : goal.returns-in_ok-push-in-Some-step_in
returns-in_ok-push-in-Some-step_in c =
    ap (λ (l : List ℕ). Some l) c.in_ok-push-in-Some-step_in.ensures.items ∙ last_some c.args.text.now c.loop-i.steps.items c.loop-i.start c.loop-i.i c.in-Some-step_in.index _ c.loop-i-test.false c.in-Some-step_in.ensures c.loop-i.invariant.read

pub returns-in-None-step_in : goal.returns-in-None-step_in
returns-in-None-step_in c = last_none c.args.text.now c.loop-i.steps.items c.loop-i.start c.loop-i.i _ c.loop-i-test.false c.in-None-step_in.ensures c.loop-i.invariant.read
