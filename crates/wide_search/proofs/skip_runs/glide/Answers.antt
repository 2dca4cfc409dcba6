use Rattle.std.proofs.Common.{arith}
use Rattle.wide_search.specs.Best.{plain_best}
use Rattle.wide_search.proofs.GlideLaws.{drops_length, glide_more}
use Rattle.wide_search.proofs.WayLaws.{stack_wider}
use Rattle.wide_search.proofs.skip_runs.glide.Goals as goal

pub gliding-preserved : goal.gliding-preserved
gliding-preserved c =
    let p = c.args.prepared.now in
    let mid = c.gliding.letters.items in
    let new = c.drop_place-next.new.letters.items in
    let long = drops_length p c.gliding.next c.in-Some.reason mid new c.drop_place-next.ensures.letters in
    record {
      few = omega (arith, c.gliding-test.true);
      stack = stack_wider p c.gliding.next c.drop_place-next.result c.args.stack.now (omega
          (arith, c.drop_place-next.ensures.behind)) c.gliding.invariant.stack;
      room = omega (arith, long, c.gliding-test.true, c.gliding.invariant.room, c.drop_place-next.ensures.room);
      grows = omega (arith, c.gliding.invariant.grows, c.drop_place-next.ensures.room);
      glided = glide_more p (plain_best c.args.best.now) c.args.stack.now.places.items c.args.from c.gliding.next
          c.drop_place-next.result c.gliding.made c.in-Some.reason c.args.letters.now.items mid new
          c.gliding.invariant.glided c.in-Some.ensures c.drop_place-next.ensures.letters
          c.drop_place-next.ensures.next;
    }
