use Rattle.std.proofs.Common.{arith, sym, ◌∙◌, ◌+◌, ◌≤◌, length}
use Rattle.closing_log.specs.Reading.{is_letter}
use Rattle.closing_log.proofs.Loops.{prefix_block}
use Rattle.closing_log.proofs.reading.blocks_len.Goals as goal

pub loop-front-preserved : goal.loop-front-preserved
loop-front-preserved c =
    let front = c.loop-front.front in
    let within : front + 64 ≤ length c.args.bytes.now = omega (arith, c.loop-front-test.true, c.loop-front.invariant.within) in
    record {
      within = within;
      letters = prefix_block is_letter c.args.bytes.now front (front + 64) _ (omega arith) within (sym c.are_letters.ensures ∙ c.if-not-are_letters.false) c.loop-front.invariant.letters;
    }
