use Rattle.std.proofs.Common.{◌≡◌, ◌∙◌, length, arith, sym}
use Rattle.std.proofs.lemmas.List.{append-nil}
use Rattle.command_work.proofs.LineLaws.{put_more, short_none}
use Rattle.command_work.proofs.lines.put_short.Goals as goal

pub loop-rest-preserved : goal.loop-rest-preserved
loop-rest-preserved c =
    put_more c.loop-rest.out.items c.put_line.new.out.items c.loop-rest.rest.now c.split_at.result.0.now c.split_at.result.1.now c.line_len.result c.line_len.ensures.line c.split_at.ensures.front c.split_at.ensures.back (c.in_ok-put_line.ensures {u = tt})
    ∙ c.loop-rest.invariant

pub returns : goal.returns
returns c =
    let none : length c.loop-rest.rest.now ≡ 0 = grind arith in
    sym (append-nil c.loop-rest.out.items) ∙ (rw (short_none c.loop-rest.rest.now none) at c.loop-rest.invariant)
