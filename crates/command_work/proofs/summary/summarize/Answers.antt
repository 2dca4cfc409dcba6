use Rattle.std.proofs.Common.{[], refl}
use Rattle.command_work.proofs.SummaryLaws.{summed}
use Rattle.command_work.proofs.summary.summarize.Goals as goal

pub returns : goal.returns
returns c =
    summed c.args.number c.args.count c.args.report.now c.write_title.new.out.items c.put_short.new.out.items c.write_name.new.out.items
    (c.in_ok-write_title.ensures.feeds [] c.new-text.ensures.items)
    (c.in_ok-put_short.ensures {u = tt})
    (c.in_ok-write_name.ensures.feeds c.put_short.new.out.items refl)
