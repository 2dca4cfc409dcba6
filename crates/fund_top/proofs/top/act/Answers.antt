use Rattle.command_end.specs.Names.{plain_sources}
use Rattle.command_inputs.specs.Names.{plain_job, plain_payment}
use Rattle.further_commands.specs.Command.{plain as plain_further}
use Rattle.fund_top.proofs.CommandEnds.{check_ends, desk_ends, further_ends, listing_ends, load_ends, payment_ends, resume_ends}
use Rattle.fund_top.proofs.top.act.Goals as goal

pub returns-in-Coins-clause-ends : goal.returns-in-Coins-clause-ends
returns-in-Coins-clause-ends g c =
    rw c.in-Coins.is (listing_ends g.H.Shelf.tells g.O.Sink.tells g.K.Keeper.tells (plain_sources c.in-Coins.sources) (g.H.Shelf.view c.args.shelf.now) (g.H.Shelf.view c.coins.new.shelf) (g.O.Sink.view c.args.out.now) (g.O.Sink.view c.coins.new.out) (g.K.Keeper.view c.args.keeper.now) (g.K.Keeper.view c.args.keeper.now) c.coins.result c.coins.ensures.ends)

pub returns-in-Fund-clause-ends : goal.returns-in-Fund-clause-ends
returns-in-Fund-clause-ends g c =
    rw c.in-Fund.is (payment_ends g.H.Shelf.tells g.O.Sink.tells g.K.Keeper.tells (plain_sources c.in-Fund.sources) (plain_payment c.in-Fund.payment) (plain_job c.in-Fund.job) (g.H.Shelf.view c.args.shelf.now) (g.H.Shelf.view c.fund.new.shelf) (g.O.Sink.view c.args.out.now) (g.O.Sink.view c.fund.new.out)
    (g.K.Keeper.view c.args.keeper.now) (g.K.Keeper.view c.fund.new.keeper) c.fund.result c.fund.ensures.ends)

pub returns-in-Fund-clause-asked : goal.returns-in-Fund-clause-asked
returns-in-Fund-clause-asked g c = rw c.in-Fund.is (λ told. (c.fund.ensures.asks.asked told, c.fund.ensures.asks.none_behind told))

pub returns-in-Coins-clause-asked : goal.returns-in-Coins-clause-asked
returns-in-Coins-clause-asked g c = rw c.in-Coins.is (λ told. (c.coins.ensures.asked told, c.coins.ensures.refused_alone told))

pub returns-in-Resume-clause-asked : goal.returns-in-Resume-clause-asked
returns-in-Resume-clause-asked g c = rw c.in-Resume.is (λ told. (c.resume.ensures.asks.asked told, c.resume.ensures.asks.none_behind told))

pub returns-in-Resume-clause-ends : goal.returns-in-Resume-clause-ends
returns-in-Resume-clause-ends g c =
    rw c.in-Resume.is (resume_ends g.H.Shelf.tells g.O.Sink.tells g.K.Keeper.tells (plain_sources c.in-Resume.sources) (plain_payment c.in-Resume.payment) c.in-Resume.job.now (g.H.Shelf.view c.args.shelf.now) (g.H.Shelf.view c.resume.new.shelf) (g.O.Sink.view c.args.out.now) (g.O.Sink.view c.resume.new.out)
    (g.K.Keeper.view c.args.keeper.now) (g.K.Keeper.view c.resume.new.keeper) c.resume.result c.resume.ensures.ends)

pub returns-in-Check-clause-ends : goal.returns-in-Check-clause-ends
returns-in-Check-clause-ends g c =
    rw c.in-Check.is (check_ends g.H.Shelf.tells g.O.Sink.tells g.K.Keeper.tells (plain_sources c.in-Check.sources) (plain_payment c.in-Check.payment) c.in-Check.report.now (g.H.Shelf.view c.args.shelf.now) (g.H.Shelf.view c.check.new.shelf) (g.O.Sink.view c.args.out.now) (g.O.Sink.view c.check.new.out)
    (g.K.Keeper.view c.args.keeper.now) (g.K.Keeper.view c.args.keeper.now) c.check.result c.check.ensures.ends)

pub returns-in-Check-clause-asked : goal.returns-in-Check-clause-asked
returns-in-Check-clause-asked g c = rw c.in-Check.is (λ told. (c.check.ensures.asks.asked told, c.check.ensures.asks.none_behind told, c.check.ensures.asks.no_log told, c.check.ensures.asks.unread told))

pub work-requires : goal.work-requires
work-requires g c =
    let range = rw c.in-Work.is at c.requires in
    record { some = range.0; most = range.1 }

pub returns-in-Work-clause-ends : goal.returns-in-Work-clause-ends
returns-in-Work-clause-ends g c =
    rw c.in-Work.is (load_ends g.H.Shelf.tells g.O.Sink.tells g.K.Keeper.tells c.in-Work.number c.in-Work.count (g.H.Shelf.view c.args.shelf.now) (g.H.Shelf.view c.args.shelf.now) (g.O.Sink.view c.args.out.now) (g.O.Sink.view c.work.new.out)
    (g.K.Keeper.view c.args.keeper.now) (g.K.Keeper.view c.args.keeper.now) c.work.result c.work.ensures.ends)

pub returns-in-Desk-clause-ends : goal.returns-in-Desk-clause-ends
returns-in-Desk-clause-ends g c =
    rw c.in-Desk.is (desk_ends g.H.Shelf.tells g.O.Sink.tells g.K.Keeper.tells (plain_sources c.in-Desk.sources) c.in-Desk.script.now (g.H.Shelf.view c.args.shelf.now) (g.H.Shelf.view c.desk.new.shelf) (g.O.Sink.view c.args.out.now) (g.O.Sink.view c.desk.new.out)
    (g.K.Keeper.view c.args.keeper.now) (g.K.Keeper.view c.args.keeper.now) c.desk.result c.desk.ensures.ends)

pub returns-in-Desk-clause-asked : goal.returns-in-Desk-clause-asked
returns-in-Desk-clause-asked g c = rw c.in-Desk.is (λ told. (c.desk.ensures.asked told, c.desk.ensures.none_behind told))

pub returns-in-Further-clause-ends : goal.returns-in-Further-clause-ends
returns-in-Further-clause-ends g c =
    rw c.in-Further.is (further_ends g.H.Shelf.tells g.O.Sink.tells g.K.Keeper.tells (plain_further c.in-Further.command) (g.H.Shelf.view c.args.shelf.now) (g.H.Shelf.view c.act.new.shelf) (g.O.Sink.view c.args.out.now) (g.O.Sink.view c.act.new.out)
    (g.K.Keeper.view c.args.keeper.now) (g.K.Keeper.view c.args.keeper.now) c.act.result c.act.ensures.ends)

-- ---- failed puts

pub returns-in-Coins-clause-all_put : goal.returns-in-Coins-clause-all_put
returns-in-Coins-clause-all_put g c = c.coins.ensures.all_put

pub returns-in-Fund-clause-all_put : goal.returns-in-Fund-clause-all_put
returns-in-Fund-clause-all_put g c = c.fund.ensures.honest.all_put

pub returns-in-Resume-clause-all_put : goal.returns-in-Resume-clause-all_put
returns-in-Resume-clause-all_put g c = c.resume.ensures.honest.all_put

pub returns-in-Check-clause-all_put : goal.returns-in-Check-clause-all_put
returns-in-Check-clause-all_put g c = c.check.ensures.all_put

pub returns-in-Work-clause-all_put : goal.returns-in-Work-clause-all_put
returns-in-Work-clause-all_put g c = c.work.ensures.all_put

pub returns-in-Desk-clause-all_put : goal.returns-in-Desk-clause-all_put
returns-in-Desk-clause-all_put g c = c.desk.ensures.all_put

pub returns-in-Further-clause-all_put : goal.returns-in-Further-clause-all_put
returns-in-Further-clause-all_put g c = c.act.ensures.all_put

-- ---- failed reads, writes and keepings

pub returns-in-Fund-clause-all_read : goal.returns-in-Fund-clause-all_read
returns-in-Fund-clause-all_read g c = c.fund.ensures.honest.all_read

pub returns-in-Resume-clause-all_read : goal.returns-in-Resume-clause-all_read
returns-in-Resume-clause-all_read g c = c.resume.ensures.honest.all_read

pub returns-in-Fund-clause-all_written : goal.returns-in-Fund-clause-all_written
returns-in-Fund-clause-all_written g c = c.fund.ensures.honest.all_written

pub returns-in-Resume-clause-all_written : goal.returns-in-Resume-clause-all_written
returns-in-Resume-clause-all_written g c = c.resume.ensures.honest.all_written

pub returns-in-Fund-clause-unfailed : goal.returns-in-Fund-clause-unfailed
returns-in-Fund-clause-unfailed g c = c.fund.ensures.honest.unfailed

pub returns-in-Resume-clause-unfailed : goal.returns-in-Resume-clause-unfailed
returns-in-Resume-clause-unfailed g c = c.resume.ensures.honest.unfailed
