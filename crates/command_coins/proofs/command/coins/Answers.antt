use Rattle.std.proofs.Common.{string_bytes}
use Rattle.command_end.proofs.WholeLaws.{put_whole}
use Rattle.command_end.specs.Names.{plain_sources}
use Rattle.command_end.proofs.ChainLaws.{printed_read, stop_untold, stopped_asks}
use Rattle.command_coins.proofs.EndsLaws.{stop_ends}
use Rattle.command_coins.proofs.ListingLaws.{listing_ends}
use Rattle.command_coins.proofs.command.coins.Goals as goal

pub returns-in-Ok-clause-ends : goal.returns-in-Ok-clause-ends
returns-in-Ok-clause-ends g c =
    listing_ends _ _ (plain_sources c.args.sources.now) (string_bytes c.in-Ok.text) (g.H.Shelf.view c.args.shelf.now) (g.H.Shelf.view c.listed.new.shelf) (g.O.Sink.view c.args.out.now) (g.O.Sink.view c.put_report.new.out) c.put_report.result c.in-Ok.ensures.lists
    (rw c.as_bytes.ensures.value at c.put_report.ensures.ends)

pub returns-in-Ok-clause-unread_last : goal.returns-in-Ok-clause-unread_last
returns-in-Ok-clause-unread_last g c = λ t is. absurd (printed_read _ _ (g.O.Sink.view c.args.out.now) (g.O.Sink.view c.put_report.new.out) c.put_report.result c.put_report.ensures.ends is)

pub returns-in-Err-clause-unread_last : goal.returns-in-Err-clause-unread_last
returns-in-Err-clause-unread_last g c = λ t is.
    stopped_asks _ _ (plain_sources c.args.sources.now) c.in-Err.stop (g.H.Shelf.view c.args.shelf.now) (g.H.Shelf.view c.listed.new.shelf) (g.O.Sink.view c.args.out.now) (g.O.Sink.view c.refuse_chain.new.out) c.refuse_chain.result c.in-Err.ensures.stop c.refuse_chain.ensures.answered
    (c.in-Err.ensures.asked t) (c.in-Err.ensures.wallet_alone t) is

pub returns-in-Ok-clause-all_read : goal.returns-in-Ok-clause-all_read
returns-in-Ok-clause-all_read g c = λ other. c.in-Ok.ensures.all_read (λ file e. cc)

pub returns-in-Err-clause-all_read : goal.returns-in-Err-clause-all_read
returns-in-Err-clause-all_read g c = λ other. c.in-Err.ensures.all_read (λ file e. other (c.refuse_chain.ensures.read file cc))

pub returns-in-Err-clause-ends : goal.returns-in-Err-clause-ends
returns-in-Err-clause-ends g c =
    stop_ends _ _ (plain_sources c.args.sources.now) c.in-Err.stop (g.H.Shelf.view c.args.shelf.now) (g.H.Shelf.view c.listed.new.shelf) (g.O.Sink.view c.args.out.now) (g.O.Sink.view c.refuse_chain.new.out) c.refuse_chain.result c.in-Err.ensures.stop c.refuse_chain.ensures.answered

pub returns-in-Ok-clause-all_put : goal.returns-in-Ok-clause-all_put
returns-in-Ok-clause-all_put g c = put_whole (g.O.Sink.view c.args.out.now) (g.O.Sink.view c.put_report.new.out) c.put_report.result c.put_report.ensures.all_put

pub returns-in-Err-clause-all_put : goal.returns-in-Err-clause-all_put
returns-in-Err-clause-all_put g c = λ whole.
    absurd (stop_untold _ (plain_sources c.args.sources.now) c.in-Err.stop (g.O.Sink.view c.args.out.now) (g.O.Sink.view c.refuse_chain.new.out) c.refuse_chain.result c.refuse_chain.ensures.answered whole)
