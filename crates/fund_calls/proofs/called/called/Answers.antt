use Rattle.std.proofs.Common.{◌≡◌, ◌∙◌, Option, refl, sym, subst}
use Rattle.std.proofs.lemmas.Bool.{eqb-true}
use Rattle.fund_shelf.specs.Causes.{ShelfView, SinkView}
use Rattle.fund_shelf.specs.SureShelf.{view_of as shelf_view}
use Rattle.command_inputs.specs.Names.{plain_job}
use Rattle.fund_outside.specs.Kept.{KeeperView}
use Rattle.fund_outside.specs.SureKeeper.{view_of as keeper_view}
use Rattle.fund_top.specs.Outside.{in_memory}
use Rattle.fund_top.specs.Words.{Command, command_of}
use Rattle.fund_top.proofs.SureLaws.{runs_in_memory}
use Rattle.fund_calls.specs.Call.{Answers, Promises}
use Rattle.fund_calls.specs.Given.{PlainGiven, plain_given}
use Rattle.fund_calls.specs.Output.{view_of as sink_view}
use Rattle.fund_calls.proofs.CallLaws.{answers, is_run}
use Rattle.fund_calls.proofs.called.called.Goals as goal

pub returns-clause-answers : goal.returns-clause-answers
returns-clause-answers c = λ d is.
    let e = c.run-status.ensures in
    let o : Option Command = command_of c.args.words.now.items in
    let shelf : ShelfView = shelf_view c.in_ok-shelf.shelf in
    let shelf' : ShelfView = shelf_view c.run-status.new.shelf in
    let sink : SinkView = sink_view c.new-out.result in
    let sink' : SinkView = sink_view c.run-status.new.out in
    let keeper : KeeperView = keeper_view c.in_ok-keeper.keeper in
    let keeper' : KeeperView = keeper_view c.run-status.new.keeper in
    let g : PlainGiven = plain_given c.args.given.now in
    let promises : Promises (in_memory shelf shelf' sink sink' keeper keeper') o c.run-status.result = record {
      memory = runs_in_memory o shelf shelf' sink sink' keeper keeper' c.run-status.result (record { reads = λ name. refl; writes = λ name. refl }) (record { reads = λ name. refl; writes = λ name. refl }) refl refl refl refl e.usage e.ends e.uninterrupted e.complete;
      usage = e.usage;
      ends = e.ends;
      honest = e.honest;
      stays = e.stays;
      reads = e.reads;
      refused = e.refused;
    } in
    let whole : sink'.refusals ≡ 0 = eqb-true sink'.refusals 0 (sym c.took_all.ensures ∙ c.if-not-took_all.false) in
    let run = is_run o g (plain_job c.args.job) shelf shelf' sink sink' keeper keeper' c.run-status.result c.written.result.now c.log_in-log.result.now promises c.in_ok-shelf.ensures c.new-out.ensures c.in_ok-keeper.ensures.kept refl whole c.written.ensures c.log_in-log.ensures in
    let a = c.in_ok-answer.ensures in
    let told : Answers o g (plain_job c.args.job) c.in_ok-answer.answer = answers o g (plain_job c.args.job) c.run-status.result c.written.result.now c.log_in-log.result.now keeper' c.in_ok-answer.answer run a.status a.printed a.log a.remembered a.kept a.none in
    subst (λ (x : Option Command). Answers x g (plain_job c.args.job) c.in_ok-answer.answer) is told
