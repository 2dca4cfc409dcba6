use Rattle.std.proofs.Common.{◌∙◌, sym}
use Rattle.fund_desk.proofs.GivenLaws.{given_is, is_taken_told, selection_in}
use Rattle.fund_desk.proofs.committing.give_funded.Goals as goal

pub give_unless-requires-clause-funded : goal.give_unless-requires-clause-funded
give_unless-requires-clause-funded c = selection_in c.args.held.now.wallet.change c.args.job.now c.args.funded.now c.request-asked.result.now c.requires.job c.requires.funded c.request-asked.ensures

pub returns-in-Ok : goal.returns-in-Ok
returns-in-Ok c =
    let out = rw c.in-Ok.is at c.in_ok-given.ensures.given in
    given_is c.args.held.now c.args.committed.now c.args.job.now c.args.funded.now c.request-asked.result.now c.in-Ok.given (c.coins_have_makers.ensures 0) c.requires.funded c.request-asked.ensures (sym out.0 ∙ c.in_ok-taken.ensures) out.1

pub returns-in-Err : goal.returns-in-Err
returns-in-Err c =
    is_taken_told c.args.held.now c.args.committed.now c.args.job.now c.args.funded.now c.request-asked.result.now c.in_ok-taken.taken c.in-Err.reply c.requires.funded c.request-asked.ensures c.in_ok-taken.ensures
    (rw c.in-Err.is at c.in_ok-given.ensures.given)
