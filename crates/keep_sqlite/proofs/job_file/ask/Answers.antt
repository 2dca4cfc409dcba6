use Rattle.std.proofs.Common.{◌≡◌, Err, rules}
use Rattle.sqlite.specs.Files.{over_files}
use Rattle.keep_sqlite.proofs.CallLaws.{answers_in, is_one, unopened_in}
use Rattle.keep_sqlite.proofs.job_file.ask.Goals as goal

pub ask_held-requires : goal.ask_held-requires
ask_held-requires c = is_one over_files c.args.connection.now c.in_ok-opened.opened c.in_ok-opened.ensures.opened

pub returns : goal.returns
returns c = answers_in over_files c.args.call.now c.args.connection.now c.in_ok-opened.opened c.ask_held.new.held c.ask_held.result c.in_ok-opened.ensures.opened c.ask_held.ensures

pub returns-in_err-opened : goal.returns-in_err-opened
returns-in_err-opened c =
    let said = c.in_err-opened.ensures.unopened in
    let is : c.from_residual.result ≡ Err c.in_err-opened.field-0.0 = search rules in
    rw (said.1, is) (unopened_in over_files c.args.call.now c.in_err-opened.field-0.0 said.0)
