use Rattle.std.proofs.Common.{string_bytes}
use Rattle.std.proofs.lemmas.Result.{err_from_is_err_and}
use Rattle.fund_files.specs.declared.refusal.File.TheVariants.{Wallet, Blocks}
use Rattle.command_end.specs.Names.{plain_sources}
use Rattle.command_coins.proofs.ListingLaws.{listed_is}
use Rattle.command_coins.proofs.command.listed.Goals as goal

pub returns-in-Ok-clause-lists : goal.returns-in-Ok-clause-lists
returns-in-Ok-clause-lists g c =
    listed_is _ (g.H.Shelf.view c.args.shelf.now).files (plain_sources c.args.sources.now) c.in_ok-held.held (string_bytes c.in-Ok.text) c.in_ok-held.ensures.held c.in-Ok.ensures

pub returns-in_err-held-clause-all_read : goal.returns-in_err-held-clause-all_read
returns-in_err-held-clause-all_read g c =
    let p = err_from_is_err_and c.from_residual.result c.from_residual.ensures.1 in
    rw (p.1, p.2) (λ none. c.in_err-held.ensures.unfailed (λ e. none Wallet cc) (λ e. none Blocks cc))

pub returns-in-Ok-clause-all_read : goal.returns-in-Ok-clause-all_read
returns-in-Ok-clause-all_read g c = λ none. c.in_ok-held.ensures.unfailed (λ e. cc) (λ e. cc)

pub returns-clause-all_read : goal.returns-clause-all_read
returns-clause-all_read g c = λ none. c.in_ok-held.ensures.unfailed (λ e. cc) (λ e. cc)
