use Rattle.std.proofs.Common.{◌∙◌}
use Rattle.std.proofs.lemmas.Result.{err_from_is_err_and}
use Rattle.fund_files.proofs.FrameLaws.{only_reads_on}
use Rattle.command_end.specs.Names.{plain_sources}
use Rattle.command_complete.proofs.OutcomeLaws.{book_not_refused}
use Rattle.command_complete.proofs.StopLaws.{all_asked, chain_asked, chain_unfailed, either_unfailed, has_book, if_file_stops, if_file_up_to, if_printed, ok_apart, read_unfailed, reading_stops, reading_up_to}
use Rattle.command_complete.proofs.files.completed.Goals as goal

pub returns-in_err-held-clause-asked : goal.returns-in_err-held-clause-asked
returns-in_err-held-clause-asked g c = λ t. chain_asked (plain_sources c.args.sources.now) c.args.psbt.now (g.H.Shelf.view c.args.shelf.now) (g.H.Shelf.view c.read_chain.new.shelf) (c.read_chain.ensures.asked t)

pub returns-in_err-held-clause-unfailed : goal.returns-in_err-held-clause-unfailed
returns-in_err-held-clause-unfailed g c =
    let p = err_from_is_err_and c.from_residual.result c.from_residual.ensures.1 in
    rw (p.1, p.2) (λ not. chain_unfailed c.in_err-held.field-0.0 not c.in_err-held.ensures.unfailed)

pub returns-in_err-held-clause-up_to : goal.returns-in_err-held-clause-up_to
returns-in_err-held-clause-up_to g c = λ t.
    let p = err_from_is_err_and c.from_residual.result c.from_residual.ensures.1 in
    rw (p.1, p.2) (c.read_chain.ensures.asked t, c.in_err-held.ensures.wallet_alone t)

pub returns-in_err-held-clause-refused_alone : goal.returns-in_err-held-clause-refused_alone
returns-in_err-held-clause-refused_alone g c = c.read_chain.ensures.refused_alone

pub returns-in_err-file-clause-stop : goal.returns-in_err-file-clause-stop
returns-in_err-file-clause-stop g c =
    let p = err_from_is_err_and c.from_residual-in_err-file.result c.from_residual-in_err-file.ensures.1 in
    rw (p.1, p.2) (reading_stops _ (plain_sources c.args.sources.now) c.args.psbt.now (g.H.Shelf.view c.args.shelf.now) (g.H.Shelf.view c.read_chain.new.shelf) (g.H.Shelf.view c.read_file.new.shelf) c.in_ok-held.held c.in_ok-held.ensures.held c.read_chain.ensures.frame
    c.in_err-file.field-0.0 c.in_err-file.ensures.stop)

pub returns-in_err-file-clause-frame : goal.returns-in_err-file-clause-frame
returns-in_err-file-clause-frame g c = only_reads_on _ (g.H.Shelf.view c.args.shelf.now) (g.H.Shelf.view c.read_chain.new.shelf) (g.H.Shelf.view c.read_file.new.shelf) c.read_chain.ensures.frame c.read_file.ensures.frame

pub returns-in_err-file-clause-asked : goal.returns-in_err-file-clause-asked
returns-in_err-file-clause-asked g c = λ t.
    all_asked (plain_sources c.args.sources.now) c.args.psbt.now (g.H.Shelf.view c.args.shelf.now) (g.H.Shelf.view c.read_chain.new.shelf) (g.H.Shelf.view c.read_file.new.shelf) (c.read_chain.ensures.asked t) (c.read_file.ensures.asked t)

pub returns-in_err-file-clause-unfailed : goal.returns-in_err-file-clause-unfailed
returns-in_err-file-clause-unfailed g c =
    let p = err_from_is_err_and c.from_residual-in_err-file.result c.from_residual-in_err-file.ensures.1 in
    rw (p.1, p.2) (λ not. read_unfailed c.in_err-file.field-0.0 not c.in_err-file.ensures.unfailed ∙ c.in_ok-held.ensures.unfailed (ok_apart _ _) (ok_apart _ _))

pub returns-in_err-file-clause-up_to : goal.returns-in_err-file-clause-up_to
returns-in_err-file-clause-up_to g c = λ t.
    let p = err_from_is_err_and c.from_residual-in_err-file.result c.from_residual-in_err-file.ensures.1 in
    rw (p.1, p.2) (reading_up_to _ (plain_sources c.args.sources.now) c.args.psbt.now (g.H.Shelf.view c.args.shelf.now) (g.H.Shelf.view c.read_chain.new.shelf) (g.H.Shelf.view c.read_file.new.shelf) c.in_err-file.field-0.0 c.in_err-file.ensures.stop (returns-in_err-file-clause-asked g c t))

pub returns-in_err-file-clause-refused_alone : goal.returns-in_err-file-clause-refused_alone
returns-in_err-file-clause-refused_alone g c = λ t cause is.
    absurd (book_not_refused (g.H.Shelf.view c.args.shelf.now).files (plain_sources c.args.sources.now) c.in_ok-held.held.book cause (has_book _ (plain_sources c.args.sources.now) c.args.psbt.now (g.H.Shelf.view c.args.shelf.now) (g.H.Shelf.view c.read_chain.new.shelf) (g.H.Shelf.view c.read_file.new.shelf) c.in_ok-held.held c.in_ok-held.ensures.held c.read_chain.ensures.frame t) is)

pub returns-in_err-file-clause-chain_alone : goal.returns-in_err-file-clause-chain_alone
returns-in_err-file-clause-chain_alone g c = λ t none.
    absurd (none c.in_ok-held.held.book (has_book _ (plain_sources c.args.sources.now) c.args.psbt.now (g.H.Shelf.view c.args.shelf.now) (g.H.Shelf.view c.read_chain.new.shelf) (g.H.Shelf.view c.read_file.new.shelf) c.in_ok-held.held c.in_ok-held.ensures.held c.read_chain.ensures.frame t))

pub returns-clause-made : goal.returns-clause-made
returns-clause-made g c =
    if_printed _ (plain_sources c.args.sources.now) c.args.psbt.now (g.H.Shelf.view c.args.shelf.now) (g.H.Shelf.view c.read_chain.new.shelf) (g.H.Shelf.view c.read_file.new.shelf) c.in_ok-held.held c.in_ok-held.ensures.held c.read_chain.ensures.frame c.in_ok-file.file.items c.made.result
    c.in_ok-file.ensures.bytes c.in_ok-file.ensures.fits (rw c.deref.ensures.value at c.made.ensures.made)

pub returns-clause-frame : goal.returns-clause-frame
returns-clause-frame g c = only_reads_on _ (g.H.Shelf.view c.args.shelf.now) (g.H.Shelf.view c.read_chain.new.shelf) (g.H.Shelf.view c.read_file.new.shelf) c.read_chain.ensures.frame c.read_file.ensures.frame

pub returns-clause-stop : goal.returns-clause-stop
returns-clause-stop g c =
    if_file_stops _ (plain_sources c.args.sources.now) c.args.psbt.now (g.H.Shelf.view c.args.shelf.now) (g.H.Shelf.view c.read_chain.new.shelf) (g.H.Shelf.view c.read_file.new.shelf) c.in_ok-held.held c.in_ok-held.ensures.held c.read_chain.ensures.frame c.in_ok-file.file.items c.made.result
    c.in_ok-file.ensures.bytes c.in_ok-file.ensures.fits (rw c.deref.ensures.value at c.made.ensures.stop)

pub returns-clause-asked : goal.returns-clause-asked
returns-clause-asked g c = λ t.
    all_asked (plain_sources c.args.sources.now) c.args.psbt.now (g.H.Shelf.view c.args.shelf.now) (g.H.Shelf.view c.read_chain.new.shelf) (g.H.Shelf.view c.read_file.new.shelf) (c.read_chain.ensures.asked t) (c.read_file.ensures.asked t)

pub returns-clause-unfailed : goal.returns-clause-unfailed
returns-clause-unfailed g c = either_unfailed c.made.result (c.in_ok-file.ensures.unfailed (ok_apart _ _) ∙ c.in_ok-held.ensures.unfailed (ok_apart _ _) (ok_apart _ _))

pub returns-clause-up_to : goal.returns-clause-up_to
returns-clause-up_to g c = λ t. if_file_up_to c.in_ok-held.held.book (plain_sources c.args.sources.now) c.args.psbt.now c.deref.result.now (g.H.Shelf.view c.args.shelf.now) (g.H.Shelf.view c.read_file.new.shelf) c.made.result c.made.ensures.stop (returns-clause-asked g c t)

pub returns-clause-refused_alone : goal.returns-clause-refused_alone
returns-clause-refused_alone g c = λ t cause is.
    absurd (book_not_refused (g.H.Shelf.view c.args.shelf.now).files (plain_sources c.args.sources.now) c.in_ok-held.held.book cause (has_book _ (plain_sources c.args.sources.now) c.args.psbt.now (g.H.Shelf.view c.args.shelf.now) (g.H.Shelf.view c.read_chain.new.shelf) (g.H.Shelf.view c.read_file.new.shelf) c.in_ok-held.held c.in_ok-held.ensures.held c.read_chain.ensures.frame t) is)

pub returns-clause-chain_alone : goal.returns-clause-chain_alone
returns-clause-chain_alone g c = λ t none.
    absurd (none c.in_ok-held.held.book (has_book _ (plain_sources c.args.sources.now) c.args.psbt.now (g.H.Shelf.view c.args.shelf.now) (g.H.Shelf.view c.read_chain.new.shelf) (g.H.Shelf.view c.read_file.new.shelf) c.in_ok-held.held c.in_ok-held.ensures.held c.read_chain.ensures.frame t))
