use Rattle.std.proofs.Common.{◌∙◌}
use Rattle.std.proofs.lemmas.Result.{err_from_is_err_and}
use Rattle.fund_files.proofs.FrameLaws.{only_reads_on}
use Rattle.command_end.specs.Names.{plain_sources}
use Rattle.keys_files.proofs.FileLaws.{ok_apart}
use Rattle.command_keys.proofs.StopLaws.{all_asked, file_stops, key_stops, key_up_to, keys_unfailed, print_is, whole_asked}
use Rattle.command_keys.proofs.files.completed_keyed.Goals as goal

-- ---- where the PSBT isn't made whole

pub returns-in_err-whole-clause-stop : goal.returns-in_err-whole-clause-stop
returns-in_err-whole-clause-stop g c =
    let p = err_from_is_err_and c.from_residual.result c.from_residual.ensures.1 in
    rw (p.1, p.2) c.in_err-whole.ensures.stop

pub returns-in_err-whole-clause-unfailed : goal.returns-in_err-whole-clause-unfailed
returns-in_err-whole-clause-unfailed g c =
    let p = err_from_is_err_and c.from_residual.result c.from_residual.ensures.1 in
    rw (p.1, p.2) c.in_err-whole.ensures.unfailed

pub returns-in_err-whole-clause-asked : goal.returns-in_err-whole-clause-asked
returns-in_err-whole-clause-asked g c = λ t. whole_asked (plain_sources c.args.sources.now) c.args.psbt.now c.args.keys.now (g.H.Shelf.view c.args.shelf.now) (g.H.Shelf.view c.completed.new.shelf) (c.completed.ensures.asked t)

pub returns-in_err-whole-clause-up_to : goal.returns-in_err-whole-clause-up_to
returns-in_err-whole-clause-up_to g c = λ t.
    let p = err_from_is_err_and c.from_residual.result c.from_residual.ensures.1 in
    rw (p.1, p.2) (c.in_err-whole.ensures.up_to t)

-- ---- where the keys file isn't taken

pub returns-in_err-known-clause-stop : goal.returns-in_err-known-clause-stop
returns-in_err-known-clause-stop g c =
    let p = err_from_is_err_and c.from_residual-in_err-known.result c.from_residual-in_err-known.ensures.1 in
    rw (p.1, p.2) (file_stops _ (plain_sources c.args.sources.now) c.args.psbt.now c.args.keys.now (g.H.Shelf.view c.args.shelf.now) (g.H.Shelf.view c.completed.new.shelf) (g.H.Shelf.view c.read_keys_file.new.shelf) c.completed.ensures.frame c.in_ok-whole.whole.items c.in_ok-whole.ensures.made c.in_err-known.field-0.0 c.in_err-known.ensures.stop)

pub returns-in_err-known-clause-frame : goal.returns-in_err-known-clause-frame
returns-in_err-known-clause-frame g c = only_reads_on _ (g.H.Shelf.view c.args.shelf.now) (g.H.Shelf.view c.completed.new.shelf) (g.H.Shelf.view c.read_keys_file.new.shelf) c.completed.ensures.frame c.read_keys_file.ensures.frame

pub returns-in_err-known-clause-unfailed : goal.returns-in_err-known-clause-unfailed
returns-in_err-known-clause-unfailed g c =
    let p = err_from_is_err_and c.from_residual-in_err-known.result c.from_residual-in_err-known.ensures.1 in
    rw (p.1, p.2) (λ not. keys_unfailed c.in_err-known.field-0.0 not c.in_err-known.ensures.unfailed ∙ c.in_ok-whole.ensures.unfailed)

pub returns-in_err-known-clause-asked : goal.returns-in_err-known-clause-asked
returns-in_err-known-clause-asked g c = λ t. all_asked (plain_sources c.args.sources.now) c.args.psbt.now c.args.keys.now (g.H.Shelf.view c.args.shelf.now) (g.H.Shelf.view c.completed.new.shelf) (g.H.Shelf.view c.read_keys_file.new.shelf) (c.completed.ensures.asked t) (c.read_keys_file.ensures.asked t)

pub returns-in_err-known-clause-up_to : goal.returns-in_err-known-clause-up_to
returns-in_err-known-clause-up_to g c = λ t.
    let p = err_from_is_err_and c.from_residual-in_err-known.result c.from_residual-in_err-known.ensures.1 in
    rw (p.1, p.2) (returns-in_err-known-clause-asked g c t)

-- ---- where the keys aren't added

pub returns-in_err-text-clause-stop : goal.returns-in_err-text-clause-stop
returns-in_err-text-clause-stop g c =
    let p = err_from_is_err_and c.from_residual-in_err-text.result c.from_residual-in_err-text.ensures.1 in
    rw (p.1, p.2) (key_stops _ (plain_sources c.args.sources.now) c.args.psbt.now c.args.keys.now (g.H.Shelf.view c.args.shelf.now) (g.H.Shelf.view c.completed.new.shelf) (g.H.Shelf.view c.read_keys_file.new.shelf) c.completed.ensures.frame c.in_ok-whole.whole.items c.in_ok-whole.ensures.made c.in_ok-known.known c.in_ok-known.ensures.keys c.in_err-text.field-0.0 (rw c.deref.ensures.value at c.in_err-text.ensures.fault))

pub returns-in_err-text-clause-frame : goal.returns-in_err-text-clause-frame
returns-in_err-text-clause-frame g c = only_reads_on _ (g.H.Shelf.view c.args.shelf.now) (g.H.Shelf.view c.completed.new.shelf) (g.H.Shelf.view c.read_keys_file.new.shelf) c.completed.ensures.frame c.read_keys_file.ensures.frame

pub returns-in_err-text-clause-unfailed : goal.returns-in_err-text-clause-unfailed
returns-in_err-text-clause-unfailed g c =
    let p = err_from_is_err_and c.from_residual-in_err-text.result c.from_residual-in_err-text.ensures.1 in
    rw (p.1, p.2) (λ not. c.in_ok-known.ensures.unfailed (ok_apart _ _) ∙ c.in_ok-whole.ensures.unfailed)

pub returns-in_err-text-clause-asked : goal.returns-in_err-text-clause-asked
returns-in_err-text-clause-asked g c = λ t. all_asked (plain_sources c.args.sources.now) c.args.psbt.now c.args.keys.now (g.H.Shelf.view c.args.shelf.now) (g.H.Shelf.view c.completed.new.shelf) (g.H.Shelf.view c.read_keys_file.new.shelf) (c.completed.ensures.asked t) (c.read_keys_file.ensures.asked t)

pub returns-in_err-text-clause-up_to : goal.returns-in_err-text-clause-up_to
returns-in_err-text-clause-up_to g c = λ t.
    let p = err_from_is_err_and c.from_residual-in_err-text.result c.from_residual-in_err-text.ensures.1 in
    rw (p.1, p.2) (key_up_to (plain_sources c.args.sources.now) c.args.psbt.now c.args.keys.now (g.H.Shelf.view c.args.shelf.now) (g.H.Shelf.view c.read_keys_file.new.shelf) c.in_err-text.field-0.0 (returns-in_err-text-clause-asked g c t))

-- ---- where they are

pub returns-clause-made : goal.returns-clause-made
returns-clause-made g c =
    print_is _ (plain_sources c.args.sources.now) c.args.psbt.now c.args.keys.now (g.H.Shelf.view c.args.shelf.now) (g.H.Shelf.view c.completed.new.shelf) (g.H.Shelf.view c.read_keys_file.new.shelf) c.completed.ensures.frame c.in_ok-whole.whole.items c.in_ok-whole.ensures.made c.in_ok-known.known c.in_ok-known.ensures.keys c.in_ok-text.text.items (rw c.deref.ensures.value at c.in_ok-text.ensures.keyed)

pub returns-clause-frame : goal.returns-clause-frame
returns-clause-frame g c = only_reads_on _ (g.H.Shelf.view c.args.shelf.now) (g.H.Shelf.view c.completed.new.shelf) (g.H.Shelf.view c.read_keys_file.new.shelf) c.completed.ensures.frame c.read_keys_file.ensures.frame

pub returns-clause-unfailed : goal.returns-clause-unfailed
returns-clause-unfailed g c = c.in_ok-known.ensures.unfailed (ok_apart _ _) ∙ c.in_ok-whole.ensures.unfailed

pub returns-clause-asked : goal.returns-clause-asked
returns-clause-asked g c = λ t. all_asked (plain_sources c.args.sources.now) c.args.psbt.now c.args.keys.now (g.H.Shelf.view c.args.shelf.now) (g.H.Shelf.view c.completed.new.shelf) (g.H.Shelf.view c.read_keys_file.new.shelf) (c.completed.ensures.asked t) (c.read_keys_file.ensures.asked t)
