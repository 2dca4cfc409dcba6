use Rattle.keys_files.proofs.FileLaws.{if_file_stop, if_held}
use Rattle.keys_files.proofs.FileLaws.{ok_apart}
use Rattle.keys_files.proofs.keys_file.read_keys_file.Goals as goal

pub returns-clause-keys : goal.returns-clause-keys
returns-clause-keys g c =
    if_held _ c.args.name.now c.in_ok-bytes.bytes.items (g.H.Shelf.view c.args.shelf.now) c.keys_in.result c.in_ok-bytes.ensures.bytes c.in_ok-bytes.ensures.fits (rw c.deref.ensures.value at c.keys_in.ensures.keys)

pub returns-clause-stop : goal.returns-clause-stop
returns-clause-stop g c =
    if_file_stop _ c.args.name.now c.in_ok-bytes.bytes.items (g.H.Shelf.view c.args.shelf.now) (g.H.Shelf.view c.read_bytes.new.shelf) c.keys_in.result c.in_ok-bytes.ensures.bytes c.in_ok-bytes.ensures.fits (rw c.deref.ensures.value at c.keys_in.ensures.stop)

pub returns-clause-unfailed : goal.returns-clause-unfailed
returns-clause-unfailed g c = λ other. c.in_ok-bytes.ensures.unfailed (ok_apart _ _)
