use Rattle.std.proofs.Common.{subst, sym}
use Rattle.std.specs.Prelude.{option_map, string_bytes}
use Rattle.keyed_pay.specs.Pays.{PaysKeyed}
use Rattle.keyed_pay.proofs.PayLaws.{unkeyed_pays}
use Rattle.keyed_pay.proofs.paying.add_to_paid.Goals as goal

pub returns-in-Ok : goal.returns-in-Ok
returns-in-Ok g c = λ a files after old is. c.put_keyed.ensures a c.args.keys.now files after old is (rw c.psbt.ensures at c.in-Ok.ensures.keyed)

pub returns-in-Err : goal.returns-in-Err
returns-in-Err g c = λ a files after old is. subst (PaysKeyed g.H.Shelf.tells g.N.Shelf.tells a (option_map string_bytes c.args.psbt.now) c.args.keys.now files after old (g.N.Shelf.view c.args.new_files.now)) (sym c.unkeyed.ensures) (unkeyed_pays g.H.Shelf.tells g.N.Shelf.tells a (option_map string_bytes c.args.psbt.now) c.args.keys.now files after old (g.N.Shelf.view c.args.new_files.now) c.args.report c.args.log c.in-Err.fault (rw c.psbt.ensures at c.in-Err.ensures.fault) is)
