use Rattle.std.specs.Prelude.{option_map, string_bytes}
use Rattle.keyed_pay.proofs.PayLaws.{keyed_pays, memory_pays, unwritten_pays}
use Rattle.keyed_pay.proofs.paying.put_keyed.Goals as goal

pub returns-in-Ok : goal.returns-in-Ok
returns-in-Ok g c = λ a k files after old is keyed. keyed_pays g.H.Shelf.tells g.N.Shelf.tells a (option_map string_bytes c.args.psbt.now) k files after old (g.N.Shelf.view c.args.new_files.now) (g.N.Shelf.view c.put_if.new.new_files) c.args.report c.args.log is c.args.text keyed (rw c.deref.ensures.value at c.in-Ok.ensures.ok)

pub returns-in-Err-Failed : goal.returns-in-Err-Failed
returns-in-Err-Failed g c = λ a k files after old is keyed. unwritten_pays g.H.Shelf.tells g.N.Shelf.tells a (option_map string_bytes c.args.psbt.now) k files after old (g.N.Shelf.view c.args.new_files.now) (g.N.Shelf.view c.put_if.new.new_files) c.args.report c.args.log is (c.in-Err-Failed.ensures.failed (let same = c.in-Err-Failed.field-0-is in cc))

pub returns : goal.returns
returns g c = λ a k files after old is keyed. memory_pays g.H.Shelf.tells g.N.Shelf.tells a (option_map string_bytes c.args.psbt.now) k files after old (g.N.Shelf.view c.args.new_files.now) (g.N.Shelf.view c.put_if.new.new_files) c.args.report c.args.log is (c.in-Err-Memory.ensures.memory (let same = c.in-Err-Memory.field-0-is in cc))
