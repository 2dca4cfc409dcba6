use Rattle.std.specs.Prelude.{option_map, string_bytes}
use Rattle.keyed_pay.proofs.PayLaws.{unpaid_pays}
use Rattle.keyed_pay.proofs.paying.pay_bare.Goals as goal

pub returns-in-Paid-clause-pays : goal.returns-in-Paid-clause-pays
returns-in-Paid-clause-pays g c = c.add_to_paid.ensures c.args.asked.now (g.H.Shelf.view c.args.files) (g.H.Shelf.view c.pay_asked-ending.result.1) (g.N.Shelf.view c.args.new_files.now) (rw c.in-Paid.is at c.pay_asked-ending.ensures.pays)

pub returns-in-FeeAboveMaximum-clause-pays : goal.returns-in-FeeAboveMaximum-clause-pays
returns-in-FeeAboveMaximum-clause-pays g c = unpaid_pays _ _ c.args.asked.now (option_map string_bytes c.args.psbt.now) c.args.keys.now (g.H.Shelf.view c.args.files) (g.H.Shelf.view c.pay_asked-ending.result.1) (g.N.Shelf.view c.args.new_files.now) (g.N.Shelf.view c.pay_asked-ending.new.new_files) c.pay_asked-ending.result.0 _ c.pay_asked-ending.ensures.pays c.in-FeeAboveMaximum.is tt

pub returns-in-NotPaid-clause-pays : goal.returns-in-NotPaid-clause-pays
returns-in-NotPaid-clause-pays g c = unpaid_pays _ _ c.args.asked.now (option_map string_bytes c.args.psbt.now) c.args.keys.now (g.H.Shelf.view c.args.files) (g.H.Shelf.view c.pay_asked-ending.result.1) (g.N.Shelf.view c.args.new_files.now) (g.N.Shelf.view c.pay_asked-ending.new.new_files) c.pay_asked-ending.result.0 _ c.pay_asked-ending.ensures.pays c.in-NotPaid.is tt

pub returns-in-Unwritten-clause-pays : goal.returns-in-Unwritten-clause-pays
returns-in-Unwritten-clause-pays g c = unpaid_pays _ _ c.args.asked.now (option_map string_bytes c.args.psbt.now) c.args.keys.now (g.H.Shelf.view c.args.files) (g.H.Shelf.view c.pay_asked-ending.result.1) (g.N.Shelf.view c.args.new_files.now) (g.N.Shelf.view c.pay_asked-ending.new.new_files) c.pay_asked-ending.result.0 _ c.pay_asked-ending.ensures.pays c.in-Unwritten.is tt

pub returns-in-Memory-clause-pays : goal.returns-in-Memory-clause-pays
returns-in-Memory-clause-pays g c = unpaid_pays _ _ c.args.asked.now (option_map string_bytes c.args.psbt.now) c.args.keys.now (g.H.Shelf.view c.args.files) (g.H.Shelf.view c.pay_asked-ending.result.1) (g.N.Shelf.view c.args.new_files.now) (g.N.Shelf.view c.pay_asked-ending.new.new_files) c.pay_asked-ending.result.0 _ c.pay_asked-ending.ensures.pays c.in-Memory.is tt
