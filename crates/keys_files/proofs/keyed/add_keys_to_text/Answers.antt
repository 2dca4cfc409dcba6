use Rattle.std.proofs.lemmas.Result.{err_from_is_err_and}
use Rattle.keys_files.proofs.TextLaws.{bytes_fault, no_text, text_keyed}
use Rattle.keys_files.proofs.keyed.add_keys_to_text.Goals as goal

pub returns-in_err-bytes-clause-fault : goal.returns-in_err-bytes-clause-fault
returns-in_err-bytes-clause-fault c =
    let p = err_from_is_err_and c.from_residual.result c.from_residual.ensures.1 in
    rw (p.1, p.2) (no_text c.args.keys.now c.args.text.now c.in_err-bytes.field-0.0 c.in_err-bytes.ensures.fault c.in_err-bytes.ensures.only)

pub returns-in_err-keyed-clause-fault : goal.returns-in_err-keyed-clause-fault
returns-in_err-keyed-clause-fault c =
    let p = err_from_is_err_and c.from_residual-in_err-keyed.result c.from_residual-in_err-keyed.ensures.1 in
    rw (p.1, p.2) (λ other. bytes_fault c.args.keys.now c.args.text.now c.in_ok-bytes.bytes.items c.in_err-keyed.field-0.0 c.in_ok-bytes.ensures.found (rw c.deref.ensures.value at c.in_err-keyed.ensures.fault other))

pub returns-clause-keyed : goal.returns-clause-keyed
returns-clause-keyed c =
    text_keyed c.args.keys.now c.args.text.now c.in_ok-text.text.items c.in_ok-bytes.bytes.items c.in_ok-keyed.keyed.items c.in_ok-bytes.ensures.found (rw c.deref-2.ensures.value at c.in_ok-text.ensures)
    (rw c.deref.ensures.value at c.in_ok-keyed.ensures.keyed) (rw c.deref.ensures.value at c.in_ok-keyed.ensures.same)
