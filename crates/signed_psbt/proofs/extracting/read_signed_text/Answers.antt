use Rattle.std.proofs.Common.{ap}
use Rattle.std.proofs.lemmas.Result.{err_from_is_err_and}
use Rattle.signed_psbt.specs.declared.fault.SignedFault.TheVariants.{Psbt}
use Rattle.signed_psbt.proofs.OnlyLaws.{text_only}
use Rattle.signed_psbt.proofs.TextLaws.{text_fault, text_found, text_refused}
use Rattle.signed_psbt.proofs.extracting.read_signed_text.Goals as goal

pub returns-in_err-bytes-clause-fault : goal.returns-in_err-bytes-clause-fault
returns-in_err-bytes-clause-fault c =
    let e = err_from_is_err_and c.from_residual.result c.from_residual.ensures.1 in
    rw (e.1, e.2) (text_refused c.args.text.now c.in_err-bytes.field-0.0 c.in_err-bytes.ensures.fault c.in_err-bytes.ensures.only)

pub returns-clause-found : goal.returns-clause-found
returns-clause-found c = text_found c.args.text.now c.in_ok-bytes.bytes.items (rw c.deref.ensures.value at c.are_bytes.ensures.bytes) c.in_ok-bytes.ensures.found c.read_signed.result (rw c.deref-2.ensures.value at c.read_signed.ensures.found)

pub returns-clause-fault : goal.returns-clause-fault
returns-clause-fault c = text_fault c.args.text.now c.in_ok-bytes.bytes.items (rw c.deref.ensures.value at c.are_bytes.ensures.bytes) c.in_ok-bytes.ensures.found c.read_signed.result (rw c.deref-2.ensures.value at c.read_signed.ensures.fault)

pub returns-in_err-bytes-clause-only : goal.returns-in_err-bytes-clause-only
returns-in_err-bytes-clause-only c = λ tx s.
    let e = err_from_is_err_and c.from_residual.result c.from_residual.ensures.1 in
    rw (e.1, e.2) (ap Psbt (c.in_err-bytes.ensures.only s.bytes s.are_bytes s.text_is))

pub returns-clause-only : goal.returns-clause-only
returns-clause-only c = text_only c.args.text.now c.in_ok-bytes.bytes.items c.in_ok-bytes.ensures.only c.read_signed.result (rw c.deref-2.ensures.value at c.read_signed.ensures.only)
