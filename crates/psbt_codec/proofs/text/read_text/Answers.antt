use Rattle.std.proofs.lemmas.Result.{err_from_is_err_and}
use Rattle.psbt_codec.proofs.TextLaws.{text_found, text_only}
use Rattle.psbt_codec.proofs.text.read_text.Goals as goal

pub returns-clause-found : goal.returns-clause-found
returns-clause-found c = text_found c.args.text.now c.in_ok-bytes.bytes.items (rw c.deref.ensures.value at c.are_bytes.ensures.bytes) c.in_ok-bytes.ensures.found c.read_versioned.result (rw c.deref-2.ensures.value at c.read_versioned.ensures.found)

pub returns-in_err-bytes-clause-only : goal.returns-in_err-bytes-clause-only
returns-in_err-bytes-clause-only c = λ version p is.
    let e = err_from_is_err_and c.from_residual.result c.from_residual.ensures.1 in
    rw (e.1, e.2) (c.in_err-bytes.ensures.only is.0.bytes is.0.are_bytes is.0.text_is)

pub returns-clause-only : goal.returns-clause-only
returns-clause-only c = text_only c.args.text.now c.in_ok-bytes.bytes.items c.in_ok-bytes.ensures.only c.read_versioned.result (rw c.deref-2.ensures.value at c.read_versioned.ensures.only)
