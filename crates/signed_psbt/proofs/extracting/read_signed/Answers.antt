use Rattle.std.proofs.Common.{ap}
use Rattle.std.proofs.lemmas.Result.{err_from_is_err_and}
use Rattle.signed_psbt.specs.declared.fault.SignedFault.TheVariants.{Psbt}
use Rattle.signed_psbt.proofs.extracting.read_signed.Goals as goal

pub returns-in_err-psbt-clause-only : goal.returns-in_err-psbt-clause-only
returns-in_err-psbt-clause-only c = λ tx s.
    let e = err_from_is_err_and c.from_residual.result c.from_residual.ensures.1 in
    rw (e.1, e.2) (ap Psbt (c.in_err-psbt.ensures.only s.psbt s.readable))
