use Rattle.std.proofs.lemmas.Result.{err_from_is_err_and}
use Rattle.command_check.proofs.evidence.read_found.Goals as goal

pub returns-in_err-bytes-clause-all_read : goal.returns-in_err-bytes-clause-all_read
returns-in_err-bytes-clause-all_read g c =
    let p = err_from_is_err_and c.from_residual.result c.from_residual.ensures.1 in
    rw (p.1, p.2) (λ other. c.in_err-bytes.ensures.all_read (λ e. other cc))

pub returns-in-Ok-clause-all_read : goal.returns-in-Ok-clause-all_read
returns-in-Ok-clause-all_read g c = λ other. c.in_ok-bytes.ensures.all_read (λ e. cc)

pub returns-clause-all_read : goal.returns-clause-all_read
returns-clause-all_read g c = λ other. c.in_ok-bytes.ensures.all_read (λ e. cc)
