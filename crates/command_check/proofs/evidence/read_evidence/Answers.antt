use Rattle.std.proofs.Common.{◌≡◌, ◌∙◌, Result, Err, ap}
use Rattle.fund_shelf.specs.declared.pieces.ReadError.{ReadError}
use Rattle.command_check.specs.Stops.{read_stop_of}
use Rattle.command_check.specs.declared.stop.Stop.{Stop}
use Rattle.command_check.proofs.evidence.read_evidence.Goals as goal

same_error : {T : Type 0} (a b : ReadError) → ◌≡◌ {A = Result T ReadError} (Err a) (Err b) → a ≡ b
same_error a b e = cc

pub returns-in-Ok-clause-all_read : goal.returns-in-Ok-clause-all_read
returns-in-Ok-clause-all_read g c = λ other. c.in-Ok.ensures.frame.unfailed (λ e. cc)

pub returns-in-Err-clause-all_read : goal.returns-in-Err-clause-all_read
returns-in-Err-clause-all_read g c = λ other. c.in-Err.ensures.frame.unfailed (λ e. other (ap (λ (x : Stop). Err x) (c.read_stop.ensures.stop ∙ ap (λ (x : ReadError). read_stop_of c.args.file x) (same_error _ _ e))))
