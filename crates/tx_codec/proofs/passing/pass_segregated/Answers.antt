use Rattle.std.proofs.Common.{Result, ℕ, Ok, Err, true}
use Rattle.tx_codec.specs.Passing.{PassesForm}
use Rattle.tx_codec.specs.Reading.{segregated_at, witnessed_at}
use Rattle.tx_codec.specs.declared.fault.TxFault.{TxFault}
use Rattle.tx_codec.proofs.PassSteps.{flag_holds, flag_then_fails}
use Rattle.tx_codec.proofs.passing.pass_segregated.Goals as goal

pub returns-clause-gives : goal.returns-clause-gives
returns-clause-gives c = λ version. by version c.pass_witnessed.result (c.pass_witnessed.ensures.gives version)
  where
    by : (version : ℕ) (r : Result ℕ TxFault) → PassesForm true (witnessed_at version c.take.new.self) c.pass_witnessed.new.cursor r → PassesForm true (segregated_at version c.args.cursor.now) c.pass_witnessed.new.cursor r
    by version (Ok len) given = flag_holds version _ _ _ _ _ c.in_ok-flag.ensures.moves c.if-flag-ne1.false given
    by version (Err e) given = λ other. flag_then_fails version _ _ _ e c.in_ok-flag.ensures.moves c.if-flag-ne1.false (given other)
