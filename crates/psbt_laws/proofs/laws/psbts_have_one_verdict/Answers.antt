use Rattle.std.proofs.Common.{◌≡◌, ℕ, List, Result, Ok, Err, refl, inl, inr}
use Rattle.std.specs.Prelude.{◌⊎◌}
use Rattle.fund_base.specs.Cursor.{IsBytes}
use Rattle.psbt_codec.specs.PartialTransaction.{PartialTransaction}
use Rattle.psbt_codec.specs.Psbt.{IsReadable}
use Rattle.psbt_codec.specs.Reading.{read_of, start}
use Rattle.psbt_codec.specs.declared.fault.PsbtFault.{PsbtFault}
use Rattle.psbt_codec.proofs.Readable.{read_again, read_takes}
use Rattle.tx_laws.proofs.Judged.{one_fault}
use Rattle.psbt_laws.specs.Fields.{Breaks}
use Rattle.psbt_laws.specs.First.{IsPsbtFault}
use Rattle.psbt_laws.specs.Order.{PsbtComes}
use Rattle.psbt_laws.proofs.Whole.{psbt_judged}
use Rattle.psbt_laws.proofs.laws.psbts_have_one_verdict.Goals as goal

verdict_by : (bytes : List ℕ) → IsBytes bytes → (r : Result PartialTransaction PsbtFault) → read_of bytes ≡ r → ((p : PartialTransaction) × IsReadable bytes p) ⊎ ((fault : PsbtFault) × IsPsbtFault bytes fault)
verdict_by bytes fits (Ok p) e = inl (p, read_takes bytes p fits e)
verdict_by bytes fits (Err fault) e = inr (fault, (psbt_judged bytes fits).tells fault e)

neither : (bytes : List ℕ) (p : PartialTransaction) (fault : PsbtFault) → IsBytes bytes → IsReadable bytes p → IsPsbtFault bytes fault → ⊥
neither bytes p fault fits is broken =
    let refused = (psbt_judged bytes fits).gives fault broken in
    let read = read_again bytes p is in
    absurd (cc (refused, read))

pub returns-clause-either : goal.returns-clause-either
returns-clause-either c = λ bytes fits. verdict_by bytes fits (read_of bytes) refl

pub returns-clause-never_both : goal.returns-clause-never_both
returns-clause-never_both c = neither

pub returns-clause-one : goal.returns-clause-one
returns-clause-one c = λ bytes first second fits. one_fault Breaks PsbtComes (start bytes) (read_of bytes) (psbt_judged bytes fits) first second
